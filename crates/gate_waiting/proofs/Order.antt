-- Who is handed on, and then who is ready, is who was ready, and then who became so.
use Rattle.std.proofs.Common.{arith, ◌≡◌, ◌⊎◌, inl, inr, ℕ, zero, suc, ◌+◌, ◌<◌, ◌≤◌, Bool, true, false, if◌then◌else◌, List, [], ◌∷◌, ◌++◌, length, slice_index_or, Option, Some, None, refl, sym, ap, subst, ◌∙◌}
use Rattle.std.proofs.lemmas.List.{append-nil, append_assoc, get_or_append_left}
use Rattle.std.proofs.lemmas.Option.{get_or_from_slice_get, slice_get-get_or, slice_get_within}
use Rattle.std.specs.List.{find}
use Rattle.gate_waiting.proofs.Rooms.{longer}
use Rattle.gate_waiting.specs.Calls.{HearsOn, first_of, gives_up, is_of, late_in, moves_on, next, stopped_in}
use Rattle.gate_waiting.specs.Room.{Room, is_late, ready_numbers}
use Rattle.gate_waiting.specs.Turns.{CallsInTurn, IsCall, LawOfTurns, asked_in, handed_by, handed_in}
use Rattle.gate_waiting.specs.declared.guest.Guest.{Guest}
use Rattle.gate_waiting.specs.declared.guest.Ready.{Ready}
use Rattle.gate_waiting.specs.declared.guest.Reason.{Reason}
use Rattle.gate_waiting.specs.declared.guest.Reason.TheVariants.{Late}

abbrev pub IsInOrder : List ℕ → List ℕ → List ℕ → Type 0
IsInOrder handed old new = (joined : List ℕ) × (handed ++ new ≡ old ++ joined)

numbers_more : (rs : List Ready) (r : Ready) → ready_numbers (rs ++ r ∷ []) ≡ ready_numbers rs ++ r.guest.connection ∷ []
numbers_more [] r = refl
numbers_more (x ∷ rs) r = ap (λ ns. x.guest.connection ∷ ns) (numbers_more rs r)

numbers_length : (rs : List Ready) → length (ready_numbers rs) ≡ length rs
numbers_length [] = refl
numbers_length (x ∷ rs) = ap suc (numbers_length rs)

length_append : (xs ys : List ℕ) → length (xs ++ ys) ≡ length xs + length ys
length_append [] ys = omega arith
length_append (x ∷ xs) ys = let rest = length_append xs ys in omega arith

module _ {W : Type 0} (tells : W → Bool → List ℕ → Type 0) where
  same_order : (old new : Room W) → ready_numbers new.ready ≡ ready_numbers old.ready → IsInOrder [] (ready_numbers old.ready) (ready_numbers new.ready)
  same_order old new same = ([], same ∙ sym (append-nil (ready_numbers old.ready)))

  heard_order : (old new : Room W) (now c : ℕ) (bytes : List ℕ) (found : Option Guest) → HearsOn tells now c bytes old new found
      → IsInOrder [] (ready_numbers old.ready) (ready_numbers new.ready)
  heard_order old new now c bytes None is = same_order old new (ap (λ (r : Room W). ready_numbers r.ready) is)
  heard_order old new now c bytes (Some guest) (reason, kept, judged, is) = of_reason reason is
    where
      of_reason : (reason : Option Reason) → new ≡ moves_on c kept reason old → IsInOrder [] (ready_numbers old.ready) (ready_numbers new.ready)
      of_reason None same = same_order old new (ap (λ (r : Room W). ready_numbers r.ready) same)
      of_reason (Some why) same = (kept.connection ∷ [], ap (λ (r : Room W). ready_numbers r.ready) same ∙ numbers_more old.ready (record { guest = kept; reason = why }))

  stopped_order : (old : Room W) (c : ℕ) (reason : Reason) (found : Option Guest) → IsInOrder [] (ready_numbers old.ready) (ready_numbers (stopped_in c reason found old).ready)
  stopped_order old c reason None = same_order old old refl
  stopped_order old c reason (Some guest) = (guest.connection ∷ [], numbers_more old.ready (record { guest = guest; reason = reason }))

  late_order : (now : ℕ) (old : Room W) (found : Option Guest) → IsInOrder [] (ready_numbers old.ready) (ready_numbers (late_in now found old).ready)
  late_order now old None = same_order old old refl
  late_order now old (Some guest) = (guest.connection ∷ [], numbers_more old.ready (record { guest = guest; reason = Late }))

  first_order : (old : Room W) (ready : List Ready) → old.ready ≡ ready → IsInOrder (handed_by (first_of ready old).0) (ready_numbers ready) (ready_numbers (first_of ready old).1.ready)
  first_order old [] at = ([], ap ready_numbers at)
  first_order old (first ∷ others) at = ([], sym (append-nil (ready_numbers (first ∷ others))))

  -- one after the other
  joined : (first others a b c : List ℕ) → IsInOrder first a b → IsInOrder others b c → IsInOrder (first ++ others) a c
  joined first others a b c one rest =
      (one.0 ++ rest.0, append_assoc first others c ∙ ap (λ ns. first ++ ns) rest.1 ∙ sym (append_assoc first b rest.0) ∙ ap (λ ns. ns ++ rest.0) one.1 ∙ append_assoc a one.0 rest.0)

  next_order : (now : ℕ) (old : Room W) → IsInOrder (handed_by (next now old).0) (ready_numbers old.ready) (ready_numbers (next now old).1.ready)
  next_order now old =
      let late = gives_up now old in
      joined [] (handed_by (next now old).0) (ready_numbers old.ready) (ready_numbers late.ready) (ready_numbers (next now old).1.ready)
      (late_order now old (find (is_late old now) old.guests)) (first_order late late.ready refl)

  one_order : (old new : Room W) (call : Bool × List ℕ) → IsCall tells call old new → IsInOrder call.1 (ready_numbers old.ready) (ready_numbers new.ready)
  one_order old new call (inl (now, is, none)) =
      rw none (same_order old new (ap (λ (r : Room W). ready_numbers r.ready) is))
  one_order old new call (inr (inl (now, c, bytes, hears, none))) =
      rw none (heard_order old new now c bytes (find (is_of c) old.guests) hears)
  one_order old new call (inr (inr (inl (c, reason, is, none)))) =
      rw (none, is) (stopped_order old c reason (find (is_of c) old.guests))
  one_order old new call (inr (inr (inr (now, is, whom)))) =
      rw (whom, is) (next_order now old)

  all_order : (calls : List (Bool × List ℕ)) (old new : Room W) → CallsInTurn tells calls old new → IsInOrder (handed_in calls) (ready_numbers old.ready) (ready_numbers new.ready)
  all_order [] old new is = same_order old new (ap (λ (r : Room W). ready_numbers r.ready) is)
  all_order (call ∷ calls) old new (between, first, others) =
      joined call.1 (handed_in calls) (ready_numbers old.ready) (ready_numbers between.ready) (ready_numbers new.ready) (one_order old between call first) (all_order calls between new others)

  -- WHO ASKS IS GIVEN ONE, as long as somebody is ready
  hands_one : (now : ℕ) (old : Room W) → 0 < length (ready_numbers old.ready) → 1 ≤ length (handed_by (next now old).0)
  hands_one now old some = of_first (gives_up now old) (gives_up now old).ready (more (find (is_late old now) old.guests))
    where
      more : (found : Option Guest) → 0 < length (late_in now found old).ready
      more None = let long = numbers_length old.ready in omega arith
      more (Some guest) = let long = longer old.ready (record { guest = guest; reason = Late }) in omega arith

      of_first : (left : Room W) (ready : List Ready) → 0 < length ready → 1 ≤ length (handed_by (first_of ready left).0)
      of_first left [] none = absurd (omega arith)
      of_first left (first ∷ others) there = omega arith

  at_most_one : (ready : Option Ready) → length (handed_by ready) ≤ 1
  at_most_one None = omega arith
  at_most_one (Some ready) = omega arith

  -- a call that asks hands on one, if somebody is ready, and no other call does
  asks : (old new : Room W) (call : Bool × List ℕ) → IsCall tells call old new → 0 < length (ready_numbers old.ready)
      → ((call.0 ≡ false) × (length call.1 ≡ 0)) ⊎ ((call.0 ≡ true) × (length call.1 ≡ 1))
  asks old new call (inl (now, is, none)) some = inl (rw none (refl, refl))
  asks old new call (inr (inl (now, c, bytes, hears, none))) some = inl (rw none (refl, refl))
  asks old new call (inr (inr (inl (c, reason, is, none)))) some = inl (rw none (refl, refl))
  asks old new call (inr (inr (inr (now, is, whom)))) some =
      inr (rw whom (refl, let one = hands_one now old some in let most_one = at_most_one (next now old).0 in omega arith))

  enough_more : (call : Bool × List ℕ) (asked handed was left place : ℕ) → ((call.0 ≡ false) × (length call.1 ≡ 0)) ⊎ ((call.0 ≡ true) × (length call.1 ≡ 1))
      → was ≤ length call.1 + left → ((p : ℕ) → p < left → p < asked → p < handed) → place < was → place < (if call.0 then 1 else 0) + asked → place < length call.1 + handed
  enough_more call asked handed was left place (inl none) order others within more =
      let more : place < (if false then 1 else 0) + asked = subst (λ (b : Bool). place < (if b then 1 else 0) + asked) none.0 more in
      let zero = none.1 in
      let behind = others place (omega arith) (omega arith) in
      omega arith
  enough_more call asked handed was left zero (inr one) order others within more = let is = one.1 in omega arith
  enough_more call asked handed was left (suc p) (inr one) order others within more =
      let more : suc p < (if true then 1 else 0) + asked = subst (λ (b : Bool). suc p < (if b then 1 else 0) + asked) one.0 more in
      let is = one.1 in
      let behind = others p (omega arith) (omega arith) in
      omega arith

  long_enough : (old new handed : List ℕ) → IsInOrder handed old new → length old ≤ length handed + length new
  long_enough old new handed order =
      let same = ap length order.1 in
      let one = length_append handed new in
      let other = length_append old order.0 in
      omega arith

  enough : (calls : List (Bool × List ℕ)) (old new : Room W) (place : ℕ) → CallsInTurn tells calls old new → place < length (ready_numbers old.ready)
      → place < asked_in calls → place < length (handed_in calls)
  enough [] old new place in_turn within asked = absurd (omega arith)
  enough (call ∷ calls) old new place (between, first, others) within asked =
      let long = length_append call.1 (handed_in calls) in
      let found = enough_more call (asked_in calls) (length (handed_in calls)) (length (ready_numbers old.ready)) (length (ready_numbers between.ready)) place
      (asks old between call first (omega arith)) (long_enough (ready_numbers old.ready) (ready_numbers between.ready) call.1 (one_order old between call first))
      (λ p inside more. enough calls between new p others inside more) within asked in
      omega arith

  pub turns : LawOfTurns tells
  turns calls old new place c room in_turn at =
      let order = all_order calls old new in_turn in
      let within = slice_get_within (ready_numbers old.ready) place c at in
      let long = numbers_length old.ready in
      let few = room.few in (
        omega arith,
        λ asked.
            let handed = enough calls old new place in_turn within asked in
            slice_get-get_or (handed_in calls) place c handed
            ∙ ap Some (sym (get_or_append_left (handed_in calls) (ready_numbers new.ready) c place handed)
            ∙ ap (λ ns. slice_index_or ns place c) order.1
            ∙ get_or_append_left (ready_numbers old.ready) order.0 c place within
            ∙ get_or_from_slice_get (ready_numbers old.ready) place c c at),
      )
