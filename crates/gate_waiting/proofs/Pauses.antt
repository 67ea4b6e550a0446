-- Until when nobody is late, and that somebody is then.
use Rattle.std.proofs.Common.{arith, ◌≡◌, ◌⊎◌, inl, inr, ℕ, ◌+◌, ◌-◌, ◌*◌, ◌<◌, ◌≤◌, Bool, true, false, cond, List, [], ◌∷◌, length, Option, Some, None, IsSome, min, refl, ◌∙◌}
use Rattle.std.specs.List.{find}
use Rattle.gate_waiting.specs.Calls.{first_of, gives_up, late_in, next}
use Rattle.gate_waiting.specs.Pauses.{IsPause, due_of, first_due_of, last_time}
use Rattle.gate_waiting.specs.Room.{Room, is_late, is_later}
use Rattle.gate_waiting.specs.declared.guest.Guest.{Guest}
use Rattle.gate_waiting.specs.declared.guest.Ready.{Ready}
use Rattle.gate_waiting.specs.declared.guest.Reason.TheVariants.{Late}
use Rattle.gate_waiting.proofs.Rooms.{longer}

module _ (patience in_all : ℕ) where
  pub first_least : (guests : List Guest) → first_due_of patience in_all guests ≤ last_time
  first_least [] = omega arith
  first_least (guest ∷ guests) = let rest = first_least guests in omega arith

  not_late : (time : ℕ) (guest : Guest) → time < due_of patience in_all guest → is_later patience in_all time guest ≡ false
  not_late time guest before = grind arith

  nobody : (time : ℕ) (guests : List Guest) → time < first_due_of patience in_all guests → find (is_later patience in_all time) guests ≡ None
  nobody time [] before = refl
  nobody time (guest ∷ guests) before = let early = not_late time guest (omega arith) in rw early (nobody time guests (omega arith))

  -- one that is late stays so
  late_still : (time later : ℕ) (guest : Guest) → time ≤ later → is_later patience in_all time guest ≡ true → is_later patience in_all later guest ≡ true
  late_still time later guest after late = grind arith

  some_still : (time later : ℕ) (guests : List Guest) → time ≤ later → IsSome (find (is_later patience in_all time) guests)
      → IsSome (find (is_later patience in_all later) guests)
  some_still time later [] after some = some
  some_still time later (guest ∷ guests) after some =
      by (is_later patience in_all time guest) (is_later patience in_all later guest) (late_still time later guest after) (some_still time later guests after) some
    where
      by : (early late : Bool) → (early ≡ true → late ≡ true)
          → (IsSome (find (is_later patience in_all time) guests) → IsSome (find (is_later patience in_all later) guests))
          → IsSome (cond early (Some guest) (find (is_later patience in_all time) guests)) → IsSome (cond late (Some guest) (find (is_later patience in_all later) guests))
      by true true still others there = refl
      by true false still others there = let no = still refl in cc
      by false true still others there = refl
      by false false still others there = others there

  -- who is due is late, if that time can be told
  due_late : (guest : Guest) → (due_of patience in_all guest ≡ last_time) ⊎ (is_later patience in_all (due_of patience in_all guest) guest ≡ true)
  due_late guest = elim (is_before (due_of patience in_all guest)) [
    | inl before ↦ inr (exact before)
    | inr after ↦ inl (omega arith)
  ]
    where
      is_before : (due : ℕ) → (due < last_time) ⊎ (last_time ≤ due)
      is_before due = grind arith

      exact : due_of patience in_all guest < last_time → is_later patience in_all (due_of patience in_all guest) guest ≡ true
      exact before = grind arith

  some_at : (guests : List Guest) → (first_due_of patience in_all guests ≡ last_time)
      ⊎ IsSome (find (is_later patience in_all (first_due_of patience in_all guests)) guests)
  some_at [] = inl refl
  some_at (guest ∷ guests) =
      of_least (first_due_of patience in_all (guest ∷ guests))
      (least_is (due_of patience in_all guest) (first_due_of patience in_all guests) (first_due_of patience in_all (guest ∷ guests)) refl) (some_at guests)
    where
      least_is : (a b least : ℕ) → least ≡ min a b → (least ≡ a) ⊎ (least ≡ b)
      least_is a b least is = grind arith

      with_more : (least : ℕ) (late : Bool) → IsSome (find (is_later patience in_all least) guests)
          → IsSome (cond late (Some guest) (find (is_later patience in_all least) guests))
      with_more least true some = refl
      with_more least false some = some

      of_least : (least : ℕ) → (least ≡ due_of patience in_all guest) ⊎ (least ≡ first_due_of patience in_all guests)
          → (first_due_of patience in_all guests ≡ last_time) ⊎ IsSome (find (is_later patience in_all (first_due_of patience in_all guests)) guests)
          → (least ≡ last_time) ⊎ IsSome (cond (is_later patience in_all least guest) (Some guest) (find (is_later patience in_all least) guests))
      of_least least (inl is) rest = elim (due_late guest) [
        | inl last ↦ inl (is ∙ last)
        | inr late ↦ inr (rw is (rw late refl))
      ]
      of_least least (inr is) (inl last) = inl (is ∙ last)
      of_least least (inr is) (inr some) = inr (rw is (with_more (first_due_of patience in_all guests) (is_later patience in_all (first_due_of patience in_all guests) guest) some))

-- WHOM THE NEXT CALL HANDS ON
module _ {W : Type 0} (room : Room W) where
  hands_nobody : (time : ℕ) (found : Option Guest) → found ≡ None → room.ready ≡ [] → first_of (late_in time found room).ready (late_in time found room) ≡ (None, room)
  hands_nobody time None none ready = rw ready refl
  hands_nobody time (Some guest) none ready = absurd cc

  hands_first : (left : Room W) (ready : List Ready) → 0 < length ready → IsSome (first_of ready left).0
  hands_first left [] some = absurd (omega arith)
  hands_first left (first ∷ others) some = refl

  longer_by : (found : Option Guest) (time : ℕ) → length room.ready ≤ length (late_in time found room).ready
  longer_by None time = omega arith
  longer_by (Some guest) time = let long = longer room.ready (record { guest = guest; reason = Late }) in omega arith

  longer_if : (found : Option Guest) (time : ℕ) → IsSome found → 0 < length (late_in time found room).ready
  longer_if None time some = absurd cc
  longer_if (Some guest) time some = let long = longer room.ready (record { guest = guest; reason = Late }) in omega arith

  -- somebody is ready
  pub pause_if_ready : (now : ℕ) → 0 < length room.ready → IsPause now (Some 0) room
  pause_if_ready now some = (
    omega arith,
    λ time from before. absurd (omega arith),
    inl (hands_first (gives_up (now + 0) room) (gives_up (now + 0) room).ready
        (let long = longer_by (find (is_late room (now + 0)) room.guests) (now + 0) in omega arith)),
  )

  -- nobody is ready
  pub pause_until_late : (now : ℕ) → now ≤ last_time → room.ready ≡ [] → 0 < length room.guests
      → IsPause now (Some (first_due_of room.patience (10 * room.patience) room.guests - now)) room
  pause_until_late now told none some =
      let due = first_due_of room.patience (10 * room.patience) room.guests in (
        omega arith,
        λ time from before. hands_nobody time (find (is_late room time) room.guests) (nobody room.patience (10 * room.patience) time room.guests (omega arith)) none,
        at_due due (first_least room.patience (10 * room.patience) room.guests) (some_at room.patience (10 * room.patience) room.guests),
      )
    where
      handed : (time : ℕ) → IsSome (find (is_late room time) room.guests) → IsSome (next time room).0
      handed time some = hands_first (gives_up time room) (gives_up time room).ready (longer_if (find (is_late room time) room.guests) time some)

      at_due : (due : ℕ) → due ≤ last_time → (due ≡ last_time) ⊎ IsSome (find (is_later room.patience (10 * room.patience) due) room.guests)
          → IsSome (next (now + (due - now)) room).0 ⊎ (now + (due - now) ≡ last_time)
      at_due due within (inl last) = inr (omega arith)
      at_due due within (inr some) = inl (handed (now + (due - now)) (some_still room.patience (10 * room.patience) due (now + (due - now)) room.guests (omega arith) some))
