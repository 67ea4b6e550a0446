-- What is known of the connections goes on to be what the events say.
use Rattle.std.proofs.Common.{arith, eqb, ◌≡◌, ◌≢◌, inl, inr, ℕ, Bool, true, false, cond, ◌<◌, length, slice_index_or, List, [], ◌∷◌, ◌++◌, Option, Some, None, refl, sym, ap, subst, ◌∙◌}
use Rattle.std.proofs.lemmas.Bool.{eqb-true}
use Rattle.std.proofs.lemmas.List.{append-nil}
use Rattle.std.proofs.lemmas.Bool.Decides.{eqb_tells}
use Rattle.std.specs.List.{AllByRecursion, find, remove}
use Rattle.gate_waiting.proofs.Rooms.{all_more, all_out, is_out, one, one_itself}
use Rattle.gate_waiting.specs.Calls.{IsJudged, is_of, late_in, moves_on, new_guest, stopped_in, with_bytes, with_guest, without_first}
use Rattle.gate_waiting.specs.Events.{Event, came, heard}
use Rattle.gate_waiting.specs.Room.{IsAsTold, IsReadyAsTold, IsRoom, Room, Tells, is_late, ready_numbers, times, waiting_numbers}
use Rattle.gate_waiting.specs.declared.guest.Guest.{Guest}
use Rattle.gate_waiting.specs.declared.guest.Ready.{Ready}
use Rattle.gate_waiting.specs.declared.guest.Reason.{Reason}
use Rattle.gate_waiting.specs.declared.guest.Reason.TheVariants.{Late, Lost}

-- NOT AMONG THESE
not_waiting : (c : ℕ) (gs : List Guest) → times c (waiting_numbers gs) ≡ 0 → AllByRecursion (λ g. g.connection ≢ c) gs
not_waiting c [] none = tt
not_waiting c (g ∷ gs) none = (λ same. let once = one_itself c in let is = ap (one c) same in omega arith, not_waiting c gs (omega arith))

not_ready : (c : ℕ) (rs : List Ready) → times c (ready_numbers rs) ≡ 0 → AllByRecursion (λ r. r.guest.connection ≢ c) rs
not_ready c [] none = tt
not_ready c (r ∷ rs) none = (λ same. let once = one_itself c in let is = ap (one c) same in omega arith, not_ready c rs (omega arith))

both : {X : Type 0} (P Q R : X → Type 0) → ((x : X) → P x → Q x → R x) → (xs : List X) → AllByRecursion P xs → AllByRecursion Q xs → AllByRecursion R xs
both P Q R join [] p q = tt
both P Q R join (x ∷ xs) p q = (join x p.0 q.0, both P Q R join xs p.1 q.1)

-- AN EVENT ON ANOTHER CONNECTION says nothing of one
module _ (events : List Event) (now c : ℕ) (guest : Guest) (other : guest.connection ≢ c) (told : IsAsTold events guest) where
  is_other : eqb guest.connection c ≡ false
  is_other = elim (eqb_tells guest.connection c) [ inl h ↦ absurd (other h.1) | inr h ↦ h.0 ]

  pub told_if_heard : (bytes : List ℕ) → IsAsTold (heard now c bytes ∷ events) guest
  told_if_heard bytes = record { bytes = rw is_other told.bytes; came = told.came; heard = rw is_other told.heard }

  pub told_if_came : IsAsTold (came now c ∷ events) guest
  told_if_came = record { bytes = rw is_other told.bytes; came = rw is_other told.came; heard = rw is_other told.heard }

-- nor of one for whose last bytes there was no memory
module _ (events : List Event) (now c : ℕ) (ready : Ready) (other : ready.guest.connection ≢ c) (told : IsReadyAsTold events ready) where
  is_another : eqb ready.guest.connection c ≡ false
  is_another = elim (eqb_tells ready.guest.connection c) [ inl h ↦ absurd (other h.1) | inr h ↦ h.0 ]

  pub ready_if_heard : (bytes : List ℕ) → IsReadyAsTold (heard now c bytes ∷ events) ready
  ready_if_heard bytes = record { all = λ kept. told_if_heard events now c ready.guest other (told.all kept) bytes; front = (told.front.0, rw is_another told.front.1) }

  pub ready_if_came : IsReadyAsTold (came now c ∷ events) ready
  ready_if_came = record { all = λ kept. told_if_came events now c ready.guest other (told.all kept); front = (told.front.0, rw is_another told.front.1) }

-- one that is as told is so if it is ready, whatever the reason
pub as_told : (events : List Event) (guest : Guest) (reason : Reason) → IsAsTold events guest → IsReadyAsTold events (record { guest = guest; reason = reason })
as_told events guest reason told = record { all = λ kept. told; front = ([], sym told.bytes ∙ sym (append-nil guest.bytes)) }

-- and one on it says just that
itself : (c : ℕ) → eqb c c ≡ true
itself c = elim (eqb_tells c c) [ inl h ↦ h.0 | inr h ↦ absurd (h.1 refl) ]

pub told_of_new : (events : List Event) (now c : ℕ) → IsAsTold (came now c ∷ events) (new_guest c now)
told_of_new events now c = record { bytes = rw (itself c) refl; came = rw (itself c) refl; heard = rw (itself c) refl }

pub told_with_bytes : (events : List Event) (now : ℕ) (bytes : List ℕ) (guest : Guest) → IsAsTold events guest
    → IsAsTold (heard now guest.connection bytes ∷ events) (with_bytes now bytes guest)
told_with_bytes events now bytes guest told = record {
  bytes = rw (itself guest.connection, ← told.bytes) refl;
  came = told.came;
  heard = rw (itself guest.connection) refl;
}

module _ {W : Type 0} (tells : W → Bool → List ℕ → Type 0) (events : List Event) (room : Room W) (is : IsRoom tells room) (told : Tells events room) where
  pub tells_with_guest : (now : ℕ) → Tells (came now room.next ∷ events) (with_guest now room)
  tells_with_guest now =
      let none = is.below room.next (omega arith) in
      record {
        guests = all_more (IsAsTold (came now room.next ∷ events)) room.guests (new_guest room.next now)
            (both (λ g. g.connection ≢ room.next) (IsAsTold events) (IsAsTold (came now room.next ∷ events)) (λ g. told_if_came events now room.next g) room.guests
            (not_waiting room.next room.guests (omega arith)) told.guests)
            (told_of_new events now room.next);
        ready = both (λ r. r.guest.connection ≢ room.next) (IsReadyAsTold events) (IsReadyAsTold (came now room.next ∷ events)) (λ r. ready_if_came events now room.next r) room.ready
            (not_ready room.next room.ready (omega arith)) told.ready;
      }

  -- what stays of those that wait, and those that are ready, isn't the one that was found
  left_out : (c : ℕ) (found : Guest) → find (is_of c) room.guests ≡ Some found
      → (found.connection ≡ c) × (times c (waiting_numbers (without_first (is_of c) room.guests)) ≡ 0) × (times c (ready_numbers room.ready) ≡ 0)
  left_out c found at =
      let out = is_out (is_of c) room.guests found at in
      let same = eqb-true found.connection c out.passes in
      let once = is.once c in
      let numbers = out.numbers c in
      let itself = ap (one c) same ∙ one_itself c in
      (same, omega arith, omega arith)

  known_of : (test : Guest → Bool) (found : Guest) → find test room.guests ≡ Some found → IsAsTold events found
  known_of test found at = of_found room.guests told.guests at
    where
      some_is : (x : Guest) → Some x ≡ Some found → IsAsTold events x → IsAsTold events found
      some_is x same known = subst (IsAsTold events) (ap (λ o. elim o as (λ _. Guest) [ None ↦ x | Some y ↦ y ]) same) known

      of_found : (gs : List Guest) → AllByRecursion (IsAsTold events) gs → find test gs ≡ Some found → IsAsTold events found
      of_found [] all is = cc
      of_found (x ∷ gs) all is = by (test x) (of_found gs all.1) is
        where
          by : (b : Bool) → (find test gs ≡ Some found → IsAsTold events found) → cond b (Some x) (find test gs) ≡ Some found → IsAsTold events found
          by true behind is = some_is x is all.0
          by false behind is = behind is

  others_told : (now c : ℕ) (bytes : List ℕ) (found : Guest) → find (is_of c) room.guests ≡ Some found
      → AllByRecursion (IsAsTold (heard now c bytes ∷ events)) (without_first (is_of c) room.guests)
  others_told now c bytes found at =
      let others = without_first (is_of c) room.guests in
      both (λ g. g.connection ≢ c) (IsAsTold events) (IsAsTold (heard now c bytes ∷ events)) (λ g other known. told_if_heard events now c g other known bytes) others
      (not_waiting c others (left_out c found at).1) (all_out (IsAsTold events) (is_of c) room.guests told.guests)

  ready_told : (now c : ℕ) (bytes : List ℕ) (found : Guest) → find (is_of c) room.guests ≡ Some found
      → AllByRecursion (IsReadyAsTold (heard now c bytes ∷ events)) room.ready
  ready_told now c bytes found at =
      both (λ r. r.guest.connection ≢ c) (IsReadyAsTold events) (IsReadyAsTold (heard now c bytes ∷ events)) (λ r other known. ready_if_heard events now c r other known bytes) room.ready
      (not_ready c room.ready (left_out c found at).2) told.ready

  kept_told : (now c : ℕ) (bytes : List ℕ) (found kept : Guest) → find (is_of c) room.guests ≡ Some found → kept ≡ with_bytes now bytes found
      → IsAsTold (heard now c bytes ∷ events) kept
  kept_told now c bytes found kept at same =
      subst (λ (g : Guest). IsAsTold (heard now c bytes ∷ events) g) (sym same)
      (subst (λ (d : ℕ). IsAsTold (heard now d bytes ∷ events) (with_bytes now bytes found)) (left_out c found at).0
      (told_with_bytes events now bytes found (known_of (is_of c) found at)))

  lost_told : (now c : ℕ) (bytes : List ℕ) (found kept : Guest) → find (is_of c) room.guests ≡ Some found → kept ≡ record found { heard = now }
      → IsReadyAsTold (heard now c bytes ∷ events) (record { guest = kept; reason = Lost })
  lost_told now c bytes found kept at same =
      subst (λ (g : Guest). IsReadyAsTold (heard now c bytes ∷ events) (record { guest = g; reason = Lost })) (sym same) (record {
        all = λ kept. absurd (kept refl);
        front = (bytes, sym (kept_told now c bytes found (with_bytes now bytes found) at refl).bytes);
      })

  judged_told : (now c : ℕ) (bytes : List ℕ) (found kept : Guest) (reason : Reason) → find (is_of c) room.guests ≡ Some found
      → IsJudged (tells room.whole) now bytes found (Some reason) kept → IsReadyAsTold (heard now c bytes ∷ events) (record { guest = kept; reason = reason })
  judged_told now c bytes found kept reason at (inl h) = as_told (heard now c bytes ∷ events) kept reason (kept_told now c bytes found kept at h.2)
  judged_told now c bytes found kept reason at (inr h) =
      subst (λ (r : Reason). IsReadyAsTold (heard now c bytes ∷ events) (record { guest = kept; reason = r })) (sym h.0) (lost_told now c bytes found kept at h.1)

  -- bytes came on one that waited
  pub tells_moved : (now c : ℕ) (bytes : List ℕ) (found kept : Guest) (reason : Option Reason) → find (is_of c) room.guests ≡ Some found
      → IsJudged (tells room.whole) now bytes found reason kept → Tells (heard now c bytes ∷ events) (moves_on c kept reason room)
  tells_moved now c bytes found kept None at judged = record {
    guests = all_more (IsAsTold (heard now c bytes ∷ events)) (without_first (is_of c) room.guests) kept (others_told now c bytes found at)
        (kept_told now c bytes found kept at judged.1);
    ready = ready_told now c bytes found at;
  }
  tells_moved now c bytes found kept (Some reason) at judged = record {
    guests = others_told now c bytes found at;
    ready = all_more (IsReadyAsTold (heard now c bytes ∷ events)) room.ready (record { guest = kept; reason = reason }) (ready_told now c bytes found at)
        (judged_told now c bytes found kept reason at judged);
  }

  -- one that waited is ready for another reason
  moved_told : (test : Guest → Bool) (reason : Reason) (guest : Guest) → find test room.guests ≡ Some guest
      → Tells {W = W} events (record { whole = room.whole; patience = room.patience; next = room.next; guests = without_first test room.guests; ready = room.ready ++ record { guest = guest; reason = reason } ∷ [] })
  moved_told test reason guest at = record {
    guests = all_out (IsAsTold events) test room.guests told.guests;
    ready = all_more (IsReadyAsTold events) room.ready (record { guest = guest; reason = reason }) told.ready (as_told events guest reason (known_of test guest at));
  }

  pub tells_stopped : (c : ℕ) (reason : Reason) (found : Option Guest) → find (is_of c) room.guests ≡ found → Tells events (stopped_in c reason found room)
  tells_stopped c reason None at = told
  tells_stopped c reason (Some guest) at = moved_told (is_of c) reason guest at

  pub tells_late : (now : ℕ) (found : Option Guest) → find (is_late room now) room.guests ≡ found → Tells events (late_in now found room)
  tells_late now None at = told
  tells_late now (Some guest) at = moved_told (is_late room now) Late guest at

-- the first of those that are ready, and the others
pub first_told : (events : List Event) (ready : List Ready) (first : Ready) → 0 < length ready → first ≡ slice_index_or ready 0 first → AllByRecursion (IsReadyAsTold events) ready
    → AllByRecursion (IsReadyAsTold events) (remove ready 0) × IsReadyAsTold events first
first_told events [] first some is all = absurd (omega arith)
first_told events (x ∷ ready) first some is all = (all.1, subst (IsReadyAsTold events) (sym is) all.0)
