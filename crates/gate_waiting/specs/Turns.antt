-- WHOSE TURN IT IS: whatever others do, who is ready is handed on in order, and so after at most 255 others.
use Rattle.std.specs.Prelude.{◌≡◌, ◌⊎◌, ℕ, ◌+◌, ◌<◌, Bool, true, false, if◌then◌else◌, List, [], ◌∷◌, ◌++◌, slice_get, Option, Some, None}
use Rattle.gate_waiting.specs.Calls.{Hears, next, stops, with_guest}
use Rattle.gate_waiting.specs.Room.{IsRoom, Room, most, ready_numbers}
use Rattle.gate_waiting.specs.declared.guest.Ready.{Ready}
use Rattle.gate_waiting.specs.declared.guest.Reason.{Reason}

-- whom a call hands on
abbrev pub handed_by : Option Ready → List ℕ
handed_by None = []
handed_by (Some ready) = ready.guest.connection ∷ []

-- ONE CALL, whether it asks for the next one, and whom it hands on: a connection comes, bytes come, one is stopped, or the next is asked
-- for. A call that changes nothing is one that stops a connection which isn't here.
abbrev pub IsCall : {W : Type 0} → (W → Bool → List ℕ → Type 0) → Bool × List ℕ → Room W → Room W → Type 0
IsCall tells call old new =
    ((now : ℕ) × (new ≡ with_guest now old) × (call ≡ (false, [])))
    ⊎ (((now : ℕ) × (connection : ℕ) × (bytes : List ℕ) × Hears tells now connection bytes old new × (call ≡ (false, [])))
    ⊎ (((connection : ℕ) × (reason : Reason) × (new ≡ stops connection reason old) × (call ≡ (false, [])))
    ⊎ ((now : ℕ) × (new ≡ (next now old).1) × (call ≡ (true, handed_by (next now old).0)))))

-- CALLS ONE AFTER THE OTHER
abbrev pub CallsInTurn : {W : Type 0} → (W → Bool → List ℕ → Type 0) → List (Bool × List ℕ) → Room W → Room W → Type 0
CallsInTurn tells [] old new = new ≡ old
CallsInTurn {W} tells (call ∷ calls) old new = (between : Room W) × IsCall tells call old between × CallsInTurn tells calls between new

-- how often the next is asked for, and whom all of them hand on, in this order
abbrev pub asked_in : List (Bool × List ℕ) → ℕ
asked_in [] = 0
asked_in (call ∷ calls) = (if call.0 then 1 else 0) + asked_in calls

abbrev pub handed_in : List (Bool × List ℕ) → List ℕ
handed_in [] = []
handed_in (call ∷ calls) = call.1 ++ handed_in calls

-- The one that is ready at a place is handed on at that place, once the next is asked for more often than that. The first place is 0, and
-- each is below 256.
abbrev pub LawOfTurns : {W : Type 0} → (W → Bool → List ℕ → Type 0) → Type 0
LawOfTurns {W} tells = (calls : List (Bool × List ℕ)) (old new : Room W) (place connection : ℕ)
    → IsRoom tells old → CallsInTurn tells calls old new → slice_get (ready_numbers old.ready) place ≡ Some connection
    → (place < most) × (place < asked_in calls → slice_get (handed_in calls) place ≡ Some connection)
