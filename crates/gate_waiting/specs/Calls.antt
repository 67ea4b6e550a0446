-- WHAT EACH CALL MAKES OF A ROOM.
use Rattle.std.specs.Prelude.{◌≡◌, ◌⊎◌, ℕ, ◌+◌, Bool, true, false, cond, ◌==◌, List, [], ◌∷◌, ◌++◌, Option, Some, None}
use Rattle.std.specs.List.{find}
use Rattle.gate_waiting.specs.Room.{Room, here, is_late}
use Rattle.gate_waiting.specs.declared.guest.Guest.{Guest}
use Rattle.gate_waiting.specs.declared.guest.Ready.{Ready}
use Rattle.gate_waiting.specs.declared.guest.Reason.{Reason}
use Rattle.gate_waiting.specs.declared.guest.Reason.TheVariants.{Whole, Lost, Late}

-- the first that passes a test leaves, and the others stay in their order
abbrev pub without_first : {X : Type 0} → (X → Bool) → List X → List X
without_first test [] = []
without_first test (x ∷ xs) = cond (test x) xs (x ∷ without_first test xs)

abbrev pub is_of : ℕ → Guest → Bool
is_of connection guest = guest.connection == connection

-- A CONNECTION COMES
abbrev pub new_guest : ℕ → ℕ → Guest
new_guest connection now = record { connection = connection; came = now; heard = now; bytes = [] }

abbrev pub with_guest : {W : Type 0} → ℕ → Room W → Room W
with_guest now room = record room { next = room.next + 1; guests = room.guests ++ new_guest room.next now ∷ [] }

-- ONE THAT WAITS goes on to wait, behind the others, or becomes ready
abbrev pub goes_on : {W : Type 0} → ℕ → Guest → Room W → Room W
goes_on connection guest room = record room { guests = without_first (is_of connection) room.guests ++ guest ∷ [] }

abbrev pub is_ready : {W : Type 0} → ℕ → Guest → Reason → Room W → Room W
is_ready connection guest reason room = record room {
  guests = without_first (is_of connection) room.guests;
  ready = room.ready ++ record { guest = guest; reason = reason } ∷ [];
}

-- BYTES COME on one that waits. It is ready if they make its request whole. If there is no memory for them, they are lost, and it is ready
-- with those before them.
abbrev pub with_bytes : ℕ → List ℕ → Guest → Guest
with_bytes now bytes guest = record guest { heard = now; bytes = guest.bytes ++ bytes }

abbrev pub IsJudged : (Bool → List ℕ → Type 0) → ℕ → List ℕ → Guest → Option Reason → Guest → Type 0
IsJudged tells now bytes guest None kept = tells false (guest.bytes ++ bytes) × (kept ≡ with_bytes now bytes guest)
IsJudged tells now bytes guest (Some reason) kept =
    ((reason ≡ Whole) × tells true (guest.bytes ++ bytes) × (kept ≡ with_bytes now bytes guest))
    ⊎ ((reason ≡ Lost) × (kept ≡ record guest { heard = now }))

abbrev pub moves_on : {W : Type 0} → ℕ → Guest → Option Reason → Room W → Room W
moves_on connection guest None room = goes_on connection guest room
moves_on connection guest (Some reason) room = is_ready connection guest reason room

abbrev pub HearsOn : {W : Type 0} → (W → Bool → List ℕ → Type 0) → ℕ → ℕ → List ℕ → Room W → Room W → Option Guest → Type 0
HearsOn tells now connection bytes old new None = new ≡ old
HearsOn tells now connection bytes old new (Some guest) =
    (reason : Option Reason) × (kept : Guest) × IsJudged (tells old.whole) now bytes guest reason kept
    × (new ≡ moves_on connection kept reason old)

abbrev pub Hears : {W : Type 0} → (W → Bool → List ℕ → Type 0) → ℕ → ℕ → List ℕ → Room W → Room W → Type 0
Hears tells now connection bytes old new = HearsOn tells now connection bytes old new (find (is_of connection) old.guests)

-- ONE THAT WAITS IS STOPPED: no more comes on it, or it can't be read, or there is no memory for more
abbrev pub stopped_in : {W : Type 0} → ℕ → Reason → Option Guest → Room W → Room W
stopped_in connection reason None room = room
stopped_in connection reason (Some guest) room = is_ready connection guest reason room

abbrev pub stops : {W : Type 0} → ℕ → Reason → Room W → Room W
stops connection reason room = stopped_in connection reason (find (is_of connection) room.guests) room

-- ONE THAT IS LATE GIVES UP ITS TURN TO WAIT: of those that are late the first is ready, behind the others
abbrev pub late_in : {W : Type 0} → ℕ → Option Guest → Room W → Room W
late_in now None room = room
late_in now (Some guest) room = record room {
  guests = without_first (is_late room now) room.guests;
  ready = room.ready ++ record { guest = guest; reason = Late } ∷ [];
}

abbrev pub gives_up : {W : Type 0} → ℕ → Room W → Room W
gives_up now room = late_in now (find (is_late room now) room.guests) room

-- THE NEXT is the one that has been ready the longest
abbrev pub first_of : {W : Type 0} → List Ready → Room W → Option Ready × Room W
first_of [] room = (None, room)
first_of (first ∷ others) room = (Some first, record room { ready = others })

abbrev pub next : {W : Type 0} → ℕ → Room W → Option Ready × Room W
next now room = first_of (gives_up now room).ready (gives_up now room)

-- of the one that is handed on: its request is whole, if that is the reason, and nothing is kept of it
pub record IsHanded {W : Type 0} (tells : W → Bool → List ℕ → Type 0) (old new : Room W) (it : Ready) : Type 0 where
  pub whole : it.reason ≡ Whole → tells old.whole true it.guest.bytes
  pub gone : here it.guest.connection new ≡ 0
