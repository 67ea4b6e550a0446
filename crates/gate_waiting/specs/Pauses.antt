-- HOW LONG NOBODY IS NEXT, if nothing comes.
use Rattle.std.specs.Prelude.{◌≡◌, ◌⊎◌, ℕ, ◌+◌, ◌-◌, ◌^◌, ◌<◌, ◌≤◌, List, [], ◌∷◌, length, Option, Some, None, IsSome, min}
use Rattle.gate_waiting.specs.Calls.{next}
use Rattle.gate_waiting.specs.Room.{Room}
use Rattle.gate_waiting.specs.declared.guest.Guest.{Guest}

-- the last time that can be told
abbrev pub last_time : ℕ
last_time = 2 ^ 64 - 1

-- Nobody is here. Or somebody is, and `next` hands on nobody and changes nothing until so long from now on, and then it hands on one, if
-- that time can be told.
abbrev pub IsPause : {W : Type 0} → ℕ → Option ℕ → Room W → Type 0
IsPause now None room = (room.guests ≡ []) × (room.ready ≡ [])
IsPause now (Some pause) room =
    (0 < length room.guests + length room.ready)
    × ((time : ℕ) → now ≤ time → time < now + pause → next time room ≡ (None, room))
    × (IsSome (next (now + pause) room).0 ⊎ (now + pause ≡ last_time))

-- when it is late to wait for one, with this patience and so long in all
abbrev pub due_of : ℕ → ℕ → Guest → ℕ
due_of patience in_all guest = min (min (guest.heard + patience) last_time) (min (guest.came + in_all) last_time)

-- when it is late to wait for the first of some
abbrev pub first_due_of : ℕ → ℕ → List Guest → ℕ
first_due_of patience in_all [] = last_time
first_due_of patience in_all (guest ∷ guests) = min (due_of patience in_all guest) (first_due_of patience in_all guests)
