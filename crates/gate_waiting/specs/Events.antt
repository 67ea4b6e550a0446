-- WHAT HAPPENS ON CONNECTIONS, the newest first, and what that says of each.
use Rattle.std.specs.Prelude.{ℕ, ◌==◌, List, [], ◌∷◌, ◌++◌, if◌then◌else◌}

pub data Event : Type 0 where
  -- at this time this connection came
  came : ℕ → ℕ → Event
  -- at this time these bytes came on it
  heard : ℕ → ℕ → List ℕ → Event

-- the bytes that have come on a connection, in their order
abbrev pub bytes_of : ℕ → List Event → List ℕ
bytes_of c [] = []
bytes_of c (came now d ∷ events) = if c == d then [] else bytes_of c events
bytes_of c (heard now d bytes ∷ events) = if c == d then bytes_of c events ++ bytes else bytes_of c events

-- when it came
abbrev pub came_at : ℕ → List Event → ℕ
came_at c [] = 0
came_at c (came now d ∷ events) = if c == d then now else came_at c events
came_at c (heard now d bytes ∷ events) = came_at c events

-- when bytes came on it last, or else when it came
abbrev pub heard_at : ℕ → List Event → ℕ
heard_at c [] = 0
heard_at c (came now d ∷ events) = if c == d then now else heard_at c events
heard_at c (heard now d bytes ∷ events) = if c == d then now else heard_at c events
