-- ROOM FOR NUMBERS. Each batch has a number of its own. The next number is 9,000,000,000,000,000 at the most, so the last that a batch
-- may have is one less.
use Rattle.std.specs.Prelude.{ℕ, ◌+◌, ◌≤◌, nat_lt, Bool, ⊤}
use Rattle.gate_state.specs.declared.batch.Branch.{Branch}
use Rattle.gate_state.specs.declared.batch.Branch.TheVariants.{Staging, Trying}
use Rattle.gate_state.specs.declared.queue.Queue.{Queue}

-- so many numbers are left from the next one on
abbrev pub HasRoomFor : ℕ → Queue → Type 0
HasRoomFor count queue = queue.next + count ≤ 9_000_000_000_000_000

-- what is asked for before an act: four numbers are left, so the next one is 8,999,999,999,999,996 at the most
abbrev pub HasRoom : Queue → Type 0
HasRoom queue = HasRoomFor 4 queue

-- and whether they aren't
abbrev pub is_full : Queue → Bool
is_full queue = nat_lt 9_000_000_000_000_000 (queue.next + 4)

-- A batch on `Staging` that ends may be split in two. A try that ends uses no number.
abbrev pub HasRoomToEnd : Branch → Queue → Type 0
HasRoomToEnd Staging queue = HasRoomFor 2 queue
HasRoomToEnd Trying queue = ⊤
