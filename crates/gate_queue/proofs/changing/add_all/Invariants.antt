use Rattle.std.proofs.Common.{◌≡◌, drop}
use Rattle.std.specs.FinSet as set
use Rattle.std.specs.List.{fold}
use Rattle.gate_queue.proofs.changing.add_all.Given as goal

-- the names that are left, added to those that were
abbrev pub invariant-loop-name : goal.invariant-loop-name
invariant-loop-name l = fold set.insert l.delegates (drop l.name-index l.names) ≡ fold set.insert l.fn.delegates l.names
