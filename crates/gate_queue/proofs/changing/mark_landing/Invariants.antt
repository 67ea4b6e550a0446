use Rattle.std.proofs.Common.{◌≡◌, true, drop}
use Rattle.gate_queue.specs.Machine.{all_altered, with_landing}
use Rattle.gate_queue.proofs.changing.mark_landing.Given as goal

-- the changes that are left, marked on the desk that there is
abbrev pub invariant-loop-number : goal.invariant-loop-number
invariant-loop-number l = all_altered (with_landing true) l.desk (drop l.number-index l.changes) ≡ all_altered (with_landing true) l.fn.desk l.changes
