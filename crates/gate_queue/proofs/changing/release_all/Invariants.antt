use Rattle.std.proofs.Common.{◌≡◌, false, drop, if◌then◌else◌}
use Rattle.gate_queue.specs.Machine.{all_altered, landed, with_landing}
use Rattle.gate_queue.proofs.changing.release_all.Given as goal

-- the changes that are left, released on the desk that there is
abbrev pub invariant-loop-number : goal.invariant-loop-number
invariant-loop-number l =
    all_altered (if l.have_landed then landed else with_landing false) l.desk (drop l.number-index l.changes) ≡ all_altered (if l.have_landed then landed else with_landing false) l.fn.desk l.changes
