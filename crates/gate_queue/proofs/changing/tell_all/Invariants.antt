use Rattle.std.proofs.Common.{◌≡◌, drop}
use Rattle.gate_rules.specs.View.{with_status}
use Rattle.gate_queue.specs.Machine.{all_altered}
use Rattle.gate_queue.proofs.changing.tell_all.Given as goal

-- the changes that are left, told on the desk that there is
abbrev pub invariant-loop-number : goal.invariant-loop-number
invariant-loop-number l = all_altered (with_status l.name l.is_success) l.desk (drop l.number-index l.numbers) ≡ all_altered (with_status l.name l.is_success) l.fn.desk l.numbers
