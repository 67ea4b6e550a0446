use Rattle.std.proofs.Common.{◌≡◌}
use Rattle.gate_state.specs.Checks.{are_held}
use Rattle.gate_state.specs.State.{marks_on}
use Rattle.gate_state.proofs.checking.places.are_held.Given as goal

abbrev pub invariant-loop-number : goal.invariant-loop-number
invariant-loop-number l = are_held (marks_on l.on l.desk) l.lane l.number-iterator ≡ are_held (marks_on l.on l.desk) l.lane l.changes.entries
