use Rattle.std.proofs.Common.{◌≡◌}
use Rattle.gate_state.specs.Checks.{fit_changes}
use Rattle.gate_state.proofs.checking.changes.fit_changes.Given as goal

abbrev pub invariant-loop-number : goal.invariant-loop-number
invariant-loop-number l = fit_changes l.ready l._number-iterator ≡ fit_changes l.ready l.changes.entries
