use Rattle.std.proofs.Common.{◌≡◌}
use Rattle.gate_state.specs.Checks.{fit_reports}
use Rattle.gate_state.proofs.checking.stages.fit_reports.Given as goal

abbrev pub invariant-loop-name : goal.invariant-loop-name
invariant-loop-name l = fit_reports l.desk.settings l.name-iterator ≡ fit_reports l.desk.settings l.reports.entries
