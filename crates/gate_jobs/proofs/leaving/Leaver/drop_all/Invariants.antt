use Rattle.std.proofs.Common.{◌≡◌, ◌≤◌}
use Rattle.gate_jobs.proofs.leaving.Leaver.drop_all.Given as goal

abbrev pub invariant-loop : goal.invariant-loop
invariant-loop l = (l.self.left ≤ l.fn.self.left) × (l.self.limits ≡ l.fn.self.limits)
