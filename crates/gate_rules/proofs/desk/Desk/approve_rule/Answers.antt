use Rattle.std.proofs.Common.{sym}
use Rattle.gate_rules.proofs.desk.Desk.approve_rule.Goals as goal

pub returns-in-Some-clause-value : goal.returns-in-Some-clause-value
returns-in-Some-clause-value c = sym (c.in-Some.ensures.found _)
