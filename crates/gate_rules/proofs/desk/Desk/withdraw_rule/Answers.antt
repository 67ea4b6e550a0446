use Rattle.std.proofs.Common.{sym}
use Rattle.gate_rules.proofs.desk.Desk.withdraw_rule.Goals as goal

pub returns-in-Some : goal.returns-in-Some
returns-in-Some c = sym (c.in-Some.ensures.found _)
