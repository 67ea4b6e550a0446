use Rattle.std.proofs.Common.{sym}
use Rattle.gate_rules.proofs.desk.Desk.rules_unless_landing.Goals as goal

pub returns-in-Some-clause-value : goal.returns-in-Some-clause-value
returns-in-Some-clause-value c = sym (c.in-Some.ensures.found _)

pub returns-in-Some-clause-found : goal.returns-in-Some-clause-found
returns-in-Some-clause-found c = λ others. c.in-Some.ensures.found _
