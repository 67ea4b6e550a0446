use Rattle.gate_tables.proofs.Leading.{differences_lead}
use Rattle.gate_tables.proofs.laws.law_of_differences.Goals as goal

pub returns : goal.returns
returns c = differences_lead
