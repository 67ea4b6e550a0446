use Rattle.gate_tables.proofs.Others.{parts_lead}
use Rattle.gate_tables.proofs.laws.law_of_parts.Goals as goal

pub returns : goal.returns
returns c = parts_lead
