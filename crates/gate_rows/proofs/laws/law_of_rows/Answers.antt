use Rattle.gate_rows.proofs.OneState.{one_state}
use Rattle.gate_rows.proofs.laws.law_of_rows.Goals as goal

pub returns : goal.returns
returns c = λ s rows is limits same. one_state s rows ((c.law_of_checks.ensures s).1 is) limits same
