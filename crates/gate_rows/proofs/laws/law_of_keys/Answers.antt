use Rattle.gate_rows.proofs.Keys.{have_keys}
use Rattle.gate_rows.proofs.laws.law_of_keys.Goals as goal

pub returns : goal.returns
returns c = λ s is. have_keys s ((c.law_of_checks.ensures s).1 is)
