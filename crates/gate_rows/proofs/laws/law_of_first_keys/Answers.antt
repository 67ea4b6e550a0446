use Rattle.gate_rows.proofs.FirstKeys.{have_first_keys}
use Rattle.gate_rows.proofs.laws.law_of_first_keys.Goals as goal

pub returns : goal.returns
returns c = λ s is limits. have_first_keys s ((c.law_of_checks.ensures s).1 is) limits
