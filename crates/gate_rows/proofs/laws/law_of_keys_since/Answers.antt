use Rattle.gate_rows.proofs.Since.{keys_since}
use Rattle.gate_rows.proofs.laws.law_of_keys_since.Goals as goal

pub returns : goal.returns
returns c = keys_since (λ s is. (c.law_of_checks.ensures s).1 is) c.law_of_keys.ensures
