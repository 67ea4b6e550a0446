use Rattle.gate_rows.proofs.Since.{changes_since_lead}
use Rattle.gate_rows.proofs.laws.law_of_changes_since.Goals as goal

pub returns : goal.returns
returns c = changes_since_lead (λ s is. (c.law_of_checks.ensures s).1 is) c.law_of_keys.ensures c.law_of_parts.ensures
