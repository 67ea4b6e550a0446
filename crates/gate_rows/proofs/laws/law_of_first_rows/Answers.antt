use Rattle.gate_rows.proofs.FirstState.{one_first_state}
use Rattle.gate_rows.proofs.laws.law_of_first_rows.Goals as goal

pub returns : goal.returns
returns c = λ s t is_s is_t limits_s limits_t same.
    one_first_state s t ((c.law_of_checks.ensures s).1 is_s) ((c.law_of_checks.ensures t).1 is_t) limits_s limits_t same
