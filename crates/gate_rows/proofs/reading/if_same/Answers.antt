use Rattle.std.proofs.Common.{sym}
use Rattle.gate_rows.proofs.Alike.{same_back, same_then}
use Rattle.gate_rows.proofs.reading.if_same.Goals as goal

pub returns-in-Ok-true-clause-state : goal.returns-in-Ok-true-clause-state
returns-in-Ok-true-clause-state c = λ others is. sym (c.law_of_rows_of.ensures others (same_then _ _ _ (c.in-Ok-true.ensures c.in-Ok-true.field-0-test) (same_back others _ is)))
