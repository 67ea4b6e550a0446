use Rattle.std.proofs.lemmas.Result.{IfOk-weaker}
use Rattle.gate_rows.proofs.Alike.{same_back, same_then}
use Rattle.gate_rows.proofs.reading.read_gate.Goals as goal

pub returns-in-Ok-clause-rows : goal.returns-in-Ok-clause-rows
returns-in-Ok-clause-rows c = IfOk-weaker c.if_same.result _ _ (λ gate same. same_then _ _ _ same (same_back _ _ c.in_order-rows.ensures.same)) c.if_same.ensures.rows

pub returns-in-Ok-clause-state : goal.returns-in-Ok-clause-state
returns-in-Ok-clause-state c = IfOk-weaker c.if_same.result _ _ (λ gate stands others is. stands others (same_then _ _ _ is c.in_order-rows.ensures.same)) c.if_same.ensures.state
