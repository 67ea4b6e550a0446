use Rattle.std.proofs.Common.{◌∙◌, ap}
use Rattle.gate_rows.specs.Decoding.{state_in}
use Rattle.gate_tables.specs.Tables.{rows_in}
use Rattle.std.proofs.lemmas.Result.{IfOk-weaker}
use Rattle.gate_sql.proofs.book.SqlBookBook.load.Goals as goal

pub returns-clause-gate : goal.returns-clause-gate
returns-clause-gate g c sound =
    IfOk-weaker c.gate_of.result _ _ (λ gate is. is _ (c.in-Ok.ensures.rows sound) ∙ ap (λ held. state_in (rows_in g.S.Store held)) c.self.view_is) c.gate_of.ensures.state
