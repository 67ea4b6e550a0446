use Rattle.std.proofs.Common.{sym, ◌∙◌, ap}
use Rattle.std.specs.FinMap.{get}
use Rattle.std.specs.Option.{option_map}
use Rattle.gate_answers.specs.Reading.{answer_of}
use Rattle.gate_tables.specs.Tables.{answers_in}
use Rattle.std.proofs.lemmas.Result.{IfOk-weaker}
use Rattle.gate_sql.proofs.Shown.{get-answers}
use Rattle.gate_sql.proofs.book.SqlBookBook.kept.Goals as goal

pub returns-clause-answer : goal.returns-clause-answer
returns-clause-answer g c sound =
    let body = c.in-Ok.ensures.answer sound ∙ (λ i. get (answers_in g.S.Store (c.self.view_is i)) (c.text.ensures.value i)) in
    IfOk-weaker c.answer_in.result _ _ (λ answer is. is ∙ ap (option_map answer_of) body ∙ sym (get-answers _ c.args.id.now)) c.answer_in.ensures.value
