use Rattle.std.proofs.Common.{◌≡◌, ◌∷◌, ◌++◌, [], List, ℕ, take, true, IsOk, rules, sym, ap, subst, ◌∙◌}
use Rattle.std.proofs.lemmas.List.{take_more}
use Rattle.gate_text.specs.SmallTexts.{delivery_id_of}
use Rattle.gate_rows.proofs.Each.{all_joined}
use Rattle.gate_sql.specs.Versions.{AreKeptAnswers, IsAnswerText, IsKeptAnswer}
use Rattle.gate_sql.proofs.opening.check_answers.Goals as goal

pub loop-answer-preserved : goal.loop-answer-preserved
loop-answer-preserved c =
    let answers = c.args.answers.now in
    let so_far = take c.loop-answer.answer-index answers in
    let yes : c.in_ok-is_kept.field-0 ≡ true = search rules in
    let kept = c.in_ok-is_kept.ensures.0 yes in
    let item : IsKeptAnswer c.answer-item.result = (
      subst (λ (text : List ℕ). IsOk (delivery_id_of text)) c.as_str.ensures.value kept.0,
      subst IsAnswerText c.as_str-in-loop-answer.ensures.value kept.1,
    ) in
    let more = take_more answers c.loop-answer.answer-index c.answer-item.result c.loop-answer-test.true
    ∙ ap (λ (entry : List ℕ × List ℕ). so_far ++ entry ∷ []) (sym c.answer-item.is) in
    subst AreKeptAnswers (sym more) (all_joined IsKeptAnswer so_far (c.answer-item.result ∷ []) c.loop-answer.invariant (item, tt))
