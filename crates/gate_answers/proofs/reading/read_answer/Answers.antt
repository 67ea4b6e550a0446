use Rattle.std.proofs.Common.{◌≡◌, Result, Ok, Err, sym, ap, ◌∙◌, true≢false}
use Rattle.std.specs.Result.{IfErr, IsErrAnd}
use Rattle.serde_json.specs.View.{view}
use Rattle.gate_answers.specs.Answers.{answer_data}
use Rattle.gate_answers.specs.declared.reading.AnswerFault.{AnswerFault}
use Rattle.gate_answers.specs.declared.reading.AnswerFault.TheVariants.{NotAnswer, Memory}
use Rattle.gate_answers.proofs.reading.read_answer.Goals as goal

-- the fault that was passed on
passed_on : {X : Type 0} (r : Result X AnswerFault) (fault : AnswerFault) (P : AnswerFault → Type 0) → IsErrAnd r (λ passed. passed ≡ fault) → P fault → IfErr r P
passed_on (Ok value) fault P is holds = tt
passed_on (Err passed) fault P is holds = rw is holds

wanting : (fault : AnswerFault) → fault ≡ NotAnswer → fault ≡ Memory → ⊥
wanting fault is memory = cc

pub returns-in_err-answer-clause-not_answer : goal.returns-in_err-answer-clause-not_answer
returns-in_err-answer-clause-not_answer c =
    passed_on c.from_residual-in_err-answer.result c.in_err-answer.field-0.0 _ c.from_residual-in_err-answer.ensures.1
    (λ is replies good same. wanting _ is (c.in_err-answer.ensures.again replies good (cc (sym c.in_ok-value.ensures.ok ∙ same))))

pub returns-clause-not_answer : goal.returns-clause-not_answer
returns-clause-not_answer c =
    let d = view c.in_ok-value.value in
    λ _ replies good same.
    let same_data : d ≡ answer_data replies = cc (sym c.in_ok-value.ensures.ok ∙ same) in
    let one = c.in_ok-answer.ensures.again replies good same_data in
    true≢false (sym (c.in_ok-is_value_of.ensures.1 (same_data ∙ sym (ap answer_data one))) ∙ c.if-branch.false)
