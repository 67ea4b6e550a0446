use Rattle.std.proofs.Common.{◌≡◌, ◌≢◌, ℕ, List, Some, Result, Ok, Err, sym, ap, ◌∙◌}
use Rattle.std.specs.Result.{IfOk, IfErr}
use Rattle.serde_json.specs.Read.{read}
use Rattle.gate_state.specs.declared.reply.Reply.{Reply}
use Rattle.gate_answers.specs.Answers.{answer_data}
use Rattle.gate_answers.specs.Limits.{IsAnswer}
use Rattle.gate_answers.specs.declared.reading.AnswerFault.{AnswerFault}
use Rattle.gate_answers.specs.declared.reading.AnswerFault.TheVariants.{NotAnswer}
use Rattle.gate_answers.proofs.Again.{texts_law}
use Rattle.gate_answers.proofs.reading.reread.Goals as goal

module _ (text : List ℕ) (answer : List Reply) (is : read text ≡ Some (answer_data answer)) (good : IsAnswer answer) where
  the_same : (r : Result (List Reply) AnswerFault) → IfOk r (λ again. read text ≡ Some (answer_data again)) → IfOk r IsAnswer → IfOk r (λ again. again ≡ answer)
  the_same (Ok again) found good_again = sym (texts_law text again good_again found) ∙ texts_law text answer good is
  the_same (Err fault) found good_again = tt

  never_refused : (r : Result (List Reply) AnswerFault)
      → IfErr r (λ fault. fault ≡ NotAnswer → (replies : List Reply) → IsAnswer replies → read text ≢ Some (answer_data replies)) → r ≢ Err NotAnswer
  never_refused (Ok again) not_answer same = cc same
  never_refused (Err fault) not_answer same = not_answer (cc same) answer good is

pub returns-clause-again : goal.returns-clause-again
returns-clause-again c =
    the_same c.as_str.result.now c.args.answer.now (ap read c.as_str.ensures.value ∙ c.in_ok-text.ensures.reads_back) c.in_ok-text.ensures.good
    c.read_answer.result c.read_answer.ensures.ok c.read_answer.ensures.good

pub returns-clause-never : goal.returns-clause-never
returns-clause-never c =
    never_refused c.as_str.result.now c.args.answer.now (ap read c.as_str.ensures.value ∙ c.in_ok-text.ensures.reads_back) c.in_ok-text.ensures.good
    c.read_answer.result c.read_answer.ensures.not_answer
