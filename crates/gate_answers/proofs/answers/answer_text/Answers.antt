use Rattle.std.proofs.Common.{◌≡◌, ◌≤◌, List, Some, ap, sym, subst, ◌∙◌, string_bytes}
use Rattle.std.proofs.lemmas.Result.{IfOk-weaker}
use Rattle.serde_json.specs.Data.{Data, depth}
use Rattle.serde_json.specs.Read.{read, max_depth}
use Rattle.serde_json.specs.Written.{compact_text, has_float}
use Rattle.gate_state.specs.declared.reply.Reply.{Reply}
use Rattle.gate_answers.specs.Answers.{answer_data, answer_text_of}
use Rattle.gate_answers.specs.Limits.{IsAnswer}
use Rattle.gate_answers.specs.Reading.{answer_of}
use Rattle.gate_answers.proofs.Again.{texts_law}
use Rattle.gate_answers.proofs.Depths.{answer_within}
use Rattle.gate_answers.proofs.Whole.{answer_whole}
use Rattle.gate_answers.proofs.answers.answer_text.Goals as goal

pub returns-clause-text : goal.returns-clause-text
unfolding answer_text_of
returns-clause-text c =
    let answer = c.as_slice.result.now in
    let is = c.in_ok-answer_value.ensures.value in
    IfOk-weaker c.to_string.result _ (λ text. string_bytes text ≡ compact_text (answer_data c.args.answer.now))
    (λ text written. written (ap has_float is ∙ answer_whole answer) ∙ ap compact_text is ∙ ap (λ (a : List Reply). compact_text (answer_data a)) c.as_slice.ensures.value)
    c.to_string.ensures.text

pub returns-clause-reads_back : goal.returns-clause-reads_back
returns-clause-reads_back c =
    let answer = c.as_slice.result.now in
    let is = c.in_ok-answer_value.ensures.value in
    IfOk-weaker c.to_string.result _ (λ text. read (string_bytes text) ≡ Some (answer_data c.args.answer.now))
    (λ text again. again (subst (λ (d : Data). depth d ≤ max_depth) (sym is) (answer_within answer)) ∙ ap Some is ∙ ap (λ (a : List Reply). Some (answer_data a)) c.as_slice.ensures.value)
    c.to_string.ensures.reads_back

pub returns-clause-reads : goal.returns-clause-reads
returns-clause-reads c =
    let answer = c.args.answer.now in
    let good : IsAnswer answer = subst IsAnswer c.as_slice.ensures.value c.in_ok-answer_value.ensures.good in
    IfOk-weaker c.to_string.result (λ text. read (string_bytes text) ≡ Some (answer_data answer)) (λ text. answer_of (string_bytes text) ≡ answer)
    (λ text back. texts_law (string_bytes text) answer good back) (returns-clause-reads_back c)
