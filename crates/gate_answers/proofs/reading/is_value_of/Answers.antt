use Rattle.std.proofs.Common.{sym, ap, ◌∙◌, string_bytes}
use Rattle.std.proofs.lemmas.Slice.Eq.{bytes_eq-Decides}
use Rattle.serde_json.specs.Read.{read}
use Rattle.serde_json.specs.Written.{compact_text, has_float}
use Rattle.gate_answers.specs.Answers.{answer_text_of}
use Rattle.gate_answers.proofs.Whole.{answer_whole}
use Rattle.gate_answers.proofs.reading.is_value_of.Goals as goal

-- equal texts read back as one value, and one value has one text
pub returns : goal.returns
unfolding answer_text_of
returns c =
    let found = c.in_ok-found.ensures in
    let written = c.in_ok-written.ensures in
    let decides = bytes_eq-Decides (string_bytes c.in_ok-found.found) (string_bytes c.in_ok-written.written) in (
      (λ equal. cc (sym (found.reads_back c.requires.nests) ∙ ap read (decides.0 (sym c.eq.ensures ∙ equal)) ∙ written.reads_back)),
      λ same. c.eq.ensures ∙ decides.1 (found.text (ap has_float same ∙ answer_whole c.args.answer.now) ∙ ap compact_text same ∙ sym written.text),
    )
