use Rattle.std.proofs.Common.{◌≡◌, ap, ◌∙◌, string_bytes}
use Rattle.std.proofs.lemmas.Result.{IfOk-weaker}
use Rattle.serde_json.specs.Written.{compact_text, has_float}
use Rattle.gate_deliveries.specs.Errors.{error_data, error_text_of}
use Rattle.gate_deliveries.proofs.Whole.{error_whole}
use Rattle.gate_deliveries.proofs.errors.error_text.Goals as goal

pub returns : goal.returns
unfolding error_text_of
returns c =
    let fault = c.args.fault.now in
    let is = c.in_ok-error_value.ensures in
    IfOk-weaker c.to_string.result _ (λ text. string_bytes text ≡ compact_text (error_data fault))
    (λ text written. written (ap has_float is ∙ error_whole fault) ∙ ap compact_text is) c.to_string.ensures.text
