use Rattle.std.proofs.Common.{List, ℕ, ap, option_copied, string_bytes, subst, ◌∙◌}
use Rattle.std.proofs.lemmas.Result.{IfOk-weaker}
use Rattle.gate_hook.specs.Denials.{IsDenialIn}
use Rattle.gate_jobs.specs.Log.{line_text, time_of}
use Rattle.gate_jobs.proofs.logging.log_line.Goals as goal

pub returns : goal.returns
returns c =
    let method = c.first_words.result.0.now in
    let target = c.first_words.result.1.now in
    let denial = option_copied c.in_ok-denial.denial in
    let denied = subst (λ (response : List ℕ). IsDenialIn response denial) c.response.ensures.response c.in_ok-denial.ensures.denial in
    let text = string_bytes c.in_ok-ending.ending in
    record {
      line = IfOk-weaker c.format.result _ _ (λ line is. (
        method,
        target,
        denial,
        c.first_words.ensures,
        denied,
        is ∙ ap (λ (time : List ℕ). line_text time method target text) c.in_ok-time.ensures
            ∙ ap (line_text (time_of c.args.seconds) method target) c.in_ok-ending.ensures,
      )) c.format.ensures.ok;
    }
