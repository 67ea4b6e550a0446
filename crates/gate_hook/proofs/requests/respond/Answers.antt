use Rattle.std.proofs.Common.{inr, rules}
use Rattle.gate_hook.proofs.Responding.{report-anyhow}
use Rattle.gate_hook.proofs.requests.respond.Goals as goal

pub returns-in_ok-reported-in-Ok-Report : goal.returns-in_ok-reported-in-Ok-Report
returns-in_ok-reported-in-Ok-Report g c = record {
  makes = record {
    responds = search rules;
    anyhow = λ honest. inr (report-anyhow _ _ _ (search rules) c.in_ok-reported-in-Ok-Report.ensures.makes.anyhow);
    outlasts = search rules;
    stays = search rules;
    cause = search rules;
  };
}
