use Rattle.std.proofs.Common.{rules}
use Rattle.std.proofs.lemmas.Result.{IfOk-weaker}
use Rattle.gate_store.specs.Run.{Records}
use Rattle.gate_hook.proofs.requests.reported.Goals as goal

pub returns-in-Ok : goal.returns-in-Ok
returns-in-Ok g c =
    let records : Records = record (g.B.Book.shows c.args.keeper.now) { state = c.in-Ok.gate.now } in
    record {
      makes = record {
        response = search rules;
        anyhow = IfOk-weaker c.reported_by.result _ _ (λ response is. (records, is)) c.reported_by.ensures.response;
        same = search rules;
        outlasts = search rules;
        stays = search rules;
        cause = search rules;
        fault = search rules;
      };
    }
