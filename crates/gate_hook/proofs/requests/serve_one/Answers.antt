use Rattle.std.proofs.Common.{[], None, inl, inr, lit≤, refl}
use Rattle.std.proofs.KnownBytes.{Consumes-nil}
use Rattle.gate_http.specs.Responses.{fault_response, response_text}
use Rattle.gate_queue.specs.declared.fault.Fault.TheVariants.{Memory}
use Rattle.gate_store.proofs.Outlasting.{outlasts_none}
use Rattle.gate_hook.specs.Served.{AnswersOne}
use Rattle.gate_hook.proofs.Needing.{takes-new}
use Rattle.gate_hook.proofs.Responding.{ends-sent, exact-one, fault-anyhow, sends-fault, some-input, stays-fault, told-sent}
use Rattle.gate_hook.proofs.requests.serve_one.Goals as goal

-- There is no memory for the routes, and nothing is taken of the input.
pub returns-in_default : goal.returns-in_default
returns-in_default g c =
    let input = some-input _ _ ([], Consumes-nil (g.R.Read.remaining c.args.reader.now)) in
    let records = g.B.Book.shows c.args.keeper.now in
    let before = g.W.Write.contents c.args.writer.now in
    let after = g.W.Write.contents c.send_unavailable.new.writer in
    let answers : AnswersOne None c.send_unavailable.result input.0 records records before after =
    sends-fault None _ Memory _ _ _ _ _ (response_text fault_response) refl (inl refl) c.send_unavailable.ensures in
    record {
      serves = record {
        served = (input.0, input.1, λ sound. answers);
        taken = ([], Consumes-nil _, takes-new [] (inl refl) (lit≤ tt));
        same = λ sound whole known none. refl;
        ends = ends-sent _ _ _ _ _ c.send_unavailable.ensures;
        exact = λ sound. exact-one None c.send_unavailable.result input.0 records records before after answers;
        cause = told-sent g.B.Book.may_answer _ _ _ _ _ (inl (inl refl)) c.send_unavailable.ensures;
        outlasts = outlasts_none g.B.Book _;
        stays = λ begun honest. stays-fault _ Memory _ _ _ (response_text fault_response) refl tt c.send_unavailable.ensures;
        anyhow = λ honest. inr (
          input.0,
          input.1,
          fault-anyhow None c.send_unavailable.result Memory input.0 before after (response_text fault_response) refl c.send_unavailable.ensures,
        );
      };
    }

-- No token is needed.
pub returns : goal.returns
returns g c = record { serves = rw c.in-Ok.ensures.token at c.serve_guarded-served.ensures.serves }
