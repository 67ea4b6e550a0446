use Rattle.std.proofs.Common.{◌≡◌, Err, Ok, inl, inr, refl, rules}
use Rattle.gate_http.specs.Responses.{fault_response, response_text}
use Rattle.gate_hook.proofs.Responding.{ends-sent, exact-one, fault-anyhow, fault-written-down, read-stays, sends-anyhow, sends-fault, sends-response, sends-unread, stays-fault, stays-response, told-sent, unchanged, unread-anyhow, written-down}
use Rattle.gate_hook.specs.declared.fault.HookFault.TheVariants.{Gate, Read}
use Rattle.gate_hook.proofs.requests.serve_guarded.Goals as goal

pub returns-in-Ok-clause-serves : goal.returns-in-Ok-clause-serves
returns-in-Ok-clause-serves g c =
    let made = c.in-Ok.ensures.answers in
    let answered = made.answered in
    let sent = c.send_response.ensures.sent in
    record {
      served = (answered.0, answered.1, λ sound. sends-response _ _ c.in-Ok.response _ _ _ _ _ (answered.2 sound) sent);
      taken = made.taken;
      same = λ sound input known none. unchanged _ (Ok c.in-Ok.response) _ _ input answered.0 _ _ known answered.1 (answered.2 sound) none;
      ends = ends-sent _ _ _ _ _ sent;
      exact = λ sound. exact-one _ _ _ _ _ _ _ (sends-response _ _ c.in-Ok.response _ _ _ _ _ (answered.2 sound) sent);
      cause = told-sent g.B.Book.may_answer _ _ _ _ _ tt sent;
      outlasts = made.outlasts;
      stays = λ begun honest. stays-response _ c.in-Ok.response _ _ _ (made.stays (λ _. begun) honest) sent;
      anyhow = λ honest. elim (made.anyhow honest) [
        | inl sound ↦ inl sound
        | inr anyhow ↦ inr (anyhow.0, anyhow.1, sends-anyhow _ _ c.in-Ok.response _ _ _ anyhow.2 sent)
      ];
    }

pub returns-in-Err-Gate-clause-serves : goal.returns-in-Err-Gate-clause-serves
returns-in-Err-Gate-clause-serves g c =
    let made = rw c.in-Err-Gate.field-0-is at c.in-Err-Gate.ensures.answers in
    let answered = made.answered in
    let text = response_text fault_response in
    let sent = c.send_unavailable.ensures in
    record {
      served = (answered.0, answered.1, λ sound. sends-fault _ _ c.in-Err-Gate.fault _ _ _ _ _ text refl (answered.2 sound) sent);
      taken = made.taken;
      same = λ sound input known none. unchanged _ (Err (Gate c.in-Err-Gate.fault)) _ _ input answered.0 _ _ known answered.1 (answered.2 sound) none;
      ends = ends-sent _ _ _ _ _ sent;
      exact = λ sound. exact-one _ _ _ _ _ _ _ (sends-fault _ _ c.in-Err-Gate.fault _ _ _ _ _ text refl (answered.2 sound) sent);
      cause = told-sent g.B.Book.may_answer _ _ _ _ _ made.cause sent;
      outlasts = made.outlasts;
      stays = λ begun honest. stays-fault _ c.in-Err-Gate.fault _ _ _ text refl (made.stays (λ _. begun) honest) sent;
      anyhow = λ honest. inr (answered.0, answered.1, fault-anyhow _ _ c.in-Err-Gate.fault _ _ _ text refl sent);
    }

pub returns-in-Err-clause-serves : goal.returns-in-Err-clause-serves
returns-in-Err-clause-serves g c =
    let made = c.in-Err.ensures.answers in
    let answered = made.answered in
    let read : c.in-Err.fault ≡ Read = search rules in
    record {
      served = (
        answered.0,
        answered.1,
        λ sound. sends-unread c.args.routes.now c.in-Err.fault answered.0 (g.B.Book.shows c.args.keeper.now) (g.B.Book.shows c.answer.new.keeper)
            (g.W.Write.contents c.args.writer.now) read (answered.2 sound),
      );
      taken = made.taken;
      same = λ sound input known none. unchanged _ (Err c.in-Err.fault) _ _ input answered.0 _ _ known answered.1 (answered.2 sound) none;
      ends = inl read;
      exact = λ sound. tt;
      cause = tt;
      outlasts = made.outlasts;
      stays = λ begun honest. read-stays c.in-Err.fault _ _ _ read (made.stays (λ _. begun) honest);
      anyhow = λ honest. inr (answered.0, answered.1, unread-anyhow _ _ _ _ read);
    }

pub returns-in-Ok-clause-transcript : goal.returns-in-Ok-clause-transcript
returns-in-Ok-clause-transcript g c =
    written-down _ _ _ _ _ _ _ _ _ _ c.send_response.ensures.told c.send_response.ensures.untold c.clear-2.ensures.bytes c.in-Ok.ensures.consumed c.send_response.ensures.sent

pub returns-in-Err-Gate-clause-transcript : goal.returns-in-Err-Gate-clause-transcript
returns-in-Err-Gate-clause-transcript g c =
    fault-written-down _ c.in-Err-Gate.fault _ _ (response_text fault_response) _ _ _ _ refl
    c.in-Err-Gate.ensures.consumed c.clear-2.ensures.bytes c.send_unavailable.ensures
