use Rattle.std.proofs.Common.{[], ◌∷◌, ◌++◌, arith, refl}
use Rattle.std.proofs.lemmas.List.{length-append}
use Rattle.std.proofs.lemmas.List.Elements.{All-nil, All-push}
use Rattle.gate_store.proofs.Outlasting.{outlasts_both, outlasts_none}
use Rattle.gate_jobs.proofs.Turns.{one_more_accepted, one_more_ended, one_more_over, one_more_served}
use Rattle.gate_jobs.specs.Accepting.{Connection}
use Rattle.gate_jobs.specs.Serving.{IsTakenAsNeeded}
use Rattle.gate_jobs.proofs.serving.serve.Goals as goal

pub loop-init : goal.loop-init
loop-init g c = record {
  outlasts = outlasts_none g.B.Book _;
  served = ([], refl, refl, refl, refl, All-nil (IsTakenAsNeeded c.args.routes.now), λ sound. refl, λ honest. refl);
}

pub loop-preserved : goal.loop-preserved
loop-preserved g c =
    let before = c.loop.invariant in
    let connections = before.served.0 in
    let next = c.in-Ok.ensures in
    let last = next.served.0 in
    let token = c.args.routes.now in
    record {
      outlasts = outlasts_both g.B.Book _ _ _ before.outlasts next.ends.outlasts;
      served = (
        connections ++ last ∷ [],
        omega (arith, length-append connections (last ∷ []), before.served.1),
        one_more_accepted connections last _ _ _ before.served.2 next.served.1,
        one_more_ended (λ (connection : Connection). connection.written) connections last _ _ _ before.served.3 next.served.2,
        one_more_ended (λ (connection : Connection). connection.left) connections last _ _ _ before.served.4 next.served.3,
        All-push (IsTakenAsNeeded token) connections last before.served.5 next.served.4,
        λ sound. one_more_served token connections last _ _ _ (before.served.6 (next.ends.outlasts.was sound)) (next.served.5 sound),
        λ honest. one_more_over g.B.Book.shows g.B.Book.is_sound token connections last _ _ _ (before.served.7 (next.ends.outlasts.honest honest)) (next.served.6 honest),
      );
    }

pub returns-in-Err-clause-served : goal.returns-in-Err-clause-served
returns-in-Err-clause-served g c =
    let same = c.in-Err.ensures.none in
    let before = c.loop.invariant.served in
    rw (same.0, same.1, same.2, same.3) (
      before.0,
      omega (arith, before.1),
      before.2,
      before.3,
      before.4,
      before.5,
      before.6,
      before.7,
    )
