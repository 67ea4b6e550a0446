use Rattle.std.proofs.Common.{rules, ◌≡◌, inl, subst, List, ℕ}
use Rattle.std.proofs.lemmas.Result.{IfErr-weaker}
use Rattle.gate_jobs.specs.Serving.{greeting}
use Rattle.gate_hook.specs.Sending.{IsCutOff}
use Rattle.gate_jobs.proofs.serving.announce.Goals as goal

pub returns-clause-err : goal.returns-clause-err
returns-clause-err g c =
    let before = g.W.Write.contents c.args.writer.now in
    let after = g.W.Write.contents c.send.new.writer in
    let line : c.as_bytes.result.now ≡ greeting c.args.port = search rules in
    IfErr-weaker c.send.result _ _ (λ fault cut. inl (cut.0, subst (λ (text : List ℕ). IsCutOff text before after) line cut.1)) c.send.ensures.err
