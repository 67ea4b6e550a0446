use Rattle.std.proofs.Common.{inl, inr, rules}
use Rattle.gate_jobs.proofs.Turns.{sound_or_fault}
use Rattle.gate_jobs.proofs.serving.serve_next.Goals as goal

pub returns-in-Ok-clause-served : goal.returns-in-Ok-clause-served
returns-in-Ok-clause-served g c =
    let serves = c.serve_request-served.ensures.serves in
    let served = serves.served in
    let result = c.serve_request-served.result in (
      record {
        unread = g.R.Read.remaining c.in-Ok.reader;
        blank = g.W.Write.contents c.in-Ok.writer;
        left = g.R.Read.remaining c.serve_request-served.new.reader;
        written = g.W.Write.contents c.serve_request-served.new.writer;
      },
      search rules,
      search rules,
      search rules,
      serves.taken,
      λ sound. (result, served.0, served.1, served.2 sound),
      λ honest. record {
        stays = λ sound. sound_or_fault result _ _ _ (serves.stays sound honest);
        due = λ sound. (result, served.0, served.1, served.2 sound);
        was = serves.outlasts.was;
        anyhow = elim (serves.anyhow honest) [ inl sound ↦ inl sound | inr anyhow ↦ inr (result, anyhow.0, anyhow.1, anyhow.2) ];
      },
    )
