use Rattle.std.proofs.Common.{◌∙◌}
use Rattle.gate_jobs.proofs.Reports.{nothing_told, ok_if, text_told}
use Rattle.gate_jobs.proofs.reporting.report.Goals as goal

pub returns-in-Err-clause-reported : goal.returns-in-Err-clause-reported
returns-in-Err-clause-reported g c =
    let made = c.in-Err.ensures.made in
    (made.0, made.1, λ sound. (nothing_told _ c.in-Err.fault made.0 _ _ (made.2 sound), tt))

pub returns-in-Ok-clause-reported : goal.returns-in-Ok-clause-reported
returns-in-Ok-clause-reported g c =
    let made = c.in-Ok.ensures.made in (
      made.0,
      made.1,
      λ sound. (
        text_told _ c.send.result c.as_bytes.result.now made.0 (g.R.Read.remaining c.text_after.new.reader) (g.W.Write.contents c.args.writer.now) (g.W.Write.contents c.send.new.writer)
            (c.as_bytes.ensures.value ∙ (made.2 sound).0) (made.2 sound).1 c.send.ensures.ok c.send.ensures.err,
        ok_if c.send.result _ (made.2 sound).2,
      ),
    )
