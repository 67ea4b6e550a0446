use Rattle.std.proofs.Common.{◌∙◌, ap}
use Rattle.gate_report.specs.Queue.{queue_text_of}
use Rattle.gate_store.specs.Run.{Records}
use Rattle.gate_jobs.proofs.Reports.{gate_misses, served_misses}
use Rattle.gate_jobs.proofs.reporting.text_after.Goals as goal

pub returns-in-Ok-clause-made : goal.returns-in-Ok-clause-made
returns-in-Ok-clause-made g c =
    let served = c.in_default.ensures.served in (
      served.0,
      served.1,
      λ sound.
          let lines = (served.3 (c.in-Ok.ensures.makes.outlasts.was sound)).1 in
          (c.in-Ok.ensures.makes.text sound ∙ ap (λ (r : Records). queue_text_of r.state) lines.0, lines.2, c.in-Ok.ensures.makes.same sound ∙ lines.0),
    )

pub returns-in-Err-queue_of-clause-made : goal.returns-in-Err-queue_of-clause-made
returns-in-Err-queue_of-clause-made g c =
    let served = c.in_default.ensures.served in
    (served.0, served.1, λ sound. gate_misses _ c.in-Err-queue_of.fault served.0 (g.R.Read.remaining c.serve_lines.new.reader) c.in-Err-queue_of.ensures.makes.fault)

pub returns-in-Err-clause-made : goal.returns-in-Err-clause-made
returns-in-Err-clause-made g c =
    let served = c.in-Err.ensures.served in
    (served.0, served.1, λ sound. served_misses _ c.in-Err.fault served.0 _ _ _ _ served.2 (served.3 sound))
