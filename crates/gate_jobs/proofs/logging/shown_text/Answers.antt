use Rattle.std.proofs.Common.{sym}
use Rattle.gate_jobs.proofs.Visible.{visible-text}
use Rattle.gate_jobs.proofs.logging.shown_text.Goals as goal

pub returns-in-Err : goal.returns-in-Err
returns-in-Err c = absurd (c.in-Err.ensures.cases.0 (visible-text c.front_of-front.result.now (sym c.if-not-are_visible.ensures)))
