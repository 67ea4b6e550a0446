use Rattle.std.proofs.Common.{ap, subst}
use Rattle.gate_jobs.specs.Report.{IsReported}
use Rattle.gate_store.specs.Run.{Records}
use Rattle.gate_bot.proofs.reporting.report_over.Goals as goal

pub returns-clause-reported : goal.returns-clause-reported
returns-clause-reported g c =
    let reported = c.report-reported.ensures.reported in
    let last = c.report-reported.new.keeper in
    let left = g.R.Read.remaining c.report-reported.new.reader in
    let before = g.W.Write.contents c.args.writer.now in
    let after = g.W.Write.contents c.report-reported.new.writer in
    let same = ap g.B.Book.shows c.new-keeper.ensures.value in
    (reported.0, reported.1, (last, λ sound. subst (λ (old : Records). IsReported old c.report-reported.result reported.0 left before after) same (reported.2 sound).0))
