use Rattle.gate_bot.proofs.reporting.report.Goals as goal

pub returns-clause-reported : goal.returns-clause-reported
returns-clause-reported g c =
    let reported = c.report_over.ensures.reported in
    (reported.0, reported.1, reported.2.1 tt)
