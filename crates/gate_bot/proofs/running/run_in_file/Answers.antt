use Rattle.gate_sql.specs.Shown.{shown}
use Rattle.sqlite.specs.Files.{over_files}
use Rattle.gate_bot.proofs.running.run_in_file.Goals as goal

pub returns-in-Ok-clause-served : goal.returns-in-Ok-clause-served
returns-in-Ok-clause-served g c =
    let served = c.serve_book.ensures.served in (
      served.0,
      served.1,
      served.2,
      λ honest.
          let begun = c.serve_book.ensures.honest honest in
          (shown over_files c.in-Ok.book, c.in-Ok.ensures.records begun, served.4 (c.in-Ok.ensures.stays begun) honest),
    )
