use Rattle.gate_sql.specs.Shown.{shown}
use Rattle.sqlite.specs.Files.{over_files}
use Rattle.gate_bot.proofs.guarding.guard_in_file.Goals as goal

pub returns-in-Ok-clause-told : goal.returns-in-Ok-clause-told
returns-in-Ok-clause-told g c honest sound =
    let begun = c.guard_over.ensures.honest honest in
    let told = c.guard_over.ensures.told sound in
    (shown over_files c.in-Ok.book, c.in-Ok.ensures.records begun, told.0, told.1, told.2)

pub returns-in-Ok-clause-stays : goal.returns-in-Ok-clause-stays
returns-in-Ok-clause-stays g c honest = c.guard_over.ensures.stays c.in-Ok.ensures.stays honest
