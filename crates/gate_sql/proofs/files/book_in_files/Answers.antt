use Rattle.sqlite.specs.Files.{file_state}
use Rattle.gate_sql.proofs.Standing.{if-ok, stand_in}
use Rattle.gate_sql.proofs.files.book_in_files.Goals as goal

pub returns-in-Ok-clause-records : goal.returns-in-Ok-clause-records
returns-in-Ok-clause-records g c =
    let book = c.opened.ensures in
    if-ok c.opened.result book.takes_over book.takes_over book.stands (λ opened takes _ stands honest.
    let whole = c.in-Ok.ensures.connects.opened (takes.outlasts.honest honest) in
    let found = c.in-Ok.ensures.connects.found (takes.outlasts.honest honest) in
    stand_in _ (file_state c.in-Ok.connection) _ (record { holds = found.holds; reads = found.reads }) whole.0 whole.1 (stands (takes.stays honest)))

pub returns-in-Ok-clause-shield : goal.returns-in-Ok-clause-shield
returns-in-Ok-clause-shield g c =
    let book = c.opened.ensures in
    if-ok c.opened.result book.takes_over book.takes_over book.takes_over (λ opened takes _ _ honest. takes.outlasts.shield (c.in-Ok.ensures.connects.guarded (takes.outlasts.honest honest)))
