use Rattle.std.proofs.Common.{subst}
use Rattle.gate_sql.proofs.Holding.{holds_of}
use Rattle.gate_sql.proofs.Opened.{Opened, opened}
use Rattle.gate_tables.specs.Applied.{applied}
use Rattle.gate_tables.specs.Contents.{AreSame}
use Rattle.gate_tables.specs.Schemas.{stored_rows}
use Rattle.gate_tables.specs.Tables.{is_sound, rows_in}
use Rattle.sqlite.specs.Held.{state}
use Rattle.gate_sql.proofs.book.adopt.Given.{Over}
use Rattle.gate_sql.proofs.book.adopt.Goals as goal

-- what is so once the tables are taken over
all : (g : Over) (c : goal.After-connection g) → is_sound g.S.Store c.in-Ok-take.tables → Opened g.S.Store c.args.connection c.in-Ok-take.tables
all g c sound =
    let was = c.in-Ok-take.ensures.takes_over.outlasts.was sound in
    let stored = stored_rows (state g.S.Store c.in-Ok.found.0).now in
    opened g.S.Store c.args.connection c.in-Ok.found.0 c.in-Ok-take.tables c.args.version c.in-Ok.found.1.rows c.in-Ok.found.1.answers c.in-Ok-understood.changes.items
    c.law_of_rows.ensures c.in-Ok-understood.ensures.rows c.in-Ok-understood.ensures.texts c.requires.version
    (c.in-Ok.ensures.found was) (c.in-Ok.ensures.contents.rows was) (c.in-Ok.ensures.contents.answers was)
    (subst (λ cs. AreSame (rows_in g.S.Store c.in-Ok-take.tables) (applied cs stored)) c.as_slice.ensures.value (c.in-Ok-take.ensures.rows sound)) (c.in-Ok-take.ensures.answers sound)

pub invariant_of-result : goal.invariant_of-result
invariant_of-result g c sound = (all g c sound).held

pub returns-in-Ok-take-clause-stands : goal.returns-in-Ok-take-clause-stands
returns-in-Ok-take-clause-stands g c sound = (all g c.before sound).stands

pub returns-in-Ok-take-clause-holds : goal.returns-in-Ok-take-clause-holds
returns-in-Ok-take-clause-holds g c sound = holds_of g.S.Store c.in-Ok-take.tables (c.connection.ensures.book sound) (all g c.before sound).held
