use Rattle.std.proofs.Common.{sym, subst}
use Rattle.gate_sql.proofs.Holding.{holds_of}
use Rattle.gate_sql.proofs.book.SqlBook.into_connection.Goals as goal
use Rattle.gate_sql.specs.Shown.{Holds}
use Rattle.gate_tables.specs.Tables.{is_sound}

pub returns-clause-holds : goal.returns-clause-holds
returns-clause-holds g c =
    subst (λ h. is_sound g.S.Store h → Holds g.S.Store h) (sym c.into_connection.ensures.value) (λ sound. holds_of g.S.Store c.self.inside.tables (c.connection.ensures.book sound) (c.self.invariant sound))
