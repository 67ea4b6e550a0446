use Rattle.std.proofs.Common.{sym, subst}
use Rattle.gate_rows.proofs.Alike.{same_back, same_rows, same_then}
use Rattle.gate_sql.proofs.book.changes_to.Goals as goal
use Rattle.gate_rows.specs.Decoding.{state_in}
use Rattle.gate_rows.specs.Encoding.{rows_of}
use Rattle.gate_tables.specs.Applied.{applied}
use Rattle.gate_tables.specs.Contents.{AreSame}
use Rattle.gate_tables.specs.Tables.{rows_in}

pub returns-clause-led : goal.returns-clause-led
returns-clause-led g c sound held =
    let had = rows_in g.S.Store c.args.tables.now in
    let state = state_in had in
    let machine = c.is_of_machine.ensures in
    let was = c.law_of_keys.ensures state held.state in
    let now = c.law_of_keys.ensures c.args.gate.now machine.state in
    let before = same_then (rows_of state) had _ (same_back had (rows_of state) held.rows_are) (c.in_ok-rows.ensures.rows sound) in
    let after = same_rows (rows_of c.args.gate.now) _ (sym c.in_ok-now.ensures.value) in
    let listed = c.in_ok-row_changes.ensures.value (rows_of state) (rows_of c.args.gate.now) was now before after in
    subst (λ changes. AreSame (applied changes had) (rows_of c.args.gate.now)) (sym listed)
    (c.law_of_changed_rows.ensures state c.args.gate.now had held.state machine.state held.rows_are)
