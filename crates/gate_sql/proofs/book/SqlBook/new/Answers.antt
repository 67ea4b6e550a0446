use Rattle.std.proofs.Common.{◌∙◌, sym, ap, subst}
use Rattle.gate_rows.proofs.Alike.{same_back}
use Rattle.gate_sql.proofs.Holding.{AreTexts, holds_of, is_held, led_to, no_texts}
use Rattle.gate_sql.proofs.Shown.{none_of_none}
use Rattle.gate_sql.proofs.book.SqlBook.new.Goals as goal
use Rattle.gate_rows.specs.Encoding.{rows_of}
use Rattle.gate_sql.specs.Shown.{answers_of}
use Rattle.gate_tables.specs.Applied.{no_rows}
use Rattle.gate_tables.specs.Tables.{answers_in, rows_in}

pub invariant_of-result : goal.invariant_of-result
invariant_of-result g c sound =
    let rows = rows_in g.S.Store c.in-Ok-new.tables in
    let gate = c.new-gate.result in
    let same = led_to c.as_slice.result.now c.in-Ok.first.items rows no_rows no_rows (rows_of gate) (c.in-Ok-new.ensures.rows sound) c.as_slice.ensures.value (λ i. no_rows) c.in-Ok.ensures in
    is_held gate rows (answers_in g.S.Store c.in-Ok-new.tables) (c.law_of_rows_of.ensures rows (same_back rows (rows_of gate) same)) c.is_of_machine.ensures.state c.is_of_machine.ensures.limits same
    (subst AreTexts (sym (c.in-Ok-new.ensures.answers sound)) no_texts)

pub returns-in-Ok-new-clause-value : goal.returns-in-Ok-new-clause-value
returns-in-Ok-new-clause-value g c sound =
    let rows = rows_in g.S.Store c.in-Ok-new.tables in
    let gate = c.new-gate.result in
    let same = led_to c.as_slice.result.now c.in-Ok.first.items rows no_rows no_rows (rows_of gate) (c.in-Ok-new.ensures.rows sound) c.as_slice.ensures.value (λ i. no_rows) c.in-Ok.ensures in
    let stands = c.law_of_rows_of.ensures rows (same_back rows (rows_of gate) same) ∙ c.new-gate.ensures.value in
    let keeps = ap answers_of (c.in-Ok-new.ensures.answers sound) ∙ none_of_none in
    λ i. record { state = stands i; kept = keeps i }

pub returns-in-Ok-new-clause-holds : goal.returns-in-Ok-new-clause-holds
returns-in-Ok-new-clause-holds g c sound = holds_of g.S.Store c.in-Ok-new.tables (c.connection.ensures.book sound) (invariant_of-result g c.before sound)
