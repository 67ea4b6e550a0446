use Rattle.std.proofs.Common.{sym, ◌∙◌, ap, rules, subst}
use Rattle.std.specs.FinMap.{insert}
use Rattle.gate_answers.specs.Reading.{answer_of}
use Rattle.gate_sql.proofs.Holding.{Leaves, holds_of, leaves, led_to}
use Rattle.gate_sql.proofs.book.SqlBookBook.commit_since.Given.{Over}
use Rattle.gate_sql.proofs.book.SqlBookBook.commit_since.Goals as goal
use Rattle.gate_rows.specs.Decoding.{state_in}
use Rattle.gate_rows.specs.Encoding.{rows_of}
use Rattle.gate_store.specs.Performing.{LeadsFrom}
use Rattle.gate_sql.specs.Shown.{Holds, answers_of}
use Rattle.gate_tables.specs.Tables.{answers_in, is_sound, rows_in}

-- Nothing is written: the tables hold what they held.
pub returns-in_err-changes-clause-holds : goal.returns-in_err-changes-clause-holds
returns-in_err-changes-clause-holds g c =
    subst (λ held. is_sound g.S.Store held → Holds g.S.Store held) c.self.view_is (λ sound. holds_of g.S.Store c.self.inside.tables (c.connection.ensures.book sound) (c.self.invariant sound))

-- Nothing is written either if it is refused.
pub returns-in-Err-clause-holds : goal.returns-in-Err-clause-holds
returns-in-Err-clause-holds g c sound =
    let held = c.self.invariant (c.apply-written.ensures.all_or_nothing.outlasts.was sound) in
    let same = c.in-Err.ensures.all_or_nothing.same sound in
    holds_of g.S.Store c.apply-written.new.self (c.connection-2.ensures.book sound) (rw (same.0, same.1) held)

-- what was written
written : (g : Over) (c : goal.In_default g) → is_sound g.S.Store c.apply-written.new.self
    → Leaves c.args.gate.now (rows_in g.S.Store c.apply-written.new.self) (answers_in g.S.Store c.apply-written.new.self) (answers_in g.S.Store c.self.inside.tables) c.text.result.now c.args.answered.now.answer
written g c sound =
    let new = c.apply-written.new.self in
    let old = c.self.inside.tables in
    let gate = c.args.gate.now in
    let was = c.apply-written.ensures.all_or_nothing.outlasts.was sound in
    let held = c.self.invariant was in
    let performed = subst (λ book. is_sound g.S.Store book → LeadsFrom (state_in (rows_in g.S.Store book)) c.args.performed gate) (sym c.self.view_is) c.requires.leads was in
    let led = c.in_ok-changes.ensures.leads (state_in (rows_in g.S.Store old)) (rows_in g.S.Store old)
    (record { before = performed.before; old = held.state; new = c.is_of_machine.ensures.state }) held.rows_are in
    leaves gate (rows_in g.S.Store new) (answers_in g.S.Store new) (answers_in g.S.Store old) c.text.result.now c.as_str-body.result.now c.args.answered.now.answer
    c.law_of_rows_of.ensures c.is_of_machine.ensures.state c.is_of_machine.ensures.limits
    (led_to c.as_slice.result.now c.in_ok-changes.changes.items (rows_in g.S.Store new) (rows_in g.S.Store old) (rows_in g.S.Store old) (rows_of gate) (c.in_default.ensures.rows sound) c.as_slice.ensures.value (λ i. rows_in g.S.Store old) led)
    (c.in_default.ensures.answers sound) (c.as_str-body.ensures.value ∙ c.requires.text.text) (ap answer_of c.as_str-body.ensures.value ∙ c.requires.text.reads) held.texts_are

pub invariant_of-self-2 : goal.invariant_of-self-2
invariant_of-self-2 g c sound = (written g c sound).held

pub returns-clause-commits : goal.returns-clause-commits
returns-clause-commits g c = record {
  ok = λ sound.
      let left = written g c sound in
      let kept = left.kept ∙ (λ i. insert (answers_of (answers_in g.S.Store (c.self.view_is i))) (c.text.ensures.value i) c.args.answered.now.answer) in
      λ i. record { state = left.state i; kept = kept i };
  err = search rules;
  outlasts = search rules;
  stays = search rules;
  cause = search rules;
  fault = search rules;
}

pub returns-clause-holds : goal.returns-clause-holds
returns-clause-holds g c sound = holds_of g.S.Store c.apply-written.new.self (c.connection-2.ensures.book sound) (written g c sound).held
