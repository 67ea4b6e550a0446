use Rattle.std.proofs.Common.{◌∙◌, ap, rules}
use Rattle.std.specs.FinMap.{insert}
use Rattle.gate_answers.specs.Reading.{answer_of}
use Rattle.gate_sql.proofs.Holding.{Leaves, holds_of, leaves, led_to}
use Rattle.gate_sql.proofs.book.SqlBookBook.commit.Given.{Over}
use Rattle.gate_sql.proofs.book.SqlBookBook.commit.Goals as goal
use Rattle.gate_rows.specs.Encoding.{rows_of}
use Rattle.gate_sql.specs.Shown.{answers_of}
use Rattle.gate_tables.specs.Tables.{answers_in, is_sound, rows_in}

-- what was written
written : (g : Over) (c : goal.After-drop-body g) → is_sound g.S.Store c.apply-written.new.self
    → Leaves c.args.gate.now (rows_in g.S.Store c.apply-written.new.self) (answers_in g.S.Store c.apply-written.new.self) (answers_in g.S.Store c.self.inside.tables) c.text.result.now c.args.answer.now
written g c sound =
    let new = c.apply-written.new.self in
    let old = c.self.inside.tables in
    let gate = c.args.gate.now in
    let mid_sound = c.apply-written.ensures.all_or_nothing.outlasts.was sound in
    let held = c.self.invariant (c.changes_to.ensures.outlasts.was mid_sound) in
    let moved = c.changes_to.ensures.same mid_sound in
    leaves gate (rows_in g.S.Store new) (answers_in g.S.Store new) (answers_in g.S.Store old) c.text.result.now c.as_str.result.now c.args.answer.now
    c.law_of_rows_of.ensures c.is_of_machine.ensures.state c.is_of_machine.ensures.limits
    (led_to c.as_slice.result.now c.in-Ok.changes.items (rows_in g.S.Store new) (rows_in g.S.Store c.changes_to.new.tables) (rows_in g.S.Store old) (rows_of gate)
    (c.in-Ok-written.ensures.rows sound) c.as_slice.ensures.value moved.0 (c.in-Ok.ensures.led mid_sound held))
    (c.in-Ok-written.ensures.answers sound ∙ ap (λ texts. insert texts c.text.result.now c.as_str.result.now) moved.1)
    (c.as_str.ensures.value ∙ c.in_ok-body.ensures.text) (ap answer_of c.as_str.ensures.value ∙ c.in_ok-body.ensures.reads) held.texts_are

pub invariant_of-self-in-Ok-written : goal.invariant_of-self-in-Ok-written
invariant_of-self-in-Ok-written g c sound = (written g c sound).held

pub returns-in-Ok-written-clause-commits : goal.returns-in-Ok-written-clause-commits
returns-in-Ok-written-clause-commits g c = record {
  ok = λ sound.
      let left = written g c sound in
      let kept = left.kept ∙ (λ i. insert (answers_of (answers_in g.S.Store (c.self.view_is i))) (c.text.ensures.value i) c.args.answer.now) in
      λ i. record { state = left.state i; kept = kept i };
  err = search rules;
  outlasts = search rules;
  stays = search rules;
  cause = search rules;
  fault = search rules;
}

pub returns-in-Ok-written-clause-holds : goal.returns-in-Ok-written-clause-holds
returns-in-Ok-written-clause-holds g c sound = holds_of g.S.Store c.apply-written.new.self (c.connection.ensures.book sound) (written g c sound).held
