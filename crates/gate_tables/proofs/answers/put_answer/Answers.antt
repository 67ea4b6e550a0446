use Rattle.gate_tables.proofs.Inserting.{insert_adds}
use Rattle.gate_tables.proofs.Steps.{does_so}
use Rattle.std.proofs.lemmas.Result.{on_ok_weaker}
use Rattle.gate_tables.specs.Answers.{known}
use Rattle.gate_tables.specs.Forms.{answers}
use Rattle.sqlite.specs.Held.{state}
use Rattle.gate_tables.proofs.answers.put_answer.Goals as goal

pub returns : goal.returns
returns g c =
    let old = state g.S.Store c.args.tx.now.conn.now in
    let new = state g.S.Store c.run.new.tx.conn.now in
    does_so (rw (c.params-to_sql.ensures, c.params-to_sql-2.ensures) at c.run.ensures)
    (λ _. on_ok_weaker c.run.result (λ ran inside. insert_adds answers known (c.args.id.now, c.args.body.now) old new inside ran))
