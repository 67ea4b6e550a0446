use Rattle.std.proofs.Common.{◌≢◌, ◌≡◌, arith}
use Rattle.std.proofs.lemmas.Result.{on_ok_weaker}
use Rattle.gate_tables.proofs.Putting.{puts_there, puts_new}
use Rattle.gate_tables.proofs.Steps.{does_both, does_so}
use Rattle.sqlite.specs.Held.{state}
use Rattle.gate_tables.proofs.apply.put.Goals as goal

pub returns-then-branch-gt0 : goal.returns-then-branch-gt0
returns-then-branch-gt0 g c =
    let old = state g.S.Store c.args.tx.now.conn.now in
    let new = state g.S.Store c.update.new.tx.conn.now in
    let some : c.in_ok-update.field-0 ≢ 0 = λ none. omega (arith, none, c.if-branch-gt0.true) in
    does_so c.in_ok-update.ensures (λ _ ran inside. puts_there g.R.TableRow.form g.met.R.TableRow.keyed c.args.row.now c.in_ok-update.field-0 old new inside ran some)

pub returns : goal.returns
returns g c =
    let old = state g.S.Store c.args.tx.now.conn.now in
    let mid = state g.S.Store c.update.new.tx.conn.now in
    let new = state g.S.Store c.put.new.tx.conn.now in
    let none : c.in_ok-update.field-0 ≡ 0 = omega (arith, c.if-branch-gt0.false) in
    does_so (does_both c.in_ok-update.ensures c.put.ensures)
    (λ _ both. on_ok_weaker c.put.result (λ ran inside. puts_new g.R.TableRow.form g.met.R.TableRow.keyed c.args.row.now c.in_ok-update.field-0 old mid new inside both.0 none ran) both.1)
