use Rattle.std.proofs.Common.{subst}
use Rattle.std.proofs.lemmas.Result.{on_ok_weaker}
use Rattle.gate_tables.proofs.Putting.{deletes}
use Rattle.gate_tables.proofs.Steps.{does_so}
use Rattle.gate_tables.specs.Effects.{RanInside}
use Rattle.sqlite.specs.Held.{state}
use Rattle.sqlite.specs.Values.{bound}
use Rattle.gate_tables.proofs.apply.delete.Goals as goal

pub returns : goal.returns
returns g c =
    let old = state g.S.Store c.args.tx.now.conn.now in
    let new = state g.S.Store c.run.new.tx.conn.now in
    let key = bound c.args.key.now in
    does_so c.run.ensures (λ _. on_ok_weaker c.run.result (λ ran given front wide inside. deletes g.R.TableRow.form g.met.R.TableRow.keyed key given front wide old new inside
    (subst (λ t. RanInside t key old new) c.delete_text.ensures.text ran)))
