use Rattle.std.proofs.Common.{sym, subst}
use Rattle.std.proofs.lemmas.Result.{IfOk-weaker}
use Rattle.gate_rows.proofs.Alike.{same_rows}
use Rattle.gate_rows.proofs.changed.changes_since.Goals as goal
use Rattle.gate_rows.specs.Encoding.{rows_of}
use Rattle.gate_rows.specs.Parts.{rows_now, rows_then}
use Rattle.gate_tables.specs.Applied.{applied}
use Rattle.gate_tables.specs.Contents.{AreSame}

pub returns-clause-value : goal.returns-clause-value
returns-clause-value c old states =
    let before = c.args.before.now in
    let gate = c.args.gate.now in
    let keys = c.law_of_keys_since.ensures before old gate states in
    c.row_changes.ensures.value (rows_then before gate) (rows_now before gate) keys.0 keys.1 (same_rows (rows_then before gate) _ (sym c.in_ok-then.ensures)) (same_rows (rows_now before gate) _ (sym c.in_ok-now.ensures))

pub returns-clause-leads : goal.returns-clause-leads
returns-clause-leads c old rows states same =
    IfOk-weaker c.row_changes.result _ _
    (λ changes is. subst (λ cs. AreSame (applied cs rows) (rows_of c.args.gate.now)) (sym is) (c.law_of_changes_since.ensures c.args.before.now old c.args.gate.now rows states same))
    (returns-clause-value c old states)
