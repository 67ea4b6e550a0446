use Rattle.std.proofs.Common.{sym, subst, ap, ◌∙◌}
use Rattle.std.proofs.lemmas.Result.{IfOk-weaker}
use Rattle.gate_rows.proofs.Alike.{same_rows}
use Rattle.gate_rows.proofs.ByKeys.{led_by_keys}
use Rattle.gate_rows.specs.Encoding.{rows_of}
use Rattle.gate_sql.proofs.Versions.{as_keys}
use Rattle.gate_sql.specs.Versions.{rows_as}
use Rattle.gate_tables.specs.Applied.{applied}
use Rattle.gate_tables.specs.Contents.{AreSame}
use Rattle.gate_sql.proofs.opening.changes_from.Goals as goal

pub returns : goal.returns
returns c =
    let last = rows_of c.args.gate.now in
    let earlier = rows_as c.args.version last in
    let keys = c.law_of_keys_of.ensures in
    let earlier_keys = as_keys c.args.version last c.law_of_first_keys_of.ensures keys in
    let was = same_rows earlier _ (sym (c.in_ok-earlier.ensures ∙ ap (rows_as c.args.version) c.in_ok-rows_of.ensures.value)) in
    let now = same_rows last _ (sym c.in_ok-rows_of-2.ensures.value) in
    IfOk-weaker c.row_changes.result _ _
    (λ changes is rows same. subst (λ cs. AreSame (applied cs rows) last) (sym is) (led_by_keys c.law_of_differences.ensures earlier last rows earlier_keys keys same))
    (c.row_changes.ensures.value earlier last earlier_keys keys was now)
