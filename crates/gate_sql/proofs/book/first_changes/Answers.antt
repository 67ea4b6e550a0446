use Rattle.std.proofs.Common.{sym, subst}
use Rattle.std.proofs.lemmas.Result.{IfOk-weaker}
use Rattle.gate_rows.proofs.Alike.{same_rows}
use Rattle.gate_rows.proofs.ByKeys.{led_by_keys, none_have_keys}
use Rattle.gate_sql.proofs.book.first_changes.Goals as goal
use Rattle.gate_rows.specs.Encoding.{rows_of}
use Rattle.gate_tables.specs.Applied.{applied, no_rows}
use Rattle.gate_tables.specs.Contents.{AreSame}

pub returns : goal.returns
returns c =
    let first = rows_of c.args.gate.now in
    let keys = c.law_of_keys_of.ensures in
    let none = same_rows no_rows _ (sym c.no_rows.ensures) in
    let same = same_rows first _ (sym c.in_ok-rows.ensures.value) in
    IfOk-weaker c.row_changes.result _ _
    (λ changes is. subst (λ cs. AreSame (applied cs no_rows) first) (sym is) (led_by_keys c.law_of_differences.ensures no_rows first no_rows none_have_keys keys (same_rows no_rows no_rows (λ i. no_rows))))
    (c.row_changes.ensures.value no_rows first none_have_keys keys none same)
