use Rattle.std.proofs.Common.{IfOk, sym, subst}
use Rattle.std.proofs.lemmas.Result.{IfOk-weaker}
use Rattle.gate_rows.proofs.Alike.{same_then}
use Rattle.gate_rows.proofs.FirstMarks.{first_same}
use Rattle.gate_rows.specs.FirstRows.{in_first}
use Rattle.gate_sql.specs.Versions.{rows_as}
use Rattle.gate_tables.specs.Contents.{AreSame}
use Rattle.gate_tables.specs.declared.version.Version.{Version}
use Rattle.gate_sql.proofs.opening.+upgraded_from.Goals as goal

pub returns-in_ok-upgraded-in-Version1 : goal.returns-in_ok-upgraded-in-Version1
returns-in_ok-upgraded-in-Version1 t c =
    let second = c.in_ok-upgraded-in-Version1.field-0 in
    subst (λ (v : Version). IfOk c.upgraded_from.result (λ last. AreSame c.args.rows (rows_as v last))) (sym c.in-Version1.is)
    (IfOk-weaker c.upgraded_from.result _ _ (λ last same.
    same_then c.args.rows (in_first second) (in_first last) c.in_ok-upgraded-in-Version1.ensures.value (first_same second last same)) c.upgraded_from.ensures)
