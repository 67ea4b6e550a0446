use Rattle.std.proofs.Common.{List, sym, subst}
use Rattle.gate_rows.specs.Encoding.{rows_of}
use Rattle.gate_sql.specs.Versions.{rows_as}
use Rattle.gate_tables.specs.Applied.{applied}
use Rattle.gate_tables.specs.Contents.{AreSame}
use Rattle.gate_tables.specs.declared.change.RowChange.{RowChange}
use Rattle.gate_tables.specs.declared.version.Version.{Version}
use Rattle.gate_sql.proofs.opening.upgrade.Goals as goal

pub returns-in-Version2 : goal.returns-in-Version2
returns-in-Version2 c rows same =
    let last = rows_of c.args.gate.now in
    subst (λ (changes : List RowChange). AreSame (applied changes rows) last) (sym c.new.ensures.items) (subst (λ (v : Version). AreSame rows (rows_as v last)) c.in-Version2.is same)
