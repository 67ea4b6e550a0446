-- The rows of a version: those that stand for the same rows in another order are the same, and no two have one key.
use Rattle.gate_rows.proofs.FirstMarks.{first_same}
use Rattle.gate_rows.specs.FirstRows.{in_first}
use Rattle.gate_sql.specs.Versions.{rows_as}
use Rattle.gate_tables.specs.Contents.{AreSame}
use Rattle.gate_tables.specs.Differences.{HaveKeys}
use Rattle.gate_tables.specs.declared.row.Rows.{Rows}
use Rattle.gate_tables.specs.declared.version.Version.{Version}
use Rattle.gate_tables.specs.declared.version.Version.TheVariants.{Version1, Version2}

pub as_same : (version : Version) (a b : Rows) → AreSame a b → AreSame (rows_as version a) (rows_as version b)
as_same Version1 a b same = first_same a b same
as_same Version2 a b same = same

pub as_keys : (version : Version) (rows : Rows) → HaveKeys (in_first rows) → HaveKeys rows → HaveKeys (rows_as version rows)
as_keys Version1 rows first last = first
as_keys Version2 rows first last = last
