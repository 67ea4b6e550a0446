use Rattle.std.proofs.Common.{length}
use Rattle.gate_tables.specs.Schemas.{missing_tables}
use Rattle.gate_sql.proofs.opening.+rows_in.Given as goal

-- the tables by which the last version has more
abbrev pub decreases-rows_in : goal.decreases-rows_in
decreases-rows_in l = length (missing_tables l.version)
