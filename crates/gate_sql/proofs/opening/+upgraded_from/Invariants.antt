use Rattle.std.proofs.Common.{length}
use Rattle.gate_tables.specs.Schemas.{missing_tables}
use Rattle.gate_sql.proofs.opening.+upgraded_from.Given as goal

-- the tables by which the last version has more
abbrev pub decreases-upgraded_from : goal.decreases-upgraded_from
decreases-upgraded_from l = length (missing_tables l.version)
