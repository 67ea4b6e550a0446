use Rattle.std.proofs.Common.{length}
use Rattle.gate_tables.specs.Schemas.{missing_tables}
use Rattle.gate_tables.proofs.complete.+complete.Given as goal

-- the tables that are still to be made
abbrev pub decreases-complete : goal.decreases-complete
decreases-complete g l = length (missing_tables l.version)
