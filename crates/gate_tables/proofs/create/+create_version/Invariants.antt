use Rattle.gate_tables.specs.Schemas.{table_count}
use Rattle.gate_tables.proofs.create.+create_version.Given as goal

abbrev pub decreases-create_version : goal.decreases-create_version
decreases-create_version g l = table_count l.version
