use Rattle.std.proofs.Common.{rules}
use Rattle.gate_tables.proofs.found_tables.FoundTables.open.Goals as goal

pub returns-in-Ok-clause-contents : goal.returns-in-Ok-clause-contents
returns-in-Ok-clause-contents g c = record { rows = search rules; answers = search rules }
