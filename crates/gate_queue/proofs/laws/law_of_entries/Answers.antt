use Rattle.gate_queue.proofs.Law.{entries_law}
use Rattle.gate_queue.proofs.laws.law_of_entries.Goals as goal

pub returns : goal.returns
returns c = entries_law
