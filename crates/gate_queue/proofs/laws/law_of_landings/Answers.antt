use Rattle.gate_queue.proofs.Progress.{landings_law}
use Rattle.gate_queue.proofs.laws.law_of_landings.Goals as goal

pub returns : goal.returns
returns c = landings_law
