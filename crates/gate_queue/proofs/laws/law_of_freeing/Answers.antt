use Rattle.gate_queue.proofs.Progress.{freeing_law}
use Rattle.gate_queue.proofs.laws.law_of_freeing.Goals as goal

pub returns : goal.returns
returns c = freeing_law
