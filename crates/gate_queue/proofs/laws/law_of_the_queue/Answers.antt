use Rattle.gate_queue.proofs.Following.{queue_law}
use Rattle.gate_queue.proofs.laws.law_of_the_queue.Goals as goal

pub returns : goal.returns
returns c = queue_law
