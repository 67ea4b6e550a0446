use Rattle.gate_queue.proofs.Law.{histories_law}
use Rattle.gate_queue.proofs.laws.law_of_histories.Goals as goal

pub returns : goal.returns
returns c = histories_law
