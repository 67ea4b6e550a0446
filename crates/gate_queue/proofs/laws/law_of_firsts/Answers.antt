use Rattle.gate_queue.proofs.Progress.{firsts_law}
use Rattle.gate_queue.proofs.laws.law_of_firsts.Goals as goal

pub returns : goal.returns
returns c = firsts_law
