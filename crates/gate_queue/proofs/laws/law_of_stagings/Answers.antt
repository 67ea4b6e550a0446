use Rattle.gate_queue.proofs.Progress.{stagings_law}
use Rattle.gate_queue.proofs.laws.law_of_stagings.Goals as goal

pub returns : goal.returns
returns c = stagings_law
