use Rattle.gate_queue.proofs.Progress.{passing_law}
use Rattle.gate_queue.proofs.laws.law_of_passing.Goals as goal

pub returns : goal.returns
returns c = passing_law
