use Rattle.gate_queue.proofs.Untouched.{untouched_law}
use Rattle.gate_queue.proofs.laws.law_of_untouched.Goals as goal

pub returns : goal.returns
returns c = untouched_law
