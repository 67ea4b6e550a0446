use Rattle.gate_queue.proofs.Lasting.{waiting_law}
use Rattle.gate_queue.proofs.laws.law_of_waiting.Goals as goal

pub returns : goal.returns
returns c = waiting_law
