use Rattle.gate_queue.proofs.Progress.{time_outs_law}
use Rattle.gate_queue.proofs.laws.law_of_time_outs.Goals as goal

pub returns : goal.returns
returns c = time_outs_law
