use Rattle.std.proofs.Common.{refl}
use Rattle.gate_queue.proofs.States.{empty_is_state}
use Rattle.gate_queue.proofs.gate.empty_history_is_legal.Goals as goal

pub returns : goal.returns
returns c = λ next low high. (refl, empty_is_state next low high)
