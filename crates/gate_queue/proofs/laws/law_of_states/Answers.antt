use Rattle.gate_queue.proofs.States.{still_state}
use Rattle.gate_queue.proofs.laws.law_of_states.Goals as goal

pub returns : goal.returns
returns c = λ s act is room limits. still_state s is room act limits
