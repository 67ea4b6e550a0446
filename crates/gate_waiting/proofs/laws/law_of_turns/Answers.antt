use Rattle.gate_waiting.proofs.Order.{turns}
use Rattle.gate_waiting.proofs.laws.law_of_turns.Goals as goal

pub returns : goal.returns
returns g c = turns g.W.Whole.tells
