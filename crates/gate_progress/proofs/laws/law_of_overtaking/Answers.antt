use Rattle.gate_progress.proofs.Turns.{overtaking_law}
use Rattle.gate_progress.proofs.laws.law_of_overtaking.Goals as goal

pub returns : goal.returns
returns c = overtaking_law
