use Rattle.gate_progress.proofs.Turns.{turns_law}
use Rattle.gate_progress.proofs.laws.law_of_turns.Goals as goal

pub returns : goal.returns
returns c = turns_law
