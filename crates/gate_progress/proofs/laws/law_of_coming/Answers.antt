use Rattle.gate_progress.proofs.Coming.{coming_law}
use Rattle.gate_progress.proofs.laws.law_of_coming.Goals as goal

pub returns : goal.returns
returns c = coming_law
