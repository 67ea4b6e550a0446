use Rattle.gate_progress.proofs.Halving.{halving_law}
use Rattle.gate_progress.proofs.laws.law_of_halving.Goals as goal

pub returns : goal.returns
returns c = halving_law
