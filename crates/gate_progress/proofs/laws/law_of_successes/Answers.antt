use Rattle.gate_progress.proofs.Successes.{successes_law}
use Rattle.gate_progress.proofs.laws.law_of_successes.Goals as goal

pub returns : goal.returns
returns c = successes_law
