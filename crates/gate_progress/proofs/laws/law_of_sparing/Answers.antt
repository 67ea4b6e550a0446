use Rattle.gate_progress.proofs.Halving.{sparing_law}
use Rattle.gate_progress.proofs.laws.law_of_sparing.Goals as goal

pub returns : goal.returns
returns c = sparing_law
