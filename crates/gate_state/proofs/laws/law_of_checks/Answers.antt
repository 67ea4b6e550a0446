use Rattle.gate_state.proofs.Decided.{Decides-fits}
use Rattle.gate_state.proofs.laws.law_of_checks.Goals as goal

pub returns : goal.returns
returns c = Decides-fits
