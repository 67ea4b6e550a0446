use Rattle.gate_progress.proofs.Finding.{finding_law}
use Rattle.gate_progress.proofs.laws.law_of_finding.Goals as goal

pub returns : goal.returns
returns c = finding_law
