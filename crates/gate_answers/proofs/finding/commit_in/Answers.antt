use Rattle.gate_answers.proofs.SmallTexts.{commit_kept}
use Rattle.gate_answers.proofs.finding.commit_in.Goals as goal

pub returns-clause-good : goal.returns-clause-good
returns-clause-good c = rw c.small.ensures (commit_kept _ _ c.read.ensures.value)
