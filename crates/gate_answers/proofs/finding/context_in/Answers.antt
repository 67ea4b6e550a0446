use Rattle.gate_answers.proofs.SmallTexts.{plain_kept}
use Rattle.gate_answers.proofs.finding.context_in.Goals as goal

pub returns-clause-good : goal.returns-clause-good
returns-clause-good c = rw c.small.ensures (plain_kept _ _ c.read.ensures.value)
