use Rattle.gate_guard_progress.proofs.Journals.{journals_law, showing_law}
use Rattle.gate_guard_progress.proofs.laws.law_of_journals.Goals as goal

pub returns-clause-journals : goal.returns-clause-journals
returns-clause-journals c = journals_law c.law_of_moves.ensures.delivering

pub returns-clause-showing : goal.returns-clause-showing
returns-clause-showing c = showing_law
