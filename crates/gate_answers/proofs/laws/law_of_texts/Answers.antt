use Rattle.gate_answers.proofs.Again.{texts_law}
use Rattle.gate_answers.proofs.laws.law_of_texts.Goals as goal

pub returns : goal.returns
returns c = texts_law
