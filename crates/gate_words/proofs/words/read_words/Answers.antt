use Rattle.gate_words.proofs.Wrong.{refused-by}
use Rattle.gate_words.proofs.words.read_words.Goals as goal

pub returns-in-Err-clause-help : goal.returns-in-Err-clause-help
returns-in-Err-clause-help c = refused-by c.fault_of.result _ _ c.fault_of.ensures c.in-Err.ensures.faults
