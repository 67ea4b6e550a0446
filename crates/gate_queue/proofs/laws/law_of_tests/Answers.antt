use Rattle.gate_queue.proofs.Cuts.{tests_law}
use Rattle.gate_queue.proofs.laws.law_of_tests.Goals as goal

pub returns : goal.returns
returns c = tests_law
