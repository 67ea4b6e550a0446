use Rattle.std.proofs.Common.{arith}
use Rattle.gate_guard.proofs.Coming.{stays_law}
use Rattle.gate_guard.proofs.Due.{duties_law}
use Rattle.gate_guard.proofs.Moving.{moves_law}
use Rattle.gate_guard.proofs.Standing.{delivering_law}
use Rattle.gate_guard.proofs.laws.law_of_moves.Goals as goal

pub returns-clause-moves : goal.returns-clause-moves
returns-clause-moves c = moves_law c.law_of_deliveries.ensures.history c.law_of_tests.ensures (c.empty_history_is_legal.ensures 1 (omega arith) (omega arith))

pub returns-clause-duties : goal.returns-clause-duties
returns-clause-duties c =
    duties_law c.law_of_deliveries.ensures.history c.law_of_histories.ensures c.law_of_tests.ensures c.law_of_since.ensures
    (c.empty_history_is_legal.ensures 1 (omega arith) (omega arith))

pub returns-clause-delivering : goal.returns-clause-delivering
returns-clause-delivering c = delivering_law

pub returns-clause-stays : goal.returns-clause-stays
returns-clause-stays c = stays_law
