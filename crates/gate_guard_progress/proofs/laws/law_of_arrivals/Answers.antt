use Rattle.gate_guard_progress.proofs.Arriving.{arriving_law}
use Rattle.gate_guard_progress.proofs.Standing.{any_telling_law, standing_law}
use Rattle.gate_guard_progress.proofs.laws.law_of_arrivals.Goals as goal

pub returns-clause-standing : goal.returns-clause-standing
returns-clause-standing c = standing_law c.one_reading.ensures.limits

pub returns-clause-arriving : goal.returns-clause-arriving
returns-clause-arriving c = arriving_law c.law_of_moves.ensures.delivering c.law_of_moves.ensures.duties c.law_of_successes.ensures c.one_reading.ensures.limits

pub returns-clause-possible : goal.returns-clause-possible
returns-clause-possible c = any_telling_law
