use Rattle.gate_guard_progress.proofs.Starting.{knowing_law, repeats_law, starts_law}
use Rattle.gate_guard_progress.proofs.laws.law_of_starts.Goals as goal

pub returns-clause-known : goal.returns-clause-known
returns-clause-known c = knowing_law

pub returns-clause-repeats : goal.returns-clause-repeats
returns-clause-repeats c = repeats_law

pub returns-clause-starts : goal.returns-clause-starts
returns-clause-starts c = starts_law
