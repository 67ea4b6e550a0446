use Rattle.std.proofs.Common.{take}
use Rattle.gate_sql.specs.Versions.{AreKeptAnswers}
use Rattle.gate_sql.proofs.opening.check_answers.Given as goal

-- the answers so far are kept ones
abbrev pub invariant-loop-answer : goal.invariant-loop-answer
invariant-loop-answer l = AreKeptAnswers (take l.answer-index l.answers)
