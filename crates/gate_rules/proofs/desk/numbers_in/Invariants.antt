use Rattle.std.proofs.Common.{◌≡◌, ◌++◌}
use Rattle.gate_rules.specs.View.{numbers_in}
use Rattle.gate_rules.proofs.desk.numbers_in.Given as goal

abbrev pub invariant-loop-number : goal.invariant-loop-number
invariant-loop-number g l =
    l.numbers.items ++ numbers_in (λ change. g.C.Condition.meets change l.condition) l.number-iterator ≡ numbers_in (λ change. g.C.Condition.meets change l.condition) l.changes.entries
