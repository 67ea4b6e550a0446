use Rattle.std.proofs.Common.{◌≡◌, ◌++◌}
use Rattle.gate_rules.proofs.desk.listed.Given as goal

-- the numbers so far, and those that are left
abbrev pub invariant-loop-number : goal.invariant-loop-number
invariant-loop-number l = l.listed.items ++ l.number-iterator ≡ l.numbers.keys
