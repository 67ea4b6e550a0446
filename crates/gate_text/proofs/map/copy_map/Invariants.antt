use Rattle.std.proofs.Common.{◌≡◌, ◌++◌}
use Rattle.gate_text.proofs.map.copy_map.Given as goal

-- what was copied, and what is left to copy
abbrev pub invariant-loop-key : goal.invariant-loop-key
invariant-loop-key g l = l.copy.entries ++ l.key-iterator ≡ l.map.entries
