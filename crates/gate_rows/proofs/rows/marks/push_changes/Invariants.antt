use Rattle.std.proofs.Common.{◌≡◌, ◌++◌}
use Rattle.std.specs.List.{flat_map}
use Rattle.gate_rows.specs.Encoding.{marks_of}
use Rattle.gate_rows.proofs.rows.marks.push_changes.Given as goal

-- what has rows, and what is left
abbrev pub invariant-loop-number : goal.invariant-loop-number
invariant-loop-number l = l.rows.items ++ flat_map marks_of l.number-iterator ≡ l.fn.rows.items ++ flat_map marks_of l.changes.entries
