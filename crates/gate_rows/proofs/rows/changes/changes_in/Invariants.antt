use Rattle.std.proofs.Common.{◌≡◌, ◌++◌, map}
use Rattle.gate_rows.specs.Encoding.{change_row}
use Rattle.gate_rows.proofs.rows.changes.changes_in.Given as goal

-- what has a row, and what is left
abbrev pub invariant-loop-number : goal.invariant-loop-number
invariant-loop-number l = l.rows.items ++ map change_row l.number-iterator ≡ map change_row l.changes.entries
