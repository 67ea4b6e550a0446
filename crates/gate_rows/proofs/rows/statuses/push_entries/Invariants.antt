use Rattle.std.proofs.Common.{◌≡◌, ◌++◌, map}
use Rattle.gate_rows.specs.Encoding.{status_row}
use Rattle.gate_rows.proofs.rows.statuses.push_entries.Given as goal

-- what has a row, and what is left
abbrev pub invariant-loop-name : goal.invariant-loop-name
invariant-loop-name l = l.rows.items ++ map (status_row l.number) l.name-iterator ≡ l.fn.rows.items ++ map (status_row l.number) l.reports.entries
