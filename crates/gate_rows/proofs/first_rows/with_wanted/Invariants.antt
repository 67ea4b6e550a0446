use Rattle.std.proofs.Common.{◌≡◌, ◌++◌, map}
use Rattle.gate_rows.specs.FirstRows.{as_mark}
use Rattle.gate_rows.proofs.first_rows.with_wanted.Given as goal

-- the rows so far
abbrev pub invariant-loop-row : goal.invariant-loop-row
invariant-loop-row l = l.all.items ≡ l.fn.marks ++ map as_mark l.yielded
