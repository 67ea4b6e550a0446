use Rattle.std.proofs.Common.{◌++◌}
use Rattle.std.specs.Prelude.{IsPermutation}
use Rattle.std.specs.Vec.Iter.{into_iter_items}
use Rattle.gate_rows.proofs.FirstMarks.{first_marks}
use Rattle.gate_rows.proofs.upgrading.split_marks.Given as goal

-- what has its table, and what is left
abbrev pub invariant-loop-row : goal.invariant-loop-row
invariant-loop-row l = IsPermutation l.fn.marks (first_marks l.kept.items l.wanted.items ++ into_iter_items l.row-iterator)
