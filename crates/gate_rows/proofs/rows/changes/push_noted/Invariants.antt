use Rattle.std.proofs.Common.{◌≡◌, ◌++◌, map}
use Rattle.std.specs.List.{flat_map}
use Rattle.gate_rows.specs.Encoding.{change_row, marks_of}
use Rattle.gate_rows.specs.Parts.{were_there}
use Rattle.gate_rows.proofs.rows.changes.push_noted.Given as goal

-- what has rows, and what is left
abbrev pub invariant-loop-number : goal.invariant-loop-number
invariant-loop-number l =
    (l.rows.items ++ map change_row (were_there l.number-iterator) ≡ l.fn.rows.items ++ map change_row (were_there l.noted.entries))
    × (l.marks.items ++ flat_map marks_of (were_there l.number-iterator) ≡ l.fn.marks.items ++ flat_map marks_of (were_there l.noted.entries))
