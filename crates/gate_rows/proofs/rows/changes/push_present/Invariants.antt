use Rattle.std.proofs.Common.{◌≡◌, ◌++◌, map}
use Rattle.std.specs.List.{flat_map}
use Rattle.gate_rows.specs.Encoding.{change_row, marks_of}
use Rattle.gate_rows.specs.Parts.{are_there}
use Rattle.gate_rows.proofs.rows.changes.push_present.Given as goal

-- what has rows, and what is left
abbrev pub invariant-loop-number : goal.invariant-loop-number
invariant-loop-number l =
    (l.rows.items ++ map change_row (are_there l.desk.changes l.number-iterator) ≡ l.fn.rows.items ++ map change_row (are_there l.desk.changes l.noted.entries))
    × (l.marks.items ++ flat_map marks_of (are_there l.desk.changes l.number-iterator) ≡ l.fn.marks.items ++ flat_map marks_of (are_there l.desk.changes l.noted.entries))
