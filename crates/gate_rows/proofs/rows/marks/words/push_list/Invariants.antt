use Rattle.std.proofs.Common.{◌≡◌, ◌++◌, drop, map}
use Rattle.gate_rows.specs.Encoding.{from_place, list_marks, mark}
use Rattle.gate_rows.proofs.rows.marks.words.push_list.Given as goal

-- what has a row, and what is left
abbrev pub invariant-loop-place : goal.invariant-loop-place
invariant-loop-place g l =
    l.rows.items ++ map (mark l.change l.kind) (from_place l.place (map g.W.Word.bytes (drop l.place l.words)))
    ≡ l.fn.rows.items ++ list_marks l.change l.kind (map g.W.Word.bytes l.words)
