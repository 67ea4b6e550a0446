use Rattle.std.proofs.Common.{◌≡◌, ◌++◌, map, pos}
use Rattle.gate_rows.specs.Encoding.{mark}
use Rattle.gate_rows.proofs.rows.marks.words.push_texts.Given as goal

-- what has a row, and what is left
abbrev pub invariant-loop-text : goal.invariant-loop-text
invariant-loop-text l = l.rows.items ++ map (λ word. mark l.change l.kind (pos 0, word)) l.text-iterator ≡ l.fn.rows.items ++ map (λ word. mark l.change l.kind (pos 0, word)) l.texts.keys
