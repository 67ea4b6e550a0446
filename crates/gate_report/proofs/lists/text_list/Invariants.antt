use Rattle.std.proofs.Common.{◌≡◌, ◌++◌, codes, List, ℕ}
use Rattle.std.specs.List.{flat_map}
use Rattle.std.specs.String.{string_bytes}
use Rattle.gate_report.proofs.lists.text_list.Given as goal

-- what is written, and what is left
abbrev pub invariant-loop-word : goal.invariant-loop-word
invariant-loop-word l =
    string_bytes l.text ++ flat_map (λ (word : List ℕ). codes ", " ++ word) l.word-iterator
    ≡ string_bytes l.initial.text ++ flat_map (λ (word : List ℕ). codes ", " ++ word) l.initial.word-iterator
