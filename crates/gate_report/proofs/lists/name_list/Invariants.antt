use Rattle.std.proofs.Common.{◌≡◌, ◌++◌, codes, take, List, ℕ}
use Rattle.std.specs.List.{flat_map}
use Rattle.std.specs.String.{string_bytes}
use Rattle.gate_report.proofs.lists.name_list.Given as goal

abbrev pub invariant-loop-name : goal.invariant-loop-name
invariant-loop-name l = string_bytes l.text ≡ string_bytes l.initial.text ++ flat_map (λ (name : List ℕ). codes ", " ++ name) (take l.name-index l.others)
