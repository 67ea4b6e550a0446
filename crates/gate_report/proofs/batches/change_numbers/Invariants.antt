use Rattle.std.proofs.Common.{◌≡◌, ◌++◌, codes, decimal, take, ℕ}
use Rattle.std.specs.List.{flat_map}
use Rattle.std.specs.String.{string_bytes}
use Rattle.gate_report.proofs.batches.change_numbers.Given as goal

abbrev pub invariant-loop-change : goal.invariant-loop-change
invariant-loop-change l = string_bytes l.text ≡ string_bytes l.initial.text ++ flat_map (λ (number : ℕ). codes "," ++ decimal number) (take l.change-index l.others)
