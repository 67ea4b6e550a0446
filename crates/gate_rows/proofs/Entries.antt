-- The entries of a map of the code are those of the finite map.
use Rattle.std.proofs.Common.{◌≡◌, List, sym, ◌∙◌, ap}
use Rattle.std.specs.Cmp.{IsTotalOrder}
use Rattle.std.specs.FinMap as finite
use Rattle.std.specs.FinMap.{FinMap, IsAntisymmetric}
use Rattle.std.specs.List.Sorted.{IsStrictlySortedBy}
use Rattle.std.specs.Map.{keys_of}
use Rattle.std.specs.declared.cmp.Ordering.{Ordering}
use Rattle.gate_text.specs.Finite.{entries-from_entries}

pub entries_are : {K X : Type 0} {R : K → K → Ordering} → IsTotalOrder R → IsAntisymmetric R → (es : List (K × X)) (m : FinMap R X)
    → IsStrictlySortedBy R (keys_of es) → finite.from_entries es ≡ m → es ≡ finite.entries m
entries_are {R = R} total same es m sorted is = sym (entries-from_entries R total same es sorted) ∙ ap finite.entries is
