-- An entry whose key is above all keys of a map goes behind the others.
use Rattle.std.proofs.Common.{◌≡◌, List, [], ◌∷◌, ◌++◌, refl, sym, ◌∙◌, ap, subst, append_assoc, Less, Greater}
use Rattle.std.specs.BTreeMap.{insert_entry}
use Rattle.std.specs.Cmp.{IsTotalOrder}
use Rattle.std.specs.List.{AllByRecursion}
use Rattle.std.specs.List.Sorted.{IsStrictlySortedBy}
use Rattle.std.specs.Map.{keys_of}
use Rattle.std.specs.Ordering.{ordering_reverse}
use Rattle.std.specs.declared.cmp.Ordering.{Ordering}

module _ {K X : Type 0} {R : K → K → Ordering} (total : IsTotalOrder R) where
  below_next : (first : K) (front : List (K × X)) (entry : K × X) (rest : List (K × X))
      → AllByRecursion (λ other. R first other ≡ Less) (keys_of (front ++ entry ∷ rest)) → R first entry.0 ≡ Less
  below_next first [] entry rest below = below.0
  below_next first (other ∷ front) entry rest below = below_next first front entry rest below.1

  pub inserted_behind : (front : List (K × X)) (entry : K × X) (rest : List (K × X))
      → IsStrictlySortedBy R (keys_of (front ++ entry ∷ rest)) → insert_entry R front entry.0 entry.1 ≡ front ++ entry ∷ []
  unfolding IsStrictlySortedBy
  inserted_behind [] entry rest sorted = refl
  inserted_behind (first ∷ front) entry rest sorted =
      let above : R entry.0 first.0 ≡ Greater = total.antisymm entry.0 first.0 ∙ ap ordering_reverse (below_next first.0 front entry rest sorted.0) in
      rw above (ap (λ entries. first ∷ entries) (inserted_behind front entry rest sorted.1))

  -- one more entry of a map that is copied
  pub one_more : (all front left rest next : List (K × X)) (entry : K × X) → IsStrictlySortedBy R (keys_of all)
      → front ++ left ≡ all → left ≡ entry ∷ rest → next ≡ insert_entry R front entry.0 entry.1 → next ++ rest ≡ all
  one_more all front left rest next entry sorted is first inserted =
      let split : front ++ entry ∷ rest ≡ all = ap (λ those. front ++ those) (sym first) ∙ is in
      ap (λ entries. entries ++ rest) (inserted ∙ inserted_behind front entry rest (subst (λ entries. IsStrictlySortedBy R (keys_of entries)) (sym split) sorted))
      ∙ append_assoc front (entry ∷ []) rest ∙ split
