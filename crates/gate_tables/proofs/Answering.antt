-- Answers under identifiers that are apart.
use Rattle.std.proofs.Common.{◌≡◌, ℕ, List, [], ◌∷◌, map, Bool, true, false, cond, Option, Some, None, IsPermutation, refl, sym, ap, ◌∙◌}
use Rattle.std.specs.Cmp.{eq_by_cmp_equiv, Equal-is}
use Rattle.std.specs.Cmp.Lexicographic.{slice_cmp, nat_list_cmp_total}
use Rattle.std.specs.FinMap.{IsAntisymmetric, from_entries, insert, get, find, get-from_entries, same_map}
use Rattle.std.specs.FinSet.{slice_cmp-IsAntisymmetric, nat_cmp-IsAntisymmetric}
use Rattle.std.specs.List.{AllByRecursion, IsDistinct}
use Rattle.std.specs.Map.{lookup}
use Rattle.std.specs.Ordering.{eq_by_cmp, nat_cmp}
use Rattle.std.specs.declared.cmp.Ordering.{Ordering}
use Rattle.std.proofs.lemmas.List.Sorted.{IsPermutation-sym, IsPermutation-map, Contains-permutation}
use Rattle.std.proofs.lemmas.Map.Keys.{IsDistinct-IsPermutation}
use Rattle.std.proofs.lemmas.Map.Views.{Contains-from_lookup, lookup-from_Contains}

abbrev Bytes : Type 0
Bytes = List ℕ

abbrev by : Bytes → Bytes → Ordering
by = slice_cmp nat_cmp

abbrev same : Bytes → Bytes → Bool
same = eq_by_cmp by

one_order : IsAntisymmetric by
one_order = slice_cmp-IsAntisymmetric nat_cmp-IsAntisymmetric

pub exact : (x y : Bytes) → same x y ≡ true → x ≡ y
exact x y h = one_order x y ((Equal-is (by x y)).0 h)

find-lookup : (q : Bytes) (es : List (Bytes × Bytes)) → find by q es ≡ lookup (same q) es
find-lookup q [] = refl
find-lookup q (e ∷ es) = ap (λ (rest : Option Bytes). cond (same q e.0) (Some e.1) rest) (find-lookup q es)

module _ (xs ys : List (Bytes × Bytes)) (moved : IsPermutation xs ys) (apart : IsDistinct same (map (λ e. e.0) xs)) (q : Bytes) where
  apart_too : IsDistinct same (map (λ e. e.0) ys)
  apart_too = IsDistinct-IsPermutation same (eq_by_cmp_equiv nat_list_cmp_total).symm (map (λ e. e.0) xs) (map (λ e. e.0) ys) (IsPermutation-map (λ e. e.0) xs ys moved) apart

  found : (o p : Option Bytes) → lookup (same q) xs ≡ o → lookup (same q) ys ≡ p → lookup (same q) xs ≡ lookup (same q) ys
  found (Some v) p is other =
      is ∙ sym (lookup-from_Contains (eq_by_cmp_equiv nat_list_cmp_total) q v ys apart_too (Contains-permutation xs ys (q, v) moved (Contains-from_lookup exact q v xs is)))
  found None (Some v) is other =
      lookup-from_Contains (eq_by_cmp_equiv nat_list_cmp_total) q v xs apart (Contains-permutation ys xs (q, v) (IsPermutation-sym xs ys moved) (Contains-from_lookup exact q v ys other)) ∙ sym other
  found None None is other = is ∙ sym other

  pub same_found : find by q xs ≡ find by q ys
  same_found = find-lookup q xs ∙ found (lookup (same q) xs) (lookup (same q) ys) refl refl ∙ sym (find-lookup q ys)

missing_first : (b : Bool) (v : Bytes) (rest : Option Bytes) → cond b (Some v) rest ≡ None → b ≡ false
missing_first true v rest h = cc
missing_first false v rest h = refl

missing_rest : (b : Bool) (v : Bytes) (rest : Option Bytes) → cond b (Some v) rest ≡ None → rest ≡ None
missing_rest true v rest h = cc
missing_rest false v rest h = h

missing : (q : Bytes) (es : List (Bytes × Bytes)) → find by q es ≡ None → AllByRecursion (λ y. same q y ≡ false) (map (λ e. e.0) es)
missing q [] h = tt
missing q (e ∷ es) h = (missing_first (same q e.0) e.1 (find by q es) h, missing q es (missing_rest (same q e.0) e.1 (find by q es) h))

-- one entry more, in any order
module _ (id body : Bytes) (xs ys : List (Bytes × Bytes)) (moved : IsPermutation ((id, body) ∷ xs) ys) (apart : IsDistinct same (map (λ e. e.0) xs)) (free : get (from_entries {R = by} xs) id ≡ None) where
  all_apart : IsDistinct same (map (λ e. e.0) ((id, body) ∷ xs))
  unfolding IsDistinct
  all_apart = (missing id xs (sym (get-from_entries nat_list_cmp_total xs id) ∙ free), apart)

  pub still_apart : IsDistinct same (map (λ e. e.0) ys)
  still_apart = apart_too ((id, body) ∷ xs) ys moved all_apart id

  pub one_more : from_entries {R = by} ys ≡ insert (from_entries xs) id body
  one_more = same_map nat_list_cmp_total one_order (from_entries ys) (from_entries ((id, body) ∷ xs)) (λ q.
      get-from_entries nat_list_cmp_total ys q ∙ sym (same_found ((id, body) ∷ xs) ys moved all_apart q) ∙ sym (get-from_entries nat_list_cmp_total ((id, body) ∷ xs) q))
