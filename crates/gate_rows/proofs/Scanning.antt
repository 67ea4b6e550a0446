-- Sets and lists that are read again from the rows of a table.
use Rattle.std.proofs.Common.{◌≡◌, inl, inr, ◌<◌, ℕ, suc, ℤ, pos, Bool, true, false, ◌||◌, ◌&&◌, T, List, [], ◌∷◌, map, refl, sym, ◌∙◌, ap, subst, le-leb, arith}
use Rattle.std.specs.Cmp.{IsTotalOrder, int_cmp_is, int_cmp_total}
use Rattle.std.specs.FinMap as finite
use Rattle.std.specs.FinMap.{IsAntisymmetric, is_sorted, from_entries, int_cmp-IsAntisymmetric}
use Rattle.std.specs.FinMap.Entries.{below_all}
use Rattle.std.specs.FinSet as set
use Rattle.std.specs.FinSet.{FinSet}
use Rattle.std.specs.List.{filter, flat_map, list_any}
use Rattle.std.specs.Ordering.{eq_by_cmp, int_cmp, is_lt}
use Rattle.std.specs.declared.cmp.Ordering.{Ordering}
use Rattle.std.specs.declared.cmp.Ordering.TheVariants.{Less}
use Rattle.gate_rows.specs.Encoding.{from_place}
use Rattle.gate_rows.proofs.Elements.{Among, HaveSame, among-filter, filter-among, among-flat_map, flat_map-among}
use Rattle.gate_rows.proofs.Canonical.{values_again}

-- two tests that say the same
pub same_truth : (one other : Bool) → (one ≡ true → other ≡ true) → (other ≡ true → one ≡ true) → one ≡ other
same_truth true other to from = sym (to refl)
same_truth false true to from = from refl
same_truth false false to from = refl

-- WHETHER ONE PASSES A TEST
module _ {X : Type 0} (test : X → Bool) where
  pub any-among : (xs : List X) → list_any test xs ≡ true → (x : X) × Among x xs × (test x ≡ true)
  any-among [] is = cc is
  any-among (x ∷ xs) is = by (test x) refl is (any-among xs) where
    by : (b : Bool) → test x ≡ b → b || list_any test xs ≡ true → (list_any test xs ≡ true → (y : X) × Among y xs × (test y ≡ true)) → (y : X) × Among y (x ∷ xs) × (test y ≡ true)
    by true passes is rest = (x, inl refl, passes)
    by false fails is rest = let found = rest is in (found.0, inr found.1, found.2)

  pub among-any : (x : X) (xs : List X) → Among x xs → test x ≡ true → list_any test xs ≡ true
  among-any x [] there passes = absurd there
  among-any x (y ∷ ys) (inl is) passes = ap (λ (b : Bool). b || list_any test ys) (ap test (sym is) ∙ passes)
  among-any x (y ∷ ys) (inr later) passes = by (test y) (among-any x ys later passes) where
    by : (b : Bool) → list_any test ys ≡ true → b || list_any test ys ≡ true
    by true rest = refl
    by false rest = rest

  pub same-any : (xs ys : List X) → HaveSame xs ys → list_any test xs ≡ list_any test ys
  same-any xs ys same = same_truth (list_any test xs) (list_any test ys)
      (λ is. let found = any-among xs is in among-any found.0 ys ((same found.0).0 found.1) found.2)
      (λ is. let found = any-among ys is in among-any found.0 xs ((same found.0).1 found.1) found.2)

-- SETS
pub set_again : {K : Type 0} {R : K → K → Ordering} → IsTotalOrder R → IsAntisymmetric R → (keys : List K) (s : FinSet R) → HaveSame keys (set.items s) → set.from_list {R = R} keys ≡ s
set_again {R = R} total apart keys s same = set.same_set total apart (set.from_list {R = R} keys) s
    (λ q. set.contains-from_list total keys q ∙ same-any (eq_by_cmp R q) keys (set.items s) same ∙ sym (set.contains-items s q))

-- LISTS BY PLACE
less : (m n : ℕ) → m < n → T (is_lt (int_cmp (pos m) (pos n)))
less m n before = subst (λ (r : Ordering). T (is_lt r)) (int_cmp_is (pos m) (pos n) Less (record { lt = subst T (sym (le-leb (suc m) n (omega (arith, before)))) tt })) tt

both : (a b : Bool) → T a → T b → T (a && b)
both true b one other = other
both false b one other = one

placed_below : {X : Type 0} (before at : ℕ) (xs : List X) → before < at → T (below_all int_cmp (pos before) (from_place at xs))
placed_below before at [] is = tt
placed_below before at (x ∷ xs) is = both (is_lt (int_cmp (pos before) (pos at))) (below_all int_cmp (pos before) (from_place (suc at) xs)) (less before at is) (placed_below before (suc at) xs (omega (arith, is)))

placed_sorted : {X : Type 0} (at : ℕ) (xs : List X) → T (is_sorted int_cmp (from_place at xs))
placed_sorted at [] = tt
placed_sorted at (x ∷ xs) = both (below_all int_cmp (pos at) (from_place (suc at) xs)) (is_sorted int_cmp (from_place (suc at) xs)) (placed_below at (suc at) xs (omega arith)) (placed_sorted (suc at) xs)

values_placed : {X : Type 0} (at : ℕ) (xs : List X) → map (λ (entry : ℤ × X). entry.1) (from_place at xs) ≡ xs
values_placed at [] = refl
values_placed at (x ∷ xs) = ap (λ rest. x ∷ rest) (values_placed (suc at) xs)

pub list_again : {X : Type 0} (entries : List (ℤ × X)) (xs : List X) → HaveSame entries (from_place 0 xs)
    → map (λ (entry : ℤ × X). entry.1) (finite.entries (from_entries {R = int_cmp} entries)) ≡ xs
list_again {X} entries xs same =
    ap (map (λ (entry : ℤ × X). entry.1)) (values_again int_cmp_total int_cmp-IsAntisymmetric entries (from_place 0 xs) (placed_sorted 0 xs) same) ∙ values_placed 0 xs

-- THE ROWS OF ONE among those of all: those that pass a test which no row of another passes
module _ {E Row : Type 0} (rows_of : E → List Row) (all : List E) (test : Row → Bool) (e : E) where
  pub own_rows : Among e all → ((other : E) (row : Row) → Among other all → Among row (rows_of other) → test row ≡ true → other ≡ e)
      → HaveSame (filter test (flat_map rows_of all)) (filter test (rows_of e))
  own_rows there alone row = (
    λ found.
        let is = among-filter test row (flat_map rows_of all) found in
        let of = flat_map-among rows_of row all is.0 in
        filter-among test row (rows_of e) (subst (λ (other : E). Among row (rows_of other)) (alone of.0 row of.1 of.2 is.1) of.2) is.1,
    λ found.
        let is = among-filter test row (rows_of e) found in
        filter-among test row (flat_map rows_of all) (among-flat_map rows_of row e all there is.0) is.1,
  )
