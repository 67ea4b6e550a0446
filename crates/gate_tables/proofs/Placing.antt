-- A row that is put into a table, in its place by the rowid.
use Rattle.std.proofs.Common.{◌≡◌, ◌≢◌, ℕ, zero, suc, slice_get, Some, List, [], ◌∷◌, Bool, true, false, not, ◌&&◌, eqb, IsPermutation, sym, ap, subst, ◌∙◌}
use Rattle.std.specs.List.{AllByRecursion, list_all}
use Rattle.std.specs.Ordering.{is_eq, match_ordering}
use Rattle.std.specs.declared.cmp.Ordering.{Ordering}
use Rattle.std.specs.declared.cmp.Ordering.TheVariants.{Less, Equal, Greater}
use Rattle.std.proofs.lemmas.Bool.{and_from, and_parts, or_parts, not-true, eqb-false}
use Rattle.std.proofs.lemmas.List.Sums.{AllPass-from_list_all, list_all-from_AllPass}
use Rattle.std.proofs.lemmas.List.Sorted.{IsPermutation-refl, IsPermutation-cons, IsPermutation-trans, IsPermutation-middle, All-permutation}
use Rattle.gate_tables.specs.Kept.{IsKept}
use Rattle.sqlite.specs.Edit.{are_fresh, have_rowids, is_taken}
use Rattle.sqlite.specs.Order.{Row}
use Rattle.sqlite.specs.Table.{Table}
use Rattle.sqlite.specs.Tree.{Trees, put_row, rowid}
use Rattle.sqlite_trees.specs.View.{is_int}
use Rattle.sqlite_value.specs.Order.{value_cmp}

-- a test that all pass in one order, all pass in another
pub all_moved : {A : Type 0} (p : A → Bool) (xs ys : List A) → IsPermutation xs ys → list_all p xs ≡ true → list_all p ys ≡ true
all_moved p xs ys moved all = list_all-from_AllPass p ys (All-permutation (λ x. p x ≡ true) xs ys moved (AllPass-from_list_all p xs all))

pub fresh_one : (rows : List Row) (new : Row) → are_fresh rows (new ∷ []) ≡ true → is_taken rows new ≡ false
fresh_one rows new h = not-true (is_taken rows new) (and_parts _ _ h).0

module _ (new : Row) where
  placed : (o : Ordering) (r : Row) (rs : List Row) → is_eq o ≡ false → IsPermutation (new ∷ rs) (put_row new rs)
      → IsPermutation (new ∷ r ∷ rs) (match_ordering o (r ∷ put_row new rs) (new ∷ rs) (new ∷ r ∷ rs))
  placed Less r rs h more = IsPermutation-trans (new ∷ r ∷ rs) (r ∷ new ∷ rs) (r ∷ put_row new rs) (IsPermutation-middle (new ∷ []) r rs) (IsPermutation-cons r (new ∷ rs) (put_row new rs) more)
  placed Equal r rs h more = cc
  placed Greater r rs h more = IsPermutation-refl (new ∷ r ∷ rs)

  pub put_adds : (rows : List Row) → is_taken rows new ≡ false → IsPermutation (new ∷ rows) (put_row new rows)
  put_adds [] h = IsPermutation-refl (new ∷ [])
  put_adds (r ∷ rs) h = placed (value_cmp (rowid r) (rowid new)) r rs (or_parts _ _ h).0 (put_adds rs (or_parts _ _ h).1)

  placed_keyed : (o : Ordering) (r : Row) (rs : List Row) → is_int (rowid new) ≡ true → have_rowids (r ∷ rs) ≡ true → have_rowids (put_row new rs) ≡ true
      → have_rowids (match_ordering o (r ∷ put_row new rs) (new ∷ rs) (new ∷ r ∷ rs)) ≡ true
  placed_keyed Less r rs own all more = and_from (is_int (rowid r)) _ (and_parts _ _ all).0 more
  placed_keyed Equal r rs own all more = and_from (is_int (rowid new)) _ own (and_parts (is_int (rowid r)) _ all).1
  placed_keyed Greater r rs own all more = and_from (is_int (rowid new)) _ own all

  pub put_keyed : (rows : List Row) → have_rowids (new ∷ []) ≡ true → have_rowids rows ≡ true → have_rowids (put_row new rows) ≡ true
  put_keyed [] own all = own
  put_keyed (r ∷ rs) own all = placed_keyed (value_cmp (rowid r) (rowid new)) r rs (and_parts (is_int (rowid new)) true own).0 all (put_keyed rs own (and_parts (is_int (rowid r)) _ all).1)

-- tables with trees of their own
abbrev pub are_apart : List Table → Bool
are_apart [] = true
are_apart (t ∷ ts) = list_all (λ x. not (eqb x.tree t.tree)) ts && are_apart ts

differs : (n m : ℕ) → not (eqb n m) ≡ true → n ≢ m
differs n m h e = eqb-false n m (not-true (eqb n m) h) e

module _ (old new : Trees) where
  abbrev KeepsAll : List Table → Type 0
  KeepsAll tables = AllByRecursion (λ t. IsKept t (new t.tree)) tables

  all_as_before : (tree : ℕ) (tables : List Table) → list_all (λ x. not (eqb x.tree tree)) tables ≡ true → AllByRecursion (λ t. IsKept t (old t.tree)) tables
      → AllByRecursion (λ t. t.tree ≢ tree → new t.tree ≡ old t.tree) tables → KeepsAll tables
  all_as_before tree [] apart had spared = tt
  all_as_before tree (t ∷ ts) apart had spared = (
    subst (IsKept t) (sym (spared.0 (differs t.tree tree (and_parts (not (eqb t.tree tree)) _ apart).0))) had.0,
    all_as_before tree ts (and_parts (not (eqb t.tree tree)) _ apart).1 had.1 spared.1,
  )

  not_first : (x table : Table) (xs : List Table) (at : ℕ) → slice_get xs at ≡ Some table → list_all (λ y. not (eqb y.tree x.tree)) xs ≡ true → x.tree ≢ table.tree
  not_first x table [] at is apart = absurd cc
  not_first x table (y ∷ ys) zero is apart = let same : y ≡ table = cc in λ e. differs y.tree x.tree (and_parts (not (eqb y.tree x.tree)) _ apart).0 (ap (λ (t : Table). t.tree) same ∙ sym e)
  not_first x table (y ∷ ys) (suc at) is apart = not_first x table ys at is (and_parts (not (eqb y.tree x.tree)) _ apart).1

  -- every table keeps what rows keep if the one that is written does and the others are as they were
  pub still_kept : (table : Table) (tables : List Table) (at : ℕ) → slice_get tables at ≡ Some table → are_apart tables ≡ true → AllByRecursion (λ t. IsKept t (old t.tree)) tables
      → AllByRecursion (λ t. t.tree ≢ table.tree → new t.tree ≡ old t.tree) tables → (IsKept table (old table.tree) → IsKept table (new table.tree)) → KeepsAll tables
  still_kept table [] at is apart had spared own = tt
  still_kept table (x ∷ xs) zero is apart had spared own =
      let same : x ≡ table = cc in (
        subst (λ (t : Table). IsKept t (new t.tree)) (sym same) (own (subst (λ (t : Table). IsKept t (old t.tree)) same had.0)),
        all_as_before table.tree xs (subst (λ (t : Table). list_all (λ y. not (eqb y.tree t.tree)) xs ≡ true) same (and_parts _ (are_apart xs) apart).0) had.1 spared.1,
      )
  still_kept table (x ∷ xs) (suc at) is apart had spared own = (
    subst (IsKept x) (sym (spared.0 (not_first x table xs at is (and_parts _ (are_apart xs) apart).0))) had.0,
    still_kept table xs at is (and_parts (list_all (λ y. not (eqb y.tree x.tree)) xs) _ apart).1 had.1 spared.1 own,
  )

-- what a table among some keeps
pub kept_one : (db : Trees) (tables : List Table) (at : ℕ) (t : Table) → slice_get tables at ≡ Some t → AllByRecursion (λ t. IsKept t (db t.tree)) tables → IsKept t (db t.tree)
kept_one db [] at t is all = absurd cc
kept_one db (x ∷ xs) zero t is all = let same : x ≡ t = cc in subst (λ (y : Table). IsKept y (db y.tree)) same all.0
kept_one db (x ∷ xs) (suc at) t is all = kept_one db xs at t is all.1
