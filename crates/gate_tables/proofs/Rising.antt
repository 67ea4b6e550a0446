-- Rows whose integers rise have integers of their own.
use Rattle.std.proofs.Common.{◌≡◌, ◌≢◌, ℕ, ℤ, ◌<ℤ◌, ◌⊎◌, inl, inr, List, [], ◌∷◌, ◌++◌, map, true, Option, Some, None, IsPermutation, refl, sym, ap, ◌∙◌}
use Rattle.std.specs.List.{AllByRecursion, list_all}
use Rattle.std.specs.Cmp.{int_cmp_is}
use Rattle.std.specs.Ordering.{int_cmp, ordering_reverse}
use Rattle.std.specs.declared.cmp.Ordering.TheVariants.{Less, Greater}
use Rattle.std.proofs.lemmas.Bool.{and_from, and_parts}
use Rattle.std.proofs.lemmas.Cmp.{int_cmp_total}
use Rattle.std.proofs.lemmas.List.Sorted.{IsPermutation-sym}
use Rattle.gate_tables.proofs.Moved.{apart_moved}
use Rattle.gate_tables.proofs.Placing.{all_moved}
use Rattle.gate_tables.specs.Apart.{AreApartBy}
use Rattle.gate_tables.specs.Kept.{HaveOwn}
use Rattle.sqlite.specs.Order.{Row, column}
use Rattle.sqlite.specs.Tree.{rowid}
use Rattle.sqlite.specs.declared.types.Value.{Value}
use Rattle.sqlite.specs.declared.types.Value.TheVariants.{Int}
use Rattle.sqlite_trees.specs.View.{is_int}

-- a value is an integer, and at most the last one
abbrev pub IsUpTo : Value → Option ℤ → Type 0
IsUpTo v None = ⊥
IsUpTo v (Some n) = (m : ℤ) × (v ≡ Int m) × ((m ≡ n) ⊎ (int_cmp m n ≡ Less))

-- the last integer, if there is one, is less than this one
abbrev pub IsBefore : Option ℤ → ℤ → Type 0
IsBefore None id = Unit {0}
IsBefore (Some n) id = n <ℤ id

less_then : (m n id : ℤ) → (m ≡ n) ⊎ (int_cmp m n ≡ Less) → n <ℤ id → int_cmp m id ≡ Less
less_then m n id (inl same) less = ap (λ k. int_cmp k id) same ∙ sym (int_cmp_is n id Less less)
less_then m n id (inr lower) less = int_cmp_total.trans m n id lower (sym (int_cmp_is n id Less less))

not_itself : (m n : ℤ) → int_cmp m n ≡ Less → n ≢ m
not_itself m n less same =
    let itself = ap (int_cmp m) (sym same) ∙ less in
    let none : Less ≡ Greater = sym itself ∙ int_cmp_total.antisymm m m ∙ ap ordering_reverse itself in cc

-- the rows have integers of their own, at most the last one
pub record Risen (at : ℕ) (rows : List Row) (last : Option ℤ) : Type 0 where
  pub own : HaveOwn at rows
  pub below : AllByRecursion (λ row. IsUpTo (column row at) last) rows

pub none_risen : (at : ℕ) → Risen at [] None
none_risen at = record { own = record { integers = refl; own = tt }; below = tt }

module _ (at : ℕ) (row : Row) (id : ℤ) (is : column row at ≡ Int id) where
  up : (v : Value) (last : Option ℤ) → IsBefore last id → IsUpTo v last → IsUpTo v (Some id) × (column row at ≢ v)
  up v None before below = absurd below
  up v (Some n) before below =
      let less = less_then below.0 n id below.2 before in
      ((below.0, below.1, inr less), λ same. let one : Int id ≡ Int below.0 = sym is ∙ same ∙ below.1 in not_itself below.0 id less cc)

  all_up : (last : Option ℤ) → IsBefore last id → (rows : List Row) → AllByRecursion (λ r. IsUpTo (column r at) last) rows → AllByRecursion (λ r. IsUpTo (column r at) (Some id)) (rows ++ row ∷ [])
  all_up last before [] below = ((id, is, inl refl), tt)
  all_up last before (r ∷ rows) below = ((up (column r at) last before below.0).0, all_up last before rows below.1)

  lack : (v : Value) → column row at ≢ v → (rows : List Row) → AllByRecursion (λ r. column r at ≢ v) rows → AllByRecursion (λ r. column r at ≢ v) (rows ++ row ∷ [])
  lack v other [] all = (other, tt)
  lack v other (r ∷ rows) all = (all.0, lack v other rows all.1)

  apart : (last : Option ℤ) → IsBefore last id → (rows : List Row) → AllByRecursion (λ r. IsUpTo (column r at) last) rows → AreApartBy (λ r. column r at) rows → AreApartBy (λ r. column r at) (rows ++ row ∷ [])
  apart last before [] below own = (tt, tt)
  apart last before (r ∷ rows) below own = (lack (column r at) (up (column r at) last before below.0).1 rows own.0, apart last before rows below.1 own.1)

  integers : (rows : List Row) → list_all (λ r. is_int (column r at)) rows ≡ true → list_all (λ r. is_int (column r at)) (rows ++ row ∷ []) ≡ true
  integers [] all = and_from (is_int (column row at)) true (ap is_int is) refl
  integers (r ∷ rows) all = let both = and_parts (is_int (column r at)) _ all in and_from (is_int (column r at)) _ both.0 (integers rows both.1)

  -- one row more, whose integer is greater than the last
  pub risen_on : (rows : List Row) (last : Option ℤ) → IsBefore last id → Risen at rows last → Risen at (rows ++ row ∷ []) (Some id)
  risen_on rows last before risen = record {
    own = record { integers = integers rows risen.own.integers; own = apart last before rows risen.below risen.own.own };
    below = all_up last before rows risen.below;
  }

-- ROWIDS BEHIND ROWS: rows that have in one place what others have as their rowid
module _ (at : ℕ) (f : Row → Row) (behind : (row : Row) → column (f row) at ≡ rowid row) where
  integers_behind : (stored : List Row) → list_all (λ row. is_int (column row at)) (map f stored) ≡ true → list_all (λ row. is_int (rowid row)) stored ≡ true
  integers_behind [] all = refl
  integers_behind (row ∷ stored) all =
      let both = and_parts (is_int (column (f row) at)) _ all in and_from (is_int (rowid row)) _ (ap is_int (sym (behind row)) ∙ both.0) (integers_behind stored both.1)

  lack_behind : (row : Row) (stored : List Row) → AllByRecursion (λ r. column r at ≢ column (f row) at) (map f stored) → AllByRecursion (λ r. rowid r ≢ rowid row) stored
  lack_behind row [] all = tt
  lack_behind row (r ∷ stored) all = ((λ same. all.0 (behind r ∙ same ∙ sym (behind row))), lack_behind row stored all.1)

  apart_behind : (stored : List Row) → AreApartBy (λ row. column row at) (map f stored) → AreApartBy rowid stored
  apart_behind [] own = tt
  apart_behind (row ∷ stored) own = (lack_behind row stored own.0, apart_behind stored own.1)

  pub own_behind : (stored rows : List Row) → IsPermutation (map f stored) rows → HaveOwn at rows → HaveOwn 0 stored
  own_behind stored rows same own =
      let back = IsPermutation-sym (map f stored) rows same in
      record {
        integers = integers_behind stored (all_moved (λ row. is_int (column row at)) rows (map f stored) back own.integers);
        own = apart_behind stored (apart_moved (λ row. column row at) rows (map f stored) back own.own);
      }
