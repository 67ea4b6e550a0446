-- A database that obeys its schema keeps what these tables keep, if its rows have integers of their own as their rowids.
use Rattle.std.proofs.Common.{◌≡◌, ◌+◌, ℕ, zero, suc, Bool, true, false, not, ◌&&◌, ◌||◌, cond, List, [], ◌∷◌, map, drop, Option, refl, sym, ap, subst, ◌∙◌}
use native.Mathlib.Omega.{arith}
use Rattle.std.specs.List.{AllByRecursion, list_all}
use Rattle.std.proofs.lemmas.Bool.{and_from, and_parts, not-true}
use Rattle.gate_tables.specs.Database.{columns_in, places_from}
use Rattle.gate_tables.specs.Kept.{HaveOwn, IsKept, is_integer, is_of_kind, is_text, is_whole}
use Rattle.sqlite.specs.Kind.{Kind}
use Rattle.sqlite.specs.Kind.TheVariants as kind
use Rattle.sqlite.specs.Order.{Row, column}
use Rattle.sqlite.specs.Schema.{Schema}
use Rattle.sqlite.specs.Table.{Table}
use Rattle.sqlite.specs.Tree.{Trees, rowid}
use Rattle.sqlite.specs.declared.types.Value.{Value}
use Rattle.sqlite.specs.declared.types.Value.TheVariants.{Null, Int, Real, Text, Blob}
use Rattle.sqlite_schema.specs.Names.{is_key, place_of}
use Rattle.sqlite_schema.specs.Rules.{are_present, are_typed, has_affinity, is_of, passes, suits}
use Rattle.sqlite_schema.specs.declared.schema.Column.{Column}
use Rattle.sqlite_schema.specs.declared.schema.Constraint.TheVariants.{Datatype, NotNull}
use Rattle.sqlite_sql.specs.Ops.{is_null}
use Rattle.sqlite_trees.specs.View.{is_int}

-- what columns are declared as in these tables: of one kind, integers or texts, and never NULL; one that is the rowid has integers
abbrev pub are_strict : Option ℕ → ℕ → List Column → Bool
are_strict key at [] = true
are_strict key at (c ∷ cs) = c.is_strict && (c.not_null && ((is_integer c.kind || (is_text c.kind && not (is_key key at))) && are_strict key (suc at) cs))

-- what a row has from a place on
there : (n : ℕ) (row : Row) (v : Value) (vs : Row) → drop n row ≡ v ∷ vs → (column row n ≡ v) × (drop (suc n) row ≡ vs)
there zero [] v vs is = (cc, cc)
there zero (x ∷ row) v vs is = (cc, cc)
there (suc n) [] v vs is = (cc, cc)
there (suc n) (x ∷ row) v vs is = there n row v vs is

none_there : (n : ℕ) (row : Row) → drop n row ≡ [] → (column row n ≡ Null) × (drop (suc n) row ≡ [])
none_there zero [] is = (refl, refl)
none_there zero (x ∷ row) is = (cc, cc)
none_there (suc n) [] is = (refl, refl)
none_there (suc n) (x ∷ row) is = none_there n row is

integer_of : (k : Kind) (v : Value) → is_integer k ≡ true → is_int v ≡ true → is_of_kind k v ≡ true
integer_of k (Int n) k_is v_is = k_is
integer_of k Null k_is v_is = absurd cc
integer_of k (Real x) k_is v_is = absurd cc
integer_of k (Text t) k_is v_is = absurd cc
integer_of k (Blob b) k_is v_is = absurd cc

-- a value of a strict column that isn't NULL
suited : (k : Kind) (v : Value) → (is_integer k || is_text k) ≡ true → is_of k v ≡ true → is_null v ≡ false → is_of_kind k v ≡ true
suited k Null ours fits some = absurd cc
suited kind.Integer (Int n) ours fits some = refl
suited kind.Text (Int n) ours fits some = absurd cc
suited kind.Integer (Text t) ours fits some = absurd cc
suited kind.Text (Text t) ours fits some = refl
suited kind.Integer (Real x) ours fits some = absurd cc
suited kind.Text (Real x) ours fits some = absurd cc
suited kind.Integer (Blob b) ours fits some = absurd cc
suited kind.Text (Blob b) ours fits some = absurd cc
suited kind.Real v ours fits some = absurd cc
suited kind.Blob v ours fits some = absurd cc
suited kind.Any v ours fits some = absurd cc

-- one column: what it is declared as, and what the rules say of the value of a row
either_kind : (i t k : Bool) → (i || (t && not k)) ≡ true → (i || t) ≡ true
either_kind true t k h = refl
either_kind false true k h = refl
either_kind false false k h = h

key_integer : (i t : Bool) → (i || (t && not true)) ≡ true → i ≡ true
key_integer true t h = refl
key_integer false true h = h
key_integer false false h = h

null_suits : (c : Column) (k : Bool) → c.is_strict ≡ true → cond k (is_null Null) (suits c Null) ≡ true
null_suits c true strict = refl
null_suits c false strict = ap (λ (b : Bool). cond b true (has_affinity c.kind Null)) strict

module _ (t : Table) (row : Row) (int : is_int (rowid row) ≡ true) where
  one_column : (c : Column) (k : Bool) (n : ℕ) (v : Value) → c.is_strict ≡ true → c.not_null ≡ true → (is_integer c.kind || (is_text c.kind && not k)) ≡ true
      → column row n ≡ v → cond k (is_null v) (suits c v) ≡ true → (k || not c.not_null || not (is_null (column row n))) ≡ true
      → is_of_kind c.kind (column row (cond k 0 n)) ≡ true
  one_column c true n v strict filled kinds is typed present = integer_of c.kind (rowid row) (key_integer _ _ kinds) int
  one_column c false n v strict filled kinds is typed present =
      let fits : is_of c.kind v ≡ true = ap (λ (b : Bool). cond b (is_of c.kind v) (has_affinity c.kind v)) (sym strict) ∙ typed in
      let some : not (is_null (column row n)) ≡ true = ap (λ (b : Bool). not b || not (is_null (column row n))) (sym filled) ∙ present in
      suited c.kind (column row n) (either_kind _ _ false kinds) (ap (is_of c.kind) is ∙ fits) (not-true _ some)

  -- a column, and those behind it
  column_and : (at : ℕ) (c : Column) (cs : List Column) (v : Value) → column row (suc at) ≡ v → are_strict t.key at (c ∷ cs) ≡ true
      → cond (is_key t.key at) (is_null v) (suits c v) ≡ true → are_present t.key at (c ∷ cs) row ≡ true
      → (are_strict t.key (suc at) cs ≡ true → are_present t.key (suc at) cs row ≡ true → is_whole cs (map (column row) (places_from t (suc at) cs)) ≡ true)
      → is_whole (c ∷ cs) (map (column row) (places_from t at (c ∷ cs))) ≡ true
  column_and at c cs v is ours typed present behind =
      let on : at + 1 ≡ suc at = omega arith in
      let strict = and_parts c.is_strict (c.not_null && ((is_integer c.kind || (is_text c.kind && not (is_key t.key at))) && are_strict t.key (suc at) cs)) ours in
      let filled = and_parts c.not_null _ strict.1 in
      let kinds = and_parts (is_integer c.kind || (is_text c.kind && not (is_key t.key at))) _ filled.1 in
      let there = and_parts (is_key t.key at || not c.not_null || not (is_null (column row (at + 1)))) _ present in
      and_from (is_of_kind c.kind (column row (place_of t at))) _
      (one_column c (is_key t.key at) (at + 1) v strict.0 filled.0 kinds.0 (ap (column row) on ∙ is) typed there.0)
      (behind kinds.1 (subst (λ n. are_present t.key n cs row ≡ true) on there.1))

  strict_first : (at : ℕ) (c : Column) (cs : List Column) → are_strict t.key at (c ∷ cs) ≡ true → c.is_strict ≡ true
  strict_first at c cs ours = (and_parts c.is_strict (c.not_null && ((is_integer c.kind || (is_text c.kind && not (is_key t.key at))) && are_strict t.key (suc at) cs)) ours).0

  -- the columns from a place on
  whole_from : (at : ℕ) (cs : List Column) (vs : Row) → drop (suc at) row ≡ vs → are_strict t.key at cs ≡ true → are_typed t.key at cs vs ≡ true → are_present t.key at cs row ≡ true
      → is_whole cs (map (column row) (places_from t at cs)) ≡ true
  whole_from at [] vs rest ours typed present = refl
  whole_from at (c ∷ cs) [] rest ours typed present =
      let on : at + 1 ≡ suc at = omega arith in
      let next = none_there (suc at) row rest in
      let others = subst (λ n. are_typed t.key n cs [] ≡ true) on (and_parts (is_null c.default) _ typed).1 in
      column_and at c cs Null next.0 ours (null_suits c (is_key t.key at) (strict_first at c cs ours)) present (λ strict there. whole_from (suc at) cs [] next.1 strict others there)
  whole_from at (c ∷ cs) (v ∷ vs) rest ours typed present =
      let on : at + 1 ≡ suc at = omega arith in
      let next = there (suc at) row v vs rest in
      let both = and_parts (cond (is_key t.key at) (is_null v) (suits c v)) _ typed in
      let others = subst (λ n. are_typed t.key n cs vs ≡ true) on both.1 in
      column_and at c cs v next.0 ours both.0 present (λ strict there. whole_from (suc at) cs vs next.1 strict others there)

-- THE ROWS OF A TABLE, and of all tables
wholes : (t : Table) (db : Trees) (schema : Schema) (rows : List Row) → are_strict t.key 0 t.columns ≡ true → list_all (λ row. is_int (rowid row)) rows ≡ true
    → AllByRecursion (λ row. passes Datatype schema db t row ≡ true) rows → AllByRecursion (λ row. passes NotNull schema db t row ≡ true) rows
    → list_all (λ row. is_whole t.columns (columns_in t row)) rows ≡ true
wholes t db schema [] ours ints typed present = refl
wholes t db schema (row ∷ rows) ours ints typed present =
    let int = and_parts (is_int (rowid row)) _ ints in
    let fits = and_parts (are_typed t.key 0 t.columns (drop 1 row)) _ typed.0 in
    and_from (is_whole t.columns (columns_in t row)) _ (whole_from t row int.0 0 t.columns (drop 1 row) refl ours fits.0 present.0) (wholes t db schema rows ours int.1 typed.1 present.1)

pub kept_by : (db : Trees) (schema : Schema) (tables : List Table) → AllByRecursion (λ t. are_strict t.key 0 t.columns ≡ true) tables → AllByRecursion (λ t. HaveOwn 0 (db t.tree)) tables
    → AllByRecursion (λ t. AllByRecursion (λ row. passes Datatype schema db t row ≡ true) (db t.tree)) tables
    → AllByRecursion (λ t. AllByRecursion (λ row. passes NotNull schema db t row ≡ true) (db t.tree)) tables
    → AllByRecursion (λ t. IsKept t (db t.tree)) tables
kept_by db schema [] ours own typed present = tt
kept_by db schema (t ∷ ts) ours own typed present =
    (record { rowids = own.0.integers; own = own.0.own; whole = wholes t db schema (db t.tree) ours.0 own.0.integers typed.0 present.0 }, kept_by db schema ts ours.1 own.1 typed.1 present.1)
