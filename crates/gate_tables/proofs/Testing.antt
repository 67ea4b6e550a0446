-- What the test of WHERE says of a stored row, and that a row which passes it has the key.
use Rattle.std.proofs.Common.{◌≡◌, ℕ, suc, ℤ, Bool, true, false, ◌&&◌, List, [], ◌∷◌, map, take, length, Some, refl, sym, ap, ◌∙◌}
use Rattle.std.specs.List.{list_all}
use Rattle.std.specs.Ordering.{is_eq}
use Rattle.std.proofs.lemmas.Bool.Decides.{Decides-int_eq}
use Rattle.std.proofs.lemmas.Bool.{and_parts}
use Rattle.gate_tables.proofs.Answering.{exact}
use Rattle.gate_tables.specs.Kept.{is_integer, is_text, is_of_kind, is_whole}
use Rattle.gate_tables.specs.Keys.{begin_with, is_front, IsGivenAt, tests_of}
use Rattle.sqlite.specs.Collation.TheVariants.{Binary}
use Rattle.sqlite.specs.Kind.{Kind}
use Rattle.sqlite.specs.Kind.TheVariants as kind
use Rattle.sqlite.specs.Ops.{binary, is_true, from_truth}
use Rattle.sqlite.specs.Order.{Row, column}
use Rattle.sqlite.specs.Term.{holds}
use Rattle.sqlite.specs.declared.types.Value.{Value}
use Rattle.sqlite.specs.declared.types.Value.TheVariants.{Null, Int, Real, Text, Blob}
use Rattle.sqlite_schema.specs.declared.schema.Column.{Column}
use Rattle.sqlite_sql.specs.declared.ops.BinaryOp.TheVariants.{Compare}
use Rattle.sqlite_sql.specs.declared.ops.CompareOp.TheVariants.{Eq}
use Rattle.sqlite_value.proofs.OrderLemmas.{value_cmp-Int, value_cmp-Text}
use Rattle.sqlite_value.specs.Order.{value_cmp}

pub truth_of : (b : Bool) → is_true (from_truth (Some b)) ≡ b
truth_of true = refl
truth_of false = refl

one_kind : {P : Type 0} (k : Kind) → is_integer k ≡ true → is_text k ≡ true → P
one_kind kind.Integer p q = absurd cc
one_kind kind.Real p q = absurd cc
one_kind kind.Text p q = absurd cc
one_kind kind.Blob p q = absurd cc
one_kind kind.Any p q = absurd cc

module _ (k : Kind) where
  -- of two values of one kind, what holds of two integers and of two texts
  by_kind : (P : Value → Value → Type 0) → ((n m : ℤ) → P (Int n) (Int m)) → ((s t : List ℕ) → P (Text s) (Text t)) → (v w : Value) → is_of_kind k v ≡ true → is_of_kind k w ≡ true → P v w
  by_kind P ints texts (Int n) (Int m) p q = ints n m
  by_kind P ints texts (Text s) (Text t) p q = texts s t
  by_kind P ints texts (Int n) (Text t) p q = one_kind k p q
  by_kind P ints texts (Text s) (Int m) p q = one_kind k q p
  by_kind P ints texts (Int n) Null p q = absurd cc
  by_kind P ints texts (Int n) (Real x) p q = absurd cc
  by_kind P ints texts (Int n) (Blob b) p q = absurd cc
  by_kind P ints texts (Text s) Null p q = absurd cc
  by_kind P ints texts (Text s) (Real x) p q = absurd cc
  by_kind P ints texts (Text s) (Blob b) p q = absurd cc
  by_kind P ints texts Null w p q = absurd cc
  by_kind P ints texts (Real x) w p q = absurd cc
  by_kind P ints texts (Blob b) w p q = absurd cc

  -- `=` of two values of one kind
  equals : (v w : Value) → is_of_kind k v ≡ true → is_of_kind k w ≡ true → is_true (binary (Compare Eq Binary) v w) ≡ is_eq (value_cmp v w)
  unfolding binary
  equals = by_kind (λ v w. is_true (binary (Compare Eq Binary) v w) ≡ is_eq (value_cmp v w)) (λ n m. truth_of (is_eq (value_cmp (Int n) (Int m)))) (λ s t. truth_of (is_eq (value_cmp (Text s) (Text t))))

  -- equal values of one kind are one
  same_value : (v w : Value) → is_of_kind k v ≡ true → is_of_kind k w ≡ true → is_eq (value_cmp v w) ≡ true → v ≡ w
  same_value = by_kind (λ v w. is_eq (value_cmp v w) ≡ true → v ≡ w)
      (λ n m h. ap Int ((Decides-int_eq n m).0 (sym (ap is_eq (value_cmp-Int n m)) ∙ h)))
      (λ s t h. ap Text (exact s t (sym (ap is_eq (value_cmp-Text s t)) ∙ h)))

both_same : (a b c d : Bool) → a ≡ b → c ≡ d → a && c ≡ b && d
both_same a b c d p q = ap (λ (x : Bool). x && c) p ∙ ap (λ (y : Bool). b && y) q

-- the test of WHERE asks whether the columns begin with the key that the parameters have
pub tested : (columns : List Column) (places : List ℕ) (at : ℕ) (params row key : Row) → IsGivenAt at params key → is_front columns key ≡ true → is_whole columns (map (column row) places) ≡ true
    → list_all (holds (params ∷ row ∷ [])) (tests_of at (take (length key) places)) ≡ begin_with key (map (column row) places)
tested columns places at params row [] given front whole = refl
tested [] places at params row (k ∷ key) given front whole = absurd cc
tested (c ∷ columns) [] at params row (k ∷ key) given front whole = absurd cc
tested (c ∷ columns) (p ∷ places) at params row (k ∷ key) given front whole =
    let v = column row p in
    let of_key = (and_parts (is_of_kind c.kind k) (is_front columns key) front).0 in
    let of_row = (and_parts (is_of_kind c.kind v) (is_whole columns (map (column row) places)) whole).0 in
    let first : is_true (binary (Compare Eq Binary) v (column params at)) ≡ is_eq (value_cmp v k) = ap (λ w. is_true (binary (Compare Eq Binary) v w)) given.0 ∙ equals c.kind v k of_row of_key in
    let more = tested columns places (suc at) params row key given.1 (and_parts (is_of_kind c.kind k) (is_front columns key) front).1 (and_parts (is_of_kind c.kind v) (is_whole columns (map (column row) places)) whole).1 in
    both_same _ _ _ _ first more

-- columns that begin with a key have it in front
pub begins : (columns : List Column) (cells key : Row) → is_front columns key ≡ true → is_whole columns cells ≡ true → begin_with key cells ≡ true → take (length key) cells ≡ key
begins columns cells [] front whole h = refl
begins [] cells (k ∷ key) front whole h = absurd cc
begins (c ∷ columns) [] (k ∷ key) front whole h = absurd cc
begins (c ∷ columns) (v ∷ cells) (k ∷ key) front whole h =
    let first = same_value c.kind v k (and_parts (is_of_kind c.kind v) (is_whole columns cells) whole).0 (and_parts (is_of_kind c.kind k) (is_front columns key) front).0 (and_parts _ _ h).0 in
    let more = begins columns cells key (and_parts (is_of_kind c.kind k) (is_front columns key) front).1 (and_parts (is_of_kind c.kind v) (is_whole columns cells) whole).1 (and_parts _ _ h).1 in
    ap (λ x. x ∷ take (length key) cells) first ∙ ap (λ xs. k ∷ xs) more
