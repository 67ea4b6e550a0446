-- THE KEY OF A ROW: its first columns, as many as the key of the table has.
use Rattle.std.specs.Prelude.{◌≡◌, ℕ, suc, Bool, true, false, ◌&&◌, List, [], ◌∷◌, take}
use Rattle.std.specs.Ordering.{is_eq}
use Rattle.gate_tables.specs.Forms.{Form}
use Rattle.gate_tables.specs.Kept.{is_of_kind}
use Rattle.gate_tables.specs.Texts.{key_width}
use Rattle.sqlite.specs.Collation.TheVariants.{Binary}
use Rattle.sqlite.specs.Order.{Row, column}
use Rattle.sqlite.specs.Term.{Term, col, op2}
use Rattle.sqlite_schema.specs.declared.schema.Column.{Column}
use Rattle.sqlite_sql.specs.declared.ops.BinaryOp.TheVariants.{Compare}
use Rattle.sqlite_sql.specs.declared.ops.CompareOp.TheVariants.{Eq}
use Rattle.sqlite_value.specs.Order.{value_cmp}

abbrev pub key_of : {R : Type 0} → Form R → R → Row
key_of form r = take (key_width form.layout) (form.values r)

-- whether columns begin with those of a key
abbrev pub begin_with : Row → Row → Bool
begin_with [] columns = true
begin_with (k ∷ key) [] = false
begin_with (k ∷ key) (v ∷ columns) = is_eq (value_cmp v k) && begin_with key columns

abbrev pub has_key : {R : Type 0} → Form R → Row → R → Bool
has_key form key r = begin_with key (form.values r)

-- For private clauses: a value of its kind for each of the first columns; that parameters have a key from a place on; the test
-- that WHERE makes of the columns at some places.
abbrev pub is_front : List Column → Row → Bool
is_front columns [] = true
is_front [] (k ∷ key) = false
is_front (c ∷ columns) (k ∷ key) = is_of_kind c.kind k && is_front columns key

abbrev pub IsGivenAt : ℕ → Row → Row → Type 0
IsGivenAt at params [] = Unit {0}
IsGivenAt at params (k ∷ key) = (column params at ≡ k) × IsGivenAt (suc at) params key

abbrev pub tests_of : ℕ → List ℕ → List Term
tests_of at [] = []
tests_of at (p ∷ places) = op2 (Compare Eq Binary) (col 1 p) (col 0 at) ∷ tests_of (suc at) places
