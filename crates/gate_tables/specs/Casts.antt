-- What a column makes of a value: of one of its kind, and of NULL. And what is read of a whole row is the row.
use Rattle.std.proofs.Common.{◌≡◌, ℤ, Bool, true, false, cond, List, [], ◌∷◌, refl}
use Rattle.std.proofs.lemmas.Bool.{and_parts}
use Rattle.gate_tables.specs.Kept.{is_of_kind, is_whole}
use Rattle.sqlite.specs.Cast.{cast}
use Rattle.sqlite.specs.Edit.{id_in}
use Rattle.sqlite.specs.Kind.TheVariants as kind
use Rattle.sqlite.specs.Ops.{unary}
use Rattle.sqlite.specs.Order.{Row, bytes}
use Rattle.sqlite.specs.declared.types.Value.{Value}
use Rattle.sqlite.specs.declared.types.Value.TheVariants.{Null, Int, Real, Text, Blob}
use Rattle.sqlite_schema.specs.declared.schema.Column.{Column}

either : (b : Bool) (x : Value) → cond b x x ≡ x
either true x = refl
either false x = refl

pub cast_null : cast kind.Integer Null ≡ Null
unfolding unary
cast_null = either _ Null

pub cast_int : (n : ℤ) → cast kind.Integer (Int n) ≡ Int n
unfolding unary
cast_int n = either _ (Int n)

pub int_kept : (v : Value) → is_of_kind kind.Integer v ≡ true → cast kind.Integer v ≡ v
int_kept (Int n) h = cast_int n
int_kept Null h = absurd cc
int_kept (Real x) h = absurd cc
int_kept (Text t) h = absurd cc
int_kept (Blob b) h = absurd cc

pub text_kept : (v : Value) → is_of_kind kind.Text v ≡ true → cast kind.Text v ≡ v
text_kept (Text t) h = refl
text_kept Null h = absurd cc
text_kept (Int n) h = absurd cc
text_kept (Real x) h = absurd cc
text_kept (Blob b) h = absurd cc

pub int_again : (v : Value) → is_of_kind kind.Integer v ≡ true → Int (id_in v) ≡ v
int_again (Int n) h = refl
int_again Null h = absurd cc
int_again (Real x) h = absurd cc
int_again (Text t) h = absurd cc
int_again (Blob b) h = absurd cc

pub text_again : (v : Value) → is_of_kind kind.Text v ≡ true → Text (bytes v) ≡ v
text_again (Text t) h = refl
text_again Null h = absurd cc
text_again (Int n) h = absurd cc
text_again (Real x) h = absurd cc
text_again (Blob b) h = absurd cc

-- the columns of a whole row, one by one
abbrev pub AreOfKinds : List Column → Row → Type 0
AreOfKinds [] row = Unit {0}
AreOfKinds (c ∷ cs) [] = Unit {0}
AreOfKinds (c ∷ cs) (v ∷ vs) = (is_of_kind c.kind v ≡ true) × AreOfKinds cs vs

pub each : (columns : List Column) (row : Row) → is_whole columns row ≡ true → AreOfKinds columns row
each [] row h = tt
each (c ∷ cs) [] h = tt
each (c ∷ cs) (v ∷ vs) h = let both = and_parts (is_of_kind c.kind v) (is_whole cs vs) h in (both.0, each cs vs both.1)
