-- WHAT THE STORED ROWS OF A TABLE KEEP, whatever statements did to them. For private clauses.
use Rattle.std.specs.Prelude.{◌≡◌, ℕ, Bool, true, false, ◌&&◌, List, [], ◌∷◌}
use Rattle.std.specs.List.{AllByRecursion, list_all}
use Rattle.gate_tables.specs.Apart.{AreApartBy}
use Rattle.gate_tables.specs.Database.{columns_in}
use Rattle.sqlite.specs.Edit.{have_rowids}
use Rattle.sqlite.specs.Kind.{Kind}
use Rattle.sqlite.specs.Kind.TheVariants as kind
use Rattle.sqlite.specs.Order.{Row, column}
use Rattle.sqlite.specs.Schema.{Schema}
use Rattle.sqlite.specs.Table.{Table}
use Rattle.sqlite.specs.Tree.{Trees, rowid}
use Rattle.sqlite.specs.declared.types.Value.{Value}
use Rattle.sqlite.specs.declared.types.Value.TheVariants.{Null, Int, Real, Text, Blob}
use Rattle.sqlite_schema.specs.Rules.{Keeps}
use Rattle.sqlite_trees.specs.View.{is_int}
use Rattle.sqlite_schema.specs.declared.schema.Column.{Column}
use Rattle.sqlite_schema.specs.declared.schema.Constraint.TheVariants.{Unique}

abbrev pub is_integer : Kind → Bool
is_integer kind.Integer = true
is_integer _ = false

abbrev pub is_text : Kind → Bool
is_text kind.Text = true
is_text _ = false

-- an integer in a column of integers, a text in one of texts
abbrev pub is_of_kind : Kind → Value → Bool
is_of_kind k Null = false
is_of_kind k (Int n) = is_integer k
is_of_kind k (Real x) = false
is_of_kind k (Text t) = is_text k
is_of_kind k (Blob b) = false

-- a value of its kind for each column
abbrev pub is_whole : List Column → Row → Bool
is_whole [] [] = true
is_whole [] (v ∷ vs) = false
is_whole (c ∷ cs) [] = false
is_whole (c ∷ cs) (v ∷ vs) = is_of_kind c.kind v && is_whole cs vs

-- each row has an integer of its own at a place
pub record HaveOwn (at : ℕ) (rows : List Row) : Type 0 where
  pub integers : list_all (λ row. is_int (column row at)) rows ≡ true
  pub own : AreApartBy (λ row. column row at) rows

pub record IsKept (table : Table) (rows : List Row) : Type 0 where
  -- Each row has an integer as its rowid, so that it can be deleted, and no two have the same.
  pub rowids : have_rowids rows ≡ true
  pub own : AreApartBy rowid rows
  -- so what is read of a row is all that it has
  pub whole : list_all (λ row. is_whole table.columns (columns_in table row)) rows ≡ true

-- it is so of each table, and no two rows have the same key
pub record AreKept (schema : Schema) (db : Trees) : Type 0 where
  pub tables : AllByRecursion (λ t. IsKept t (db t.tree)) schema.tables
  pub unique : Keeps Unique schema db
