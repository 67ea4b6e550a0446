-- What it is that the statements on a table are understood. For private clauses.
use Rattle.std.specs.Prelude.{◌≡◌, ℕ, pos, negsuc, false, List, [], ◌∷◌, slice_get, true, Some, None, length, take, drop, ◌/◌, ◌++◌, Ok}
use Rattle.gate_tables.specs.Database.{Layout, all_schema, table_of, columns_of, beside_rowid, places_from}
use Rattle.gate_tables.specs.Forms.{Form}
use Rattle.gate_tables.specs.Kept.{is_whole}
use Rattle.gate_tables.specs.Keys.{key_of, is_front, IsGivenAt, tests_of}
use Rattle.gate_tables.specs.Texts.{key_width, delete_text, update_text}
use Rattle.sqlite.proofs.Callers.{IsPlain, command_of, statement_of}
use Rattle.sqlite.specs.Cast.{cast_row}
use Rattle.sqlite.specs.Change.{created, next_tree}
use Rattle.sqlite.specs.Compile.{table_defined_by}
use Rattle.sqlite.specs.Does.{lacks_sequence}
use Rattle.sqlite.specs.Schema.{Schema}
use Rattle.sqlite.specs.Command.TheVariants.{CreateTable, Insert, Select, Update, Delete}
use Rattle.sqlite.specs.Edit.{with_rowid}
use Rattle.sqlite.specs.Effect.{value_rows}
use Rattle.sqlite.specs.Listing.{understood, reads_listing}
use Rattle.sqlite.specs.Order.{Row, column}
use Rattle.sqlite.specs.Query.{Query, inner, end}
use Rattle.sqlite.specs.Rowids.TheVariants.{Chosen}
use Rattle.sqlite.specs.Source.TheVariants.{Values}
use Rattle.sqlite.specs.Term.{Term, lit, col, eval_all}
use Rattle.sqlite.specs.Tree.{rowid}
use Rattle.sqlite.specs.declared.types.Value.TheVariants.{Int}
use Rattle.sqlite_schema.specs.declared.program.Program.{Program}

-- the query of some terms over the rows of a tree that pass a test
abbrev pub picked : ℕ → List Term → List Term → Query
picked tree test terms = record {
  from = inner tree end;
  filter = test;
  group = None;
  project = terms;
  distinct = false;
  collations = [];
  order = [];
  limit = lit (Int (negsuc 0));
  offset = lit (Int (pos 0));
}

abbrev pub program : Query → Program
program query = record { lets = []; body = query }

pub record Inserts {R : Type 0} (form : Form R) : Type 0 where
  pub terms : List Term
  pub width : ℕ
  pub is : command_of (understood all_schema form.insert) ≡ Insert form.at (Values terms width)
  pub plain : IsPlain (understood all_schema form.insert)
  pub one : (params : Row) → value_rows params width (length terms / width) terms ≡ eval_all terms (params ∷ []) ∷ []
  pub stored : (r : R) (rows : List Row) → columns_of form.layout (with_rowid Chosen rows (cast_row (table_of form.layout) (eval_all terms (form.values r ∷ [])))) ≡ form.values r

pub record Selects {R : Type 0} (form : Form R) : Type 0 where
  pub terms : List Term
  pub names : List (List ℕ)
  pub is : command_of (understood all_schema form.select) ≡ Select (program (picked form.layout.tree [] terms)) names
  pub plain : IsPlain (understood all_schema form.select)
  pub unlisted : reads_listing all_schema form.select ≡ false
  pub shown : (row : Row) → eval_all terms ([] ∷ row ∷ []) ≡ beside_rowid form.layout row
  pub read_on : (row : Row) → form.read (beside_rowid form.layout row) ≡ form.read (columns_of form.layout row)
  pub behind : (row : Row) → column (beside_rowid form.layout row) (length form.layout.columns) ≡ rowid row

-- What is changed in a row that has the key of another: the columns of the key stay, and all others become the other's.
pub record Updates {R : Type 0} (form : Form R) : Type 0 where
  pub terms : List Term
  pub is : command_of (understood all_schema (update_text form.layout)) ≡ Update form.at (program (picked form.layout.tree (tests_of 0 form.layout.primary) (col 1 0 ∷ terms)))
  pub plain : IsPlain (understood all_schema (update_text form.layout))
  pub given : (r : R) → IsGivenAt 0 (form.values r) (key_of form r)
  pub stored : (r : R) (row : Row) → is_whole form.layout.columns (columns_of form.layout row) ≡ true
      → columns_of form.layout (cast_row (table_of form.layout) (eval_all terms (form.values r ∷ row ∷ [])))
      ≡ take (key_width form.layout) (columns_of form.layout row) ++ drop (key_width form.layout) (form.values r)

pub record Deletes {R : Type 0} (form : Form R) : Type 0 where
  pub is : command_of (understood all_schema (delete_text form.layout)) ≡ Delete form.at (program (picked form.layout.tree (tests_of 0 form.layout.primary) (col 1 0 ∷ [])))
  pub plain : IsPlain (understood all_schema (delete_text form.layout))

pub record IsKnown {R : Type 0} (form : Form R) : Type 0 where
  pub listed : slice_get all_schema.tables form.at ≡ Some (table_of form.layout)
  pub reads : (r : R) → form.read (form.values r) ≡ r
  pub wholes : (r : R) → is_whole form.layout.columns (form.values r) ≡ true
  pub inserts : Inserts form
  pub selects : Selects form

-- the statements on the row of a key are understood, too
pub record IsKeyed {R : Type 0} (form : Form R) : Type 0 where
  pub known : IsKnown form
  -- the columns of the key are the first
  pub places : (places : List ℕ) × (places_from (table_of form.layout) 0 form.layout.columns ≡ form.layout.primary ++ places)
  pub fronts : (r : R) → (is_front form.layout.columns (key_of form r) ≡ true) × (length (key_of form r) ≡ key_width form.layout)
  pub whole_again : (row : Row) → is_whole form.layout.columns (columns_of form.layout row) ≡ true → form.values (form.read (columns_of form.layout row)) ≡ columns_of form.layout row
  pub updates : Updates form
  pub deletes : Deletes form

-- a text makes a table of this layout if there are these tables
pub record Creates (front : Schema) (layout : Layout) (after : Schema) (sql : List ℕ) : Type 0 where
  pub is : command_of (understood front sql) ≡ CreateTable
  pub plain : IsPlain (understood front sql)
  pub whole : statement_of sql (understood front sql) ≡ sql
  pub defined : table_defined_by sql ≡ Ok (record (table_of layout) { tree = 0 })
  pub made : created front (record (table_of layout) { tree = 0 }) ≡ after
  pub uncounted : lacks_sequence after ≡ false
  pub next : next_tree front ≡ layout.tree
  pub tables : after.tables ≡ front.tables ++ table_of layout ∷ []
