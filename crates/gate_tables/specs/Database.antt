-- THE DATABASE: its nine tables, and how a row of one is read. A tree holds the rows of a table, each behind its rowid.
use Rattle.std.specs.Prelude.{ℕ, suc, true, false, List, [], ◌∷◌, ◌++◌, map, flat_map, codes, Option, None, Some}
use Rattle.sqlite.specs.Change.{automatics}
use Rattle.sqlite.specs.Collation.TheVariants.{Binary}
use Rattle.sqlite.specs.Kind.{Kind}
use Rattle.sqlite.specs.Kind.TheVariants.{Integer, Text}
use Rattle.sqlite.specs.Order.{Row, column}
use Rattle.sqlite.specs.Schema.{Schema}
use Rattle.sqlite.specs.Table.{Table}
use Rattle.sqlite.specs.Tree.{Trees, rowid}
use Rattle.sqlite.specs.declared.types.Value.TheVariants.{Null}
use Rattle.sqlite_schema.specs.declared.schema.Column.{Column}
use Rattle.sqlite_schema.specs.Names.{place_of}
use Rattle.sqlite_value.specs.Keys.{plain}

-- a column that takes one kind of value alone, and never NULL
abbrev pub strict : Kind → List ℕ → Column
strict kind name = record { name = name; kind = kind; is_strict = true; not_null = true; default = Null; collation = Binary }

abbrev pub integer : List ℕ → Column
integer = strict Integer

abbrev pub text : List ℕ → Column
text = strict Text

-- how a table is laid out
pub record Layout : Type 0 where
  pub tree : ℕ
  pub name : List ℕ
  pub columns : List Column
  -- the place of the column that is the rowid, and where a row has the columns of the key, behind its rowid
  pub key : Option ℕ
  pub primary : List ℕ
  pub uniques : List (List ℕ)

abbrev pub table_of : Layout → Table
table_of layout = record {
  name = layout.name;
  tree = layout.tree;
  columns = layout.columns;
  key = layout.key;
  primary = layout.primary;
  uniques = layout.uniques;
  orders = map (λ _. plain) layout.uniques;
  checks = [];
  references = [];
  computed = [];
  stamps = record { places = []; terms = []; formats = [] };
  is_counted = false;
}

-- a table whose key is its first column, an integer, which is then the rowid
abbrev pub numbered : ℕ → List ℕ → List Column → Layout
numbered tree name columns = record { tree = tree; name = name; columns = columns; key = Some 0; primary = 0 ∷ []; uniques = [] }

-- a table whose key is the columns at these places
abbrev pub keyed : List ℕ → ℕ → List ℕ → List Column → Layout
keyed key tree name columns = record { tree = tree; name = name; columns = columns; key = None; primary = map suc key; uniques = map suc key ∷ [] }

abbrev pub desk : Layout
desk = numbered 0 (codes "desk") (integer (codes "one") ∷ integer (codes "version") ∷ integer (codes "next_batch") ∷ integer (codes "clock") ∷ text (codes "base")
    ∷ integer (codes "timeout_sec") ∷ integer (codes "required_approvals") ∷ integer (codes "max_batch_size") ∷ [])

abbrev pub people : Layout
people = keyed (0 ∷ []) 1 (codes "people") (text (codes "name") ∷ integer (codes "role") ∷ [])

abbrev pub changes : Layout
changes = numbered 3 (codes "changes") (integer (codes "number") ∷ text (codes "author") ∷ text (codes "head") ∷ integer (codes "phase") ∷ integer (codes "priority")
    ∷ integer (codes "approved") ∷ integer (codes "last_command") ∷ [])

abbrev pub marks : Layout
marks = keyed (0 ∷ 1 ∷ 2 ∷ []) 4 (codes "marks") (integer (codes "change_no") ∷ integer (codes "kind") ∷ text (codes "word") ∷ integer (codes "place") ∷ [])

abbrev pub batches : Layout
batches = numbered 6 (codes "batches") (integer (codes "number") ∷ integer (codes "branch") ∷ integer (codes "priority") ∷ integer (codes "again") ∷ integer (codes "phase")
    ∷ integer (codes "since") ∷ text (codes "sha") ∷ [])

abbrev pub members : Layout
members = keyed (0 ∷ 1 ∷ []) 7 (codes "members") (integer (codes "batch") ∷ integer (codes "place") ∷ integer (codes "change_no") ∷ [])

abbrev pub statuses : Layout
statuses = keyed (0 ∷ 1 ∷ []) 9 (codes "statuses") (integer (codes "batch") ∷ text (codes "name") ∷ integer (codes "report") ∷ [])

abbrev pub answers : Layout
answers = keyed (0 ∷ []) 11 (codes "answers") (text (codes "id") ∷ text (codes "body") ∷ [])

abbrev pub wanted : Layout
wanted = keyed (0 ∷ 1 ∷ []) 13 (codes "wanted") (integer (codes "kind") ∷ integer (codes "place") ∷ text (codes "word") ∷ [])

abbrev pub all_layouts : List Layout
all_layouts = desk ∷ people ∷ changes ∷ marks ∷ batches ∷ members ∷ statuses ∷ answers ∷ wanted ∷ []

-- a database of these tables, with the index of each key
abbrev pub schema_of : List Layout → Schema
schema_of layouts = record { tables = map table_of layouts; indexes = flat_map (λ l. automatics (table_of l) 0 (suc l.tree) l.uniques) layouts; views = [] }

abbrev pub all_schema : Schema
all_schema = schema_of all_layouts

-- where a stored row has its columns, behind the rowid; a column that is the rowid stands there alone
abbrev pub places_from : Table → ℕ → List Column → List ℕ
places_from table at [] = []
places_from table at (c ∷ more) = place_of table at ∷ places_from table (suc at) more

-- the values of a stored row, in the order of the columns
abbrev pub columns_in : Table → Row → Row
columns_in table row = map (column row) (places_from table 0 table.columns)

abbrev pub columns_of : Layout → Row → Row
columns_of layout row = columns_in (table_of layout) row

-- the same, and behind them the rowid
abbrev pub beside_rowid : Layout → Row → Row
beside_rowid layout row = columns_of layout row ++ rowid row ∷ []

-- the rows of a table
abbrev pub cells : Layout → Trees → List Row
cells layout db = map (columns_of layout) (db layout.tree)
