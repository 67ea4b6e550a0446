-- What statements in a transaction make of the tables. For private clauses.
use Rattle.std.specs.Prelude.{◌≡◌, ◌≢◌, ℕ, true, List, [], ◌∷◌, length, Ok, IsTrue, IsPermutation}
use Rattle.std.specs.List.{AllByRecursion}
use Rattle.gate_tables.specs.Applied.{put, without, applied, no_rows}
use Rattle.gate_tables.specs.Database.{Layout, all_schema, cells, schema_of}
use Rattle.gate_tables.specs.Contents.{AreSame, rows_at}
use Rattle.gate_tables.specs.Database as database
use Rattle.gate_tables.specs.Forms as forms
use Rattle.gate_tables.specs.Kept.{AreKept, HaveOwn}
use Rattle.gate_tables.specs.Forms.{Form, rows_of}
use Rattle.gate_tables.specs.Keys.{IsGivenAt, is_front}
use Rattle.gate_tables.specs.Texts.{key_width}
use Rattle.gate_tables.specs.declared.change.RowChange.{RowChange}
use Rattle.gate_tables.specs.declared.look.Contents.{Contents}
use Rattle.gate_tables.specs.declared.read.First.{First}
use Rattle.gate_tables.specs.declared.read.Last.{Last}
use Rattle.gate_tables.specs.declared.row.Rows.{Rows}
use Rattle.gate_tables.specs.declared.version.Version.{Version}
use Rattle.gate_tables.specs.Schemas.{HasTables, missing_tables, schema_of_version, stored_rows, version_of}
use Rattle.sqlite.specs.Effect.{Database, IsDatabase}
use Rattle.sqlite.specs.Order.{Row}
use Rattle.sqlite.specs.Schema.{Schema}
use Rattle.sqlite.specs.State.{State, Executes, HasCleanDisk, IsLive, IsUnchanged, KeepsCommit, Shows}
use Rattle.sqlite.specs.Tree.{Trees}

-- A call leaves a connection open only if it was, and forgets no fault.
pub record Lasts (old new : State) : Type 0 where
  pub was : HasCleanDisk new → IsTrue new.is_open → IsTrue old.is_open
  pub clean : HasCleanDisk new → HasCleanDisk old
  pub shield : old.IsShielded → new.IsShielded

-- so it is of one in a transaction, which commits nothing
pub record GoesOn (old new : State) : Type 0 where
  pub lasts : Lasts old new
  pub kept : HasCleanDisk new → KeepsCommit old new

-- and of one that only asks, if what it asks is understood
pub record Asks (IsUnderstood : Type 0) (old new : State) : Type 0 where
  pub lasts : Lasts old new
  pub kept : HasCleanDisk new → IsUnderstood → KeepsCommit old new

-- What the trees hold was told, and nothing changed.
pub record Tells {A : Type 0} (Holds : Trees → A → Type 0) (old new : State) (told : A) : Type 0 where
  pub holds : Holds old.now.trees told
  pub still : IsUnchanged old new

-- a statement ran in a transaction, and ended nothing; it tells how many rows it wrote
abbrev pub RanOn : ℕ → List ℕ → Row → State → State → Type 0
RanOn count sql params old new = Executes sql params old new (Ok count) × Shows old new new.now old.committed true

abbrev pub RanInside : List ℕ → Row → State → State → Type 0
RanInside sql params old new = (count : ℕ) × Executes sql params old new (Ok count) × Shows old new new.now old.committed true

-- an open transaction over these tables
pub record IsInside (schema : Schema) (s : State) : Type 0 where
  pub is_open : IsTrue s.is_open
  pub within : IsTrue s.in_transaction
  pub schema_is : s.now.schema ≡ schema
  pub kept : AreKept schema s.now.trees

-- an open transaction over these tables, none of which has a row
pub record IsBare (schema : Schema) (s : State) : Type 0 where
  pub inside : IsInside schema s
  pub none : AllByRecursion (λ t. s.now.trees t.tree ≡ []) schema.tables

-- an open database of these tables, none of which has a row, once a transaction begins
abbrev pub IsUnused : Schema → State → Type 0
IsUnused schema s = IsBare schema (record s { in_transaction = true })

-- a table was made, which has no row, and the others are as they were
pub record Grows (front : Schema) (layout : Layout) (after : Schema) (old new : State) : Type 0 where
  pub is_open : IsTrue new.is_open
  pub within : IsTrue new.in_transaction
  pub schema_is : new.now.schema ≡ after
  pub sound : IsDatabase new.now
  pub others : AllByRecursion (λ t. new.now.trees t.tree ≡ old.now.trees t.tree) front.tables
  pub none : new.now.trees layout.tree ≡ []

-- an open transaction over the tables of a version
pub record IsBegun (version : Version) (s : State) : Type 0 where
  pub within : IsTrue s.in_transaction
  pub schema_is : s.now.schema ≡ schema_of_version version
  pub sound : IsTrue s.is_open → IsDatabase s.now

-- the tables were made that a version lacks, which have no rows, and its own are as they were
pub record Completes (version : Version) (old new : State) : Type 0 where
  pub within : IsTrue new.in_transaction
  pub sound : IsDatabase new.now
  pub others : AllByRecursion (λ t. new.now.trees t.tree ≡ old.now.trees t.tree) (schema_of_version version).tables
  pub none : AllByRecursion (λ t. new.now.trees t.tree ≡ []) (missing_tables version)

-- all tables are there, and in an open database they were completed so
pub record HasAllAfter (version : Version) (old new : State) : Type 0 where
  pub schema : new.now.schema ≡ all_schema
  pub whole : IsTrue new.is_open → Completes version old new

-- a database that has no table, index or view
abbrev pub IsBlank : State → Type 0
IsBlank s = s.now.schema ≡ schema_of []

-- a database of all tables, with nothing under way
pub record IsReady (s : State) : Type 0 where
  pub schema_is : s.now.schema ≡ all_schema
  pub settled : s.now ≡ s.committed
  pub kept : AreKept all_schema s.now.trees

-- Where nothing was under way, nothing changed. A connection that is shut says nothing.
pub record Leaves (old new : State) : Type 0 where
  pub was_open : IsTrue new.is_open → IsTrue old.is_open
  pub same : IsTrue new.is_open → old.now ≡ old.committed → (new.now ≡ old.now) × (new.committed ≡ old.committed)

-- every table but the one at this tree is as it was
abbrev pub Spares : ℕ → Trees → Trees → Type 0
Spares tree old new = AllByRecursion (λ t. t.tree ≢ tree → new t.tree ≡ old t.tree) all_schema.tables

module _ {R : Type 0} (form : Form R) where
  -- one more row
  pub record Adds (r : R) (old new : Trees) : Type 0 where
    pub added : IsPermutation (form.values r ∷ cells form.layout old) (cells form.layout new)
    pub others : Spares form.layout.tree old new

  -- a row in place of the one that has its key, or one row more
  pub record Puts (r : R) (old new : Trees) : Type 0 where
    pub rows : IsPermutation (rows_of form new) (put form r (rows_of form old))
    pub others : Spares form.layout.tree old new

  -- the row of a key is gone
  pub record Drops (key : Row) (old new : Trees) : Type 0 where
    pub rows : without form key (rows_of form old) ≡ rows_of form new
    pub others : Spares form.layout.tree old new

  -- so it is, if the key is one of this table
  abbrev pub DropsOne : Row → State → State → Type 0
  DropsOne key old new = IsGivenAt 0 key key → is_front form.layout.columns key ≡ true → length key ≡ key_width form.layout → IsInside all_schema old → IsInside all_schema new × Drops key old.now.trees new.now.trees

-- row changes were applied, and the answers are as they were
pub record Changes (changes : List RowChange) (old new : Trees) : Type 0 where
  pub rows_are : AreSame (rows_at new) (applied changes (rows_at old))
  pub answers : new database.answers.tree ≡ old database.answers.tree

-- Row changes were applied, and there is one answer more.
pub record Applied (changes : List RowChange) (id body : List ℕ) (old new : State) : Type 0 where
  pub ready : IsReady new
  pub rows_are : AreSame (rows_at new.now.trees) (applied changes (rows_at old.now.trees))
  pub added : IsPermutation (forms.answers.values (id, body) ∷ cells forms.answers.layout old.now.trees) (cells forms.answers.layout new.now.trees)

-- the tables were made, row changes were applied, and there is no answer
pub record Made (changes : List RowChange) (new : State) : Type 0 where
  pub ready : IsReady new
  pub rows_are : AreSame (rows_at new.now.trees) (applied changes no_rows)
  pub none : cells forms.answers.layout new.now.trees ≡ []

-- The rows of a table were read. Each has an integer of its own as its rowid.
pub record Reads {R : Type 0} (form : Form R) (db : Trees) (rows : List R) : Type 0 where
  pub same : IsPermutation (rows_of form db) rows
  pub rowids : HaveOwn 0 (db form.layout.tree)

-- the first four tables were read, the last four, and all
pub record ReadsFirst (db : Trees) (read : First) : Type 0 where
  pub desk : Reads forms.desk db read.desk
  pub people : Reads forms.people db read.people
  pub changes : Reads forms.changes db read.changes
  pub marks : Reads forms.marks db read.marks

pub record ReadsLast (db : Trees) (read : Last) : Type 0 where
  pub batches : Reads forms.batches db read.batches
  pub members : Reads forms.members db read.members
  pub statuses : Reads forms.statuses db read.statuses
  pub wanted : Reads forms.wanted db read.wanted

pub record ReadsRows (db : Trees) (rows : Rows) : Type 0 where
  pub first : ReadsFirst db (record { desk = rows.desk; people = rows.people; changes = rows.changes; marks = rows.marks })
  pub last : ReadsLast db (record { batches = rows.batches; members = rows.members; statuses = rows.statuses; wanted = rows.wanted })

-- all that the tables hold was read
pub record ReadsContents (db : Trees) (contents : Contents) : Type 0 where
  pub rows : ReadsRows db contents.rows
  pub answers : Reads forms.answers db contents.answers

-- so it was of a database of any version, whose tables keep what tables keep
pub record ShowsAll (db : Database) (contents : Contents) : Type 0 where
  pub kept : AreKept db.schema db.trees
  pub rows : AreSame (stored_rows db) contents.rows
  pub answers : IsPermutation (rows_of forms.answers db.trees) contents.answers

-- a database of any version, with nothing under way, whose tables keep what tables keep
pub record MayBeTaken (s : State) : Type 0 where
  pub tables : HasTables s.now
  pub settled : s.now ≡ s.committed
  pub kept : AreKept s.now.schema s.now.trees

-- Row changes were applied to what it holds, and the answers are as they were.
pub record Brings (changes : List RowChange) (old new : Database) : Type 0 where
  pub rows_are : AreSame (rows_at new.trees) (applied changes (stored_rows old))
  pub answers : new.trees database.answers.tree ≡ old.trees database.answers.tree

-- so it was in a transaction over the tables of a version
abbrev pub BringsInside : Version → List RowChange → State → State → Type 0
BringsInside version changes old new = IsTrue new.is_open → IsBegun version old → AreKept old.now.schema old.now.trees → IsInside all_schema new × Brings changes old.now new.now

-- a live database of this version that may be taken
pub record MayBeBrought (version : Version) (s : State) : Type 0 where
  pub version_is : version ≡ version_of s.now.schema
  pub live : IsLive s
  pub found : MayBeTaken s

-- it was brought to the last version, and row changes were applied
pub record Taken (changes : List RowChange) (old new : State) : Type 0 where
  pub ready : IsReady new
  pub brought : Brings changes old.now new.now
