-- WHAT CALLS SAY, in words for private clauses: `old` is what there was before the call, and `new` after it.
use Rattle.std.specs.Prelude.{◌≡◌, ℕ, false, List, [], Vec, Result, IfOk, OnOk, OnErr, IsTrue}
use Rattle.std.specs.Global.{Global}
use Rattle.gate_tables.specs.Creation.{after_first}
use Rattle.gate_tables.specs.Database.{all_schema, wanted}
use Rattle.gate_tables.specs.Effects.{Asks, BringsInside, DropsOne, GoesOn, Grows, HasAllAfter, IsBare, IsBegun, IsInside, IsUnused, Lasts, Leaves, RanInside, RanOn, Tells}
use Rattle.gate_tables.specs.Forms.{Form}
use Rattle.gate_tables.specs.Schemas.{schema_of_version}
use Rattle.gate_tables.specs.declared.change.RowChange.{RowChange}
use Rattle.gate_tables.specs.declared.version.Version.{Version}
use Rattle.gate_tables.specs.declared.version.Version.TheVariants.{Version1, Version2}
use Rattle.sqlite.specs.Given.{IsPlain}
use Rattle.sqlite.specs.Held.{Held, state}
use Rattle.sqlite.specs.Listing.{understood}
use Rattle.sqlite.specs.Order.{Row}
use Rattle.sqlite.specs.State.{State, HasCleanDisk, IsUnchanged, Shown}
use Rattle.sqlite.specs.Store.{Ghosts}
use Rattle.sqlite.specs.Tree.{Trees}
use Rattle.sqlite.specs.declared.transaction.Transaction.{Transaction}

-- a statement of this text is understood, has no RETURNING, and reads no clock
abbrev pub Understands : List ℕ → State → Type 0
Understands sql s = IsPlain (understood s.now.schema sql)

-- IN A TRANSACTION
module _ {S : Type 0} (g : Ghosts S) (old new : Transaction S) where
  abbrev pub before : State
  before = state g old.conn.now

  abbrev pub after : State
  after = state g new.conn.now

  -- A call that commits nothing. If the disk has returned what was written, it did this.
  pub record Does (done : State → State → Type 0) : Type 0 where
    pub same_reference : new.conn.ghost_name ≡ old.conn.ghost_name
    pub did : HasCleanDisk after → done before after
    pub goes_on : GoesOn before after

  -- a query of this text, which commits nothing if that is understood
  pub record Queries {E : Type 0} (result : Result (Vec Row Global) E) (sql : List ℕ) : Type 0 where
    pub same_reference : new.conn.ghost_name ≡ old.conn.ghost_name
    pub shown : HasCleanDisk after → IfOk result (λ rows. Shown sql [] before after rows.items)
    pub still : HasCleanDisk after → Understands sql before → OnOk result (IsUnchanged before after)
    pub asks : Asks (Understands sql before) before after

  -- a question of all tables, which finds what they hold
  pub record Finds {T E : Type 0} (result : Result T E) (holds : Trees → T → Type 0) : Type 0 where
    pub same_reference : new.conn.ghost_name ≡ old.conn.ghost_name
    pub found : HasCleanDisk after → before.now.schema ≡ all_schema → IfOk result (Tells holds before after)
    pub asks : Asks (before.now.schema ≡ all_schema) before after

-- the table `wanted` was made, whether the others had rows or none
pub record MakesWanted (old new : State) : Type 0 where
  pub made : IsBare (after_first 8) old → IsBare (after_first 9) new
  pub grown : old.now.schema ≡ schema_of_version Version1 → Grows (schema_of_version Version1) wanted (schema_of_version Version2) old new

-- WHAT A CALL DID, if it succeeds
module _ {T E : Type 0} (result : Result T E) where
  -- a statement ran
  abbrev pub Ran : List ℕ → Row → State → State → Type 0
  Ran sql params old new = OnOk result (RanInside sql params old new)

  -- so much moved in the trees of all tables
  abbrev pub Moves : (Trees → Trees → Type 0) → State → State → Type 0
  Moves moved old new = OnOk result (IsInside all_schema old → IsInside all_schema new × moved old.now.trees new.now.trees)

  -- the row of a key is gone
  abbrev pub DropsBy : {R : Type 0} → Form R → Row → State → State → Type 0
  DropsBy form key old new = OnOk result (DropsOne form key old new)

  -- tables were made, up to so many, none of which has a row
  abbrev pub CreatesTables : ℕ → ℕ → State → State → Type 0
  CreatesTables from to old new = OnOk result (IsBare (after_first from) old → IsBare (after_first to) new)

  -- the table was made that version 2 has besides
  abbrev pub CreatesWanted : State → State → Type 0
  CreatesWanted old new = OnOk result (MakesWanted old new)

  -- the tables of a version were brought to those of the last one
  abbrev pub CompletesTables : Version → State → State → Type 0
  CompletesTables version old new = OnOk result (IsBegun version old → HasAllAfter version old new)

  -- and row changes were made in them
  abbrev pub BringsTo : Version → List RowChange → State → State → Type 0
  BringsTo version changes old new = OnOk result (BringsInside version changes old new)

-- a statement ran, and wrote so many rows
abbrev pub RanCounting : {E : Type 0} → Result ℕ E → List ℕ → Row → State → State → Type 0
RanCounting result sql params old new = IfOk result (λ count. RanOn count sql params old new)

-- OF A WHOLE TRANSACTION, or of a call outside one
module _ {S : Type 0} (g : Ghosts S) (old new : Held S) where
  -- a look at a database, which changes nothing if the database was so
  pub record Looks (was : State → Type 0) : Type 0 where
    pub mode : new.in_transaction ≡ false
    pub left : HasCleanDisk (state g new) → was (state g old) → Leaves (state g old) (state g new)
    pub lasts : Lasts (state g old) (state g new)

  module _ {T E : Type 0} (result : Result T E) where
    -- the same, and the connection is open if there is an answer
    pub record Asked (was : State → Type 0) : Type 0 where
      pub mode : new.in_transaction ≡ false
      pub left : HasCleanDisk (state g new) → was (state g old) → Leaves (state g old) (state g new)
      pub lasts : Lasts (state g old) (state g new)
      pub stays : HasCleanDisk (state g new) → OnOk result (IsTrue (state g new).is_open)

    -- A transaction on a database that was so: it did this, or was refused and changed nothing.
    pub record Commits (was : State → Type 0) (done : State → State → Type 0) : Type 0 where
      pub mode : new.in_transaction ≡ false
      pub did : HasCleanDisk (state g new) → OnOk result (was (state g old) → done (state g old) (state g new))
      pub left : HasCleanDisk (state g new) → was (state g old) → OnErr result (Leaves (state g old) (state g new))
      pub lasts : Lasts (state g old) (state g new)
      pub stays : HasCleanDisk (state g new) → OnOk result (IsTrue (state g new).is_open)

    -- one by which tables are made, up to so many
    pub record MakesTables (from to : ℕ) : Type 0 where
      pub mode : new.in_transaction ≡ false
      pub made : HasCleanDisk (state g new) → OnOk result (IsUnused (after_first from) (state g old) → IsUnused (after_first to) (state g new))
      pub clean : HasCleanDisk (state g new) → HasCleanDisk (state g old)

-- the rows that a query shows
abbrev pub AreShown : {S E : Type 0} → Ghosts S → Held S → Held S → Result (Vec Row Global) E → List ℕ → Row → Type 0
AreShown g old new result sql params = HasCleanDisk (state g new) → IfOk result (λ rows. Shown sql params (state g old) (state g new) rows.items)
