-- WHAT TABLES SHOW: their rows and answers. The premise is that the disk has returned what was written and that no fault has
-- shut the connection; of a database in memory it always holds.
use Rattle.std.specs.Prelude.{◌≡◌, ℕ, false, List, [], ◌∷◌, map, Option, Some, None, Result, OnOk, OnErr, IsPermutation, IsTrue, refl}
use Rattle.std.specs.Cmp.Lexicographic.{slice_cmp}
use Rattle.std.specs.FinMap.{FinMap}
use Rattle.std.specs.List.{AllByRecursion, IsDistinct}
use Rattle.std.specs.Ordering.{nat_cmp, eq_by_cmp}
use Rattle.gate_tables.specs.Contents.{AreSame, rows_at, answers_at}
use Rattle.gate_tables.specs.Database.{cells}
use Rattle.gate_tables.specs.Effects.{MayBeTaken, IsReady}
use Rattle.gate_tables.specs.Forms.{answers, rows_of}
use Rattle.gate_tables.specs.Schemas.{stored_rows}
use Rattle.gate_tables.specs.declared.look.Contents.{Contents}
use Rattle.gate_tables.specs.declared.row.Rows.{Rows}
use Rattle.sqlite.proofs.Callers.{memory_is_clean}
use Rattle.sqlite.specs.Held.{Held, state}
use Rattle.sqlite.specs.Order.{Row, column, bytes}
use Rattle.sqlite.specs.State.{State, HasCleanDisk}
use Rattle.sqlite.specs.Steps.{over_memory}
use Rattle.sqlite.specs.Store.{Ghosts}
use Rattle.sqlite.specs.Tree.{Trees}
use Rattle.sqlite.specs.declared.MemStore.{MemStore}

module _ {S : Type 0} (g : Ghosts S) where
  -- the disk has returned what was written
  abbrev pub is_honest : Held S → Type 0
  is_honest h = HasCleanDisk (state g h)

  -- and no fault has shut the connection
  abbrev pub is_sound : Held S → Type 0
  is_sound h = is_honest h × IsTrue (state g h).is_open

  -- each later read is tested, so that over a file one that isn't honest is a fault, or two contents have one digest
  abbrev pub is_shielded : Held S → Type 0
  is_shielded h = (state g h).IsShielded

  -- what every call says of this: what is sound after it was sound before, what is honest was honest, and what was shielded still is
  pub record Outlasts (old new : Held S) : Type 0 where
    pub was : is_sound new → is_sound old
    pub honest : is_honest new → is_honest old
    pub shield : is_shielded old → is_shielded new

  abbrev pub rows_in : Held S → Rows
  rows_in h = rows_at (state g h).now.trees

  abbrev pub answers_in : Held S → FinMap (slice_cmp nat_cmp) (List ℕ)
  answers_in h = answers_at (state g h).now.trees

  abbrev pub ShowsTheSame : Held S → Held S → Type 0
  ShowsTheSame old new = (rows_in new ≡ rows_in old) × (answers_in new ≡ answers_in old)

  -- the rows of a database of any version
  abbrev pub stored_in : Held S → Rows
  stored_in h = stored_rows (state g h).now

  -- if it is sound, what was read is all that it holds
  pub record AreContents (h : Held S) (contents : Contents) : Type 0 where
    pub rows : is_sound h → AreSame (stored_in h) contents.rows
    pub answers : is_sound h → IsPermutation (rows_of answers (state g h).now.trees) contents.answers

  -- if it is sound, its database is as it was
  abbrev pub HoldsTheSame : Held S → Held S → Type 0
  HoldsTheSame old new = is_sound new → (state g new).now ≡ (state g old).now

  -- if it is sound, it has these rows, in any order, and these answers
  abbrev pub HasRows : Held S → Rows → Type 0
  HasRows h rows = is_sound h → AreSame (rows_in h) rows

  abbrev pub HasAnswers : Held S → FinMap (slice_cmp nat_cmp) (List ℕ) → Type 0
  HasAnswers h answers = is_sound h → answers_in h ≡ answers

  -- A connection that is handed back. No transaction is open. If it is sound, it was sound, and its database is as it was.
  pub record HandsBack (old back : Held S) : Type 0 where
    pub same : HoldsTheSame old back
    pub mode : back.in_transaction ≡ false
    pub was_refused : is_sound back → is_sound old

  -- a connection that was taken over: what is honest is sound
  pub record TakesOver (old new : Held S) : Type 0 where
    pub outlasts : Outlasts old new
    pub stays : is_honest new → is_sound new

  module _ {T E : Type 0} (old new : Held S) (result : Result T E) where
    -- A call that changes nothing. If it succeeds, what is honest is sound.
    pub record ChangesNothing : Type 0 where
      pub same : is_sound new → ShowsTheSame old new
      pub outlasts : Outlasts old new
      pub stays : is_honest new → OnOk result (is_sound new)

    -- A call that changes nothing if it is refused. If it succeeds, what is honest is sound.
    pub record AllOrNothing : Type 0 where
      pub same : is_sound new → OnErr result (ShowsTheSame old new)
      pub outlasts : Outlasts old new
      pub stays : is_honest new → OnOk result (is_sound new)

-- each answer is of two texts, and no identifier comes twice
pub record AreAnswers (db : Trees) : Type 0 where
  pub whole : AllByRecursion (λ c. answers.values (answers.read c) ≡ c) (cells answers.layout db)
  pub apart : IsDistinct (eq_by_cmp (slice_cmp nat_cmp)) (map (λ a. a.0) (rows_of answers db))

pub record IsBook (s : State) : Type 0 where
  pub ready : IsReady s
  pub answered : AreAnswers s.now.trees

-- what tables keep true of their connection
pub record Stands {S : Type 0} (g : Ghosts S) (h : Held S) : Type 0 where
  pub autocommit : h.in_transaction ≡ false
  pub book : is_sound g h → IsBook (state g h)

-- the same of tables that were found, and aren't taken over yet
pub record AreFound {S : Type 0} (g : Ghosts S) (h : Held S) : Type 0 where
  pub autocommit : h.in_transaction ≡ false
  pub found : is_sound g h → MayBeTaken (state g h)

pub always_sound : (h : Held MemStore) → is_sound over_memory h
always_sound h = (memory_is_clean h, refl)

-- what the first row of an answer says, for private clauses
abbrev pub answer_of : List Row → Option (List ℕ)
answer_of [] = None
answer_of (found ∷ more) = Some (bytes (column found 0))
