-- WHAT A BOOK SHOWS: the state for which its rows stand, and the answers whose texts it keeps. And what its tables hold: that, and
-- nothing besides.
use Rattle.std.specs.Prelude.{◌≡◌, ℕ, List, Result, map as list_map}
use Rattle.std.specs.Cmp.Lexicographic.{slice_cmp}
use Rattle.std.specs.FinMap as finite
use Rattle.std.specs.FinMap.{FinMap}
use Rattle.std.specs.Option.{option_map}
use Rattle.std.specs.Ordering.{nat_cmp}
use Rattle.gate_state.specs.State.{IsState}
use Rattle.gate_state.specs.declared.reply.Reply.{Reply}
use Rattle.gate_answers.specs.Answers.{answer_text_of}
use Rattle.gate_answers.specs.Reading.{answer_of}
use Rattle.gate_queue.specs.declared.fault.Fault.{Fault}
use Rattle.gate_store.specs.Calls.{Commits}
use Rattle.gate_store.specs.Run.{IsOfBooks, Records}
use Rattle.gate_rows.specs.Decoding.{state_in}
use Rattle.gate_rows.specs.Encoding.{rows_of}
use Rattle.gate_rows.specs.Standing.{KeepsLimits}
use Rattle.gate_tables.specs.Contents.{AreSame}
use Rattle.gate_tables.specs.Tables.{IsBook, is_honest, is_shielded, is_sound, rows_in, answers_in}
use Rattle.gate_tables.specs.declared.row.Rows.{Rows}
use Rattle.sqlite.specs.Held.{Held, state}
use Rattle.sqlite.specs.Store.{Ghosts}

abbrev pub read_entry : List ℕ × List ℕ → List ℕ × List Reply
read_entry entry = (entry.0, answer_of entry.1)

-- the answer of each text
abbrev pub answers_of : FinMap (slice_cmp nat_cmp) (List ℕ) → FinMap (slice_cmp nat_cmp) (List Reply)
answers_of texts = finite.from_entries (list_map read_entry (finite.entries texts))

abbrev pub shown : {S : Type 0} → Ghosts S → Held S → Records
shown g h = record { state = state_in (rows_in g h); kept = answers_of (answers_in g h) }

-- under each identifier exactly the text of its answer
abbrev pub AreTextsOf : FinMap (slice_cmp nat_cmp) (List Reply) → FinMap (slice_cmp nat_cmp) (List ℕ) → Type 0
AreTextsOf answers texts = (id : List ℕ) → finite.get texts id ≡ option_map answer_text_of (finite.get answers id)

pub record Holds {S : Type 0} (g : Ghosts S) (h : Held S) : Type 0 where
  -- the nine tables alone, each row whole, one for a key
  pub tables : IsBook (state g h)
  -- exactly the rows of the state
  pub rows_are : AreSame (rows_in g h) (rows_of (shown g h).state)
  pub texts_are : AreTextsOf (shown g h).kept (answers_in g h)

-- Tables commit these records, or change nothing.
abbrev pub CommitsTables : {S T : Type 0} → Ghosts S → Held S → Held S → Result T Fault → Records → Type 0
CommitsTables g old new result after = Commits (shown g) (is_sound g) (is_honest g) (is_shielded g) IsOfBooks old new result after

-- For private clauses: rows and texts of which this is so, if the rows stand for a state of the machine, with the limits of a gate.
pub record IsHeld (rows : Rows) (texts : FinMap (slice_cmp nat_cmp) (List ℕ)) : Type 0 where
  pub state : IsState (state_in rows)
  pub limits : KeepsLimits (state_in rows).desk
  pub rows_are : AreSame rows (rows_of (state_in rows))
  pub texts_are : AreTextsOf (answers_of texts) texts

abbrev pub Keeps : {S : Type 0} → Ghosts S → Held S → Type 0
Keeps g h = is_sound g h → IsHeld (rows_in g h) (answers_in g h)
