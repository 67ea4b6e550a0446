-- DATABASES OF ALL VERSIONS OF THE SCHEMA, and what they stand for.
use Rattle.std.specs.Prelude.{◌≡◌, ◌⊎◌, IsOk, ℕ, ℤ, pos, Bool, false, List, [], ◌∷◌, Some}
use Rattle.std.specs.FinMap.{empty}
use Rattle.std.specs.List.{AllByRecursion}
use Rattle.std.specs.Ordering.{int_eq}
use Rattle.gate_text.specs.SmallTexts.{delivery_id_of}
use Rattle.gate_queue.specs.Machine.{empty_state}
use Rattle.gate_state.specs.State.{IsState}
use Rattle.gate_state.specs.declared.state.State.{State}
use Rattle.gate_answers.specs.Answers.{answer_data, answer_text_of}
use Rattle.gate_answers.specs.Limits.{IsAnswer}
use Rattle.gate_answers.specs.Reading.{answer_of}
use Rattle.gate_store.specs.Run.{Records}
use Rattle.gate_rows.specs.Encoding.{rows_of}
use Rattle.gate_rows.specs.FirstRows.{in_first}
use Rattle.gate_sql.specs.Shown.{AreTextsOf, shown}
use Rattle.gate_rows.specs.Standing.{KeepsLimits}
use Rattle.gate_tables.specs.Applied.{applied}
use Rattle.gate_tables.specs.Contents.{AreSame, answers_at}
use Rattle.gate_tables.specs.Forms as forms
use Rattle.gate_tables.specs.Database.{schema_of}
use Rattle.gate_tables.specs.Schemas.{HasTables, stored_rows, version_of}
use Rattle.gate_tables.specs.Tables.{is_sound}
use Rattle.gate_tables.specs.declared.change.RowChange.{RowChange}
use Rattle.gate_tables.specs.declared.row.DeskRow.{DeskRow}
use Rattle.gate_tables.specs.declared.row.Rows.{Rows}
use Rattle.gate_tables.specs.declared.version.Version.{Version}
use Rattle.gate_tables.specs.declared.version.Version.TheVariants.{Version1, Version2}
use Rattle.serde_json.specs.Read.{read}
use Rattle.sqlite.specs.Effect.{Database}
use Rattle.sqlite.specs.Held.{Held, state}
use Rattle.sqlite.specs.Store.{Ghosts}

-- the rows of a version that stand for what rows of the last one stand for
abbrev pub rows_as : Version → Rows → Rows
rows_as Version1 rows = in_first rows
rows_as Version2 rows = rows

-- WHAT A DATABASE STANDS FOR: a state of the machine, of which it has the rows of its version, and answers under identifiers, of which
-- it has the texts

pub record StandsFor (db : Database) (records : Records) : Type 0 where
  pub state : IsState records.state
  pub limits : KeepsLimits records.state.desk
  pub rows_are : AreSame (stored_rows db) (rows_as (version_of db.schema) (rows_of records.state))
  pub identified : AllByRecursion (λ entry. IsOk (delivery_id_of entry.0)) (forms.rows_of forms.answers db.trees)
  pub texts_are : AreTextsOf records.kept (answers_at db.trees)

-- a database has no table, index or view
abbrev pub HasNoTables : Database → Type 0
HasNoTables db = db.schema ≡ schema_of []

-- the records of a new book
abbrev pub new_records : Records
new_records = record { state = empty_state 1; kept = empty }

-- WHAT A DATABASE IS OPENED AS: what it stands for, or, if it has no table, index or view, the empty state without answers
abbrev pub OpensAs : Database → Records → Type 0
OpensAs db records = (HasNoTables db × (records ≡ new_records)) ⊎ (HasTables db × StandsFor db records)

-- a book shows records for which the database of a connection stands, if it is sound
abbrev pub ShowsWhat : {S : Type 0} → (Database → Records → Type 0) → Ghosts S → Held S → Held S → Type 0
ShowsWhat stands g connection book = is_sound g book → stands (state g connection).now (shown g book)

-- For private clauses: whether the row of the desk names the next version,
abbrev pub is_next : Version → ℤ → Bool
is_next Version1 number = int_eq number (pos 2)
is_next Version2 number = false

abbrev pub names_next : Version → List DeskRow → Bool
names_next version [] = false
names_next version (row ∷ rows) = is_next version row.version

-- a text that is written for the answer as which it is read,
pub record IsAnswerText (text : List ℕ) : Type 0 where
  pub good : IsAnswer (answer_of text)
  pub reads : read text ≡ Some (answer_data (answer_of text))
  pub written : text ≡ answer_text_of (answer_of text)

-- such texts under identifiers of deliveries,
abbrev pub IsKeptAnswer : List ℕ × List ℕ → Type 0
IsKeptAnswer entry = IsOk (delivery_id_of entry.0) × IsAnswerText entry.1

abbrev pub AreKeptAnswers : List (List ℕ × List ℕ) → Type 0
AreKeptAnswers entries = AllByRecursion IsKeptAnswer entries

-- row changes that lead from rows to those of a state,
abbrev pub LeadTo : State → List RowChange → Rows → Type 0
LeadTo s changes rows = AreSame (applied changes rows) (rows_of s)

-- and so from its rows in a version, in any order,
abbrev pub LeadFromVersion : Version → State → List RowChange → Type 0
LeadFromVersion version s changes = (rows : Rows) → AreSame rows (rows_as version (rows_of s)) → LeadTo s changes rows

-- and rows of a version that stand for a state, with row changes that lead from them to its rows in the last version
pub record Understands (version : Version) (rows : Rows) (changes : List RowChange) : Type 0 where
  pub s : State
  pub state : IsState s
  pub limits : KeepsLimits s.desk
  pub rows_are : AreSame rows (rows_as version (rows_of s))
  pub leads : (others : Rows) → AreSame others rows → LeadTo s changes others
