-- THE ROWS THAT DIFFER between two states, as row changes: what is deleted, then what is put, each in the order of the tables and by
-- key upwards.
use Rattle.std.specs.Prelude.{Bool, false, List, [], ◌∷◌, if◌then◌else◌}
use Rattle.std.specs.Ordering.{is_lt}
use Rattle.std.specs.declared.cmp.Ordering.{Ordering}
use Rattle.gate_state.specs.State.{IsState}
use Rattle.gate_state.specs.declared.state.State.{State}
use Rattle.gate_rows.specs.Encoding.{rows_of}
use Rattle.gate_tables.specs.Applied.{applied}
use Rattle.gate_tables.specs.Contents.{AreSame}
use Rattle.gate_tables.specs.Differences.{differences}
use Rattle.gate_tables.specs.Forms as forms
use Rattle.gate_tables.specs.Forms.{Form}
use Rattle.gate_tables.specs.Keys.{key_of}
use Rattle.gate_tables.specs.declared.change.RowChange.{RowChange}
use Rattle.gate_tables.specs.declared.row.Rows.{Rows}
use Rattle.sqlite_value.specs.Order.{row_cmp}

-- keys, column by column: numbers by size, texts by their bytes
abbrev pub key_cmp : {R : Type 0} → Form R → R → R → Ordering
key_cmp form r x = row_cmp (key_of form r) (key_of form x)

-- a row before the first one that has no smaller key
abbrev pub entered : {R : Type 0} → Form R → R → List R → List R
entered form r [] = r ∷ []
entered form r (x ∷ rows) = if is_lt (key_cmp form x r) then x ∷ entered form r rows else r ∷ x ∷ rows

-- rows by key upwards
abbrev pub by_key : {R : Type 0} → Form R → List R → List R
by_key form [] = []
by_key form (r ∷ rows) = entered form r (by_key form rows)

abbrev pub by_keys : Rows → Rows
by_keys rows = record {
  desk = by_key forms.desk rows.desk;
  people = by_key forms.people rows.people;
  changes = by_key forms.changes rows.changes;
  marks = by_key forms.marks rows.marks;
  batches = by_key forms.batches rows.batches;
  members = by_key forms.members rows.members;
  statuses = by_key forms.statuses rows.statuses;
  wanted = by_key forms.wanted rows.wanted;
}

abbrev pub changed_rows : State → State → List RowChange
changed_rows old new = differences (by_keys (rows_of old)) (by_keys (rows_of new))

-- They lead from the rows of the one, in any order, to those of the other.
abbrev pub LawOfChangedRows : Type 0
LawOfChangedRows = (old new : State) (rows : Rows) → IsState old → IsState new → AreSame rows (rows_of old) → AreSame (applied (changed_rows old new) rows) (rows_of new)

-- For private clauses: the rows from the first one on that has no smaller key, and whether a test holds of the first.
abbrev pub from_key : {R : Type 0} → Form R → R → List R → List R
from_key form r [] = []
from_key form r (x ∷ rows) = if is_lt (key_cmp form x r) then from_key form r rows else x ∷ rows

abbrev pub begin_so : {R : Type 0} → (R → Bool) → List R → Bool
begin_so test [] = false
begin_so test (x ∷ rows) = test x

-- the rows that have no match among others, if both are listed by key and only rows of one key match
abbrev pub unmatched : {R : Type 0} → Form R → (R → R → Bool) → List R → List R → List R
unmatched form match [] others = []
unmatched form match (r ∷ rows) others =
    if begin_so (match r) (from_key form r others) then unmatched form match rows (from_key form r others)
    else r ∷ unmatched form match rows (from_key form r others)
