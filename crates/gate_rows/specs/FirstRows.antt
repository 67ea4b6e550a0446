-- THE ROWS OF VERSION 1 of the schema. There the lists of the settings stand among the marks, of no change.
use Rattle.std.specs.Prelude.{◌≡◌, ◌⊎◌, ℤ, pos, [], ◌++◌, map, if◌then◌else◌}
use Rattle.std.specs.Ordering.{int_eq}
use Rattle.gate_state.specs.State.{IsState}
use Rattle.gate_state.specs.declared.state.State.{State}
use Rattle.gate_tables.specs.Contents.{AreSame}
use Rattle.gate_tables.specs.Differences.{HaveKeys}
use Rattle.gate_tables.specs.declared.row.DeskRow.{DeskRow}
use Rattle.gate_tables.specs.declared.row.MarkRow.{MarkRow}
use Rattle.gate_tables.specs.declared.row.Rows.{Rows}
use Rattle.gate_tables.specs.declared.row.WantedRow.{WantedRow}
use Rattle.gate_rows.specs.Encoding.{rows_of}
use Rattle.gate_rows.specs.Standing.{KeepsLimits}

-- required statuses, blocking labels, statuses of the head
abbrev pub first_kind : ℤ → ℤ
first_kind kind = if int_eq kind (pos 1) then pos 6 else (if int_eq kind (pos 2) then pos 7 else pos 9)

abbrev pub IsListKind : ℤ → Type 0
IsListKind kind = (kind ≡ pos 1) ⊎ ((kind ≡ pos 2) ⊎ (kind ≡ pos 3))

abbrev pub as_mark : WantedRow → MarkRow
as_mark row = record { change_no = pos 0; kind = first_kind row.kind; word = row.word; place = row.place }

abbrev pub with_version : ℤ → DeskRow → DeskRow
with_version version row = record row { version = version }

-- the rows of version 1 that stand for what rows of version 2 stand for
abbrev pub in_first : Rows → Rows
in_first rows = record rows {
  desk = map (with_version (pos 1)) rows.desk;
  marks = rows.marks ++ map as_mark rows.wanted;
  wanted = [];
}

-- In the rows of a state in version 1 no two rows of a table have one key.
abbrev pub LawOfFirstKeys : Type 0
LawOfFirstKeys = (s : State) → IsState s → KeepsLimits s.desk → HaveKeys (in_first (rows_of s))

-- Rows of version 1, in any order, stand for one state at the most.
abbrev pub LawOfFirstRows : Type 0
LawOfFirstRows = (s t : State) → IsState s → IsState t → KeepsLimits s.desk → KeepsLimits t.desk → AreSame (in_first (rows_of s)) (in_first (rows_of t)) → s ≡ t
