-- THE ROWS OF THE PARTS THAT WERE NOTED before acts, as they were then and as they are now. What wasn't noted has the same rows then and
-- now.
use Rattle.std.specs.Prelude.{ℕ, ◌-◌, List, [], ◌∷◌, ◌++◌, map as list_map, Option}
use Rattle.std.specs.FinMap as finite
use Rattle.std.specs.FinMap.{FinMap}
use Rattle.std.specs.List.{filter_map, flat_map, range_with_len}
use Rattle.std.specs.Option.{option_map, option_map_or, unwrap_or}
use Rattle.std.specs.declared.cmp.Ordering.{Ordering}
use Rattle.gate_text.specs.Settings.{SettingsView}
use Rattle.gate_queue.specs.Before.{IsBefore, Noted}
use Rattle.gate_state.specs.Queue.{batch_numbered}
use Rattle.gate_state.specs.State.{IsState}
use Rattle.gate_state.specs.declared.batch.Batch.{Batch}
use Rattle.gate_state.specs.declared.queue.Queue.{Queue}
use Rattle.gate_state.specs.declared.state.State.{State}
use Rattle.gate_rows.specs.Changed.{by_keys}
use Rattle.gate_rows.specs.Encoding.{batch_row, change_row, desk_row, desk_row_of, marks_of, members_of, person_row, rows_of, statuses_of, wanted_of}
use Rattle.gate_tables.specs.Applied.{applied}
use Rattle.gate_tables.specs.Contents.{AreSame}
use Rattle.gate_tables.specs.Differences.{HaveKeys, differences}
use Rattle.gate_tables.specs.declared.change.RowChange.{RowChange}
use Rattle.gate_tables.specs.declared.row.Rows.{Rows}
use Rattle.gate_tables.specs.declared.row.WantedRow.{WantedRow}

-- PEOPLE AND CHANGES that were noted: those that were there, and those that a map has now, each behind its name or number
abbrev pub named : {K X : Type 0} → K → Option X → Option (K × X)
named key value = option_map (λ x. (key, x)) value

abbrev pub were_there : {K X : Type 0} → List (K × Option X) → List (K × X)
were_there noted = filter_map (λ e. named e.0 e.1) noted

abbrev pub are_there : {K X : Type 0} {R : K → K → Ordering} → FinMap R X → List (K × Option X) → List (K × X)
are_there m noted = filter_map (λ e. named e.0 (finite.get m e.0)) noted

-- BATCHES: then those that were noted and were there; now those of the noted numbers, and those of all new ones
abbrev pub batches_then : Noted → List Batch
batches_then before = filter_map (λ e. e.1) (finite.entries before.batches)

-- from the next number then up to the next one now
abbrev pub new_numbers : Noted → Queue → List ℕ
new_numbers before queue = range_with_len before.next (queue.next - before.next)

abbrev pub batches_under : List ℕ → Queue → List Batch
batches_under numbers queue = filter_map (λ number. batch_numbered number queue) numbers

abbrev pub batches_now : Noted → Queue → List Batch
batches_now before queue = batches_under (finite.keys before.batches ++ new_numbers before queue) queue

-- SETTINGS: if they weren't noted, they were as now, and their lists are left out.
abbrev pub settings_then : Noted → State → Option SettingsView
settings_then before now = unwrap_or before.settings now.desk.settings

abbrev pub wanted_then : Noted → List WantedRow
wanted_then before = option_map_or wanted_of before.settings []

abbrev pub wanted_now : Noted → State → List WantedRow
wanted_now before now = option_map_or (λ then. wanted_of now.desk.settings) before.settings []

-- ALL TABLES
abbrev pub rows_then : Noted → State → Rows
rows_then before now = record {
  desk = desk_row_of before.next before.clock before.base (settings_then before now) ∷ [];
  people = list_map person_row (were_there (finite.entries before.people));
  changes = list_map change_row (were_there (finite.entries before.changes));
  marks = flat_map marks_of (were_there (finite.entries before.changes));
  batches = list_map batch_row (batches_then before);
  members = flat_map members_of (batches_then before);
  statuses = flat_map statuses_of (batches_then before);
  wanted = wanted_then before;
}

abbrev pub rows_now : Noted → State → Rows
rows_now before now = record {
  desk = desk_row now ∷ [];
  people = list_map person_row (are_there now.desk.roles (finite.entries before.people));
  changes = list_map change_row (are_there now.desk.changes (finite.entries before.changes));
  marks = flat_map marks_of (are_there now.desk.changes (finite.entries before.changes));
  batches = list_map batch_row (batches_now before now.queue);
  members = flat_map members_of (batches_now before now.queue);
  statuses = flat_map statuses_of (batches_now before now.queue);
  wanted = wanted_now before now;
}

-- THE ROWS THAT DIFFER between the state that was before and the one now, as row changes: those that differ among these rows.
abbrev pub changes_since : Noted → State → List RowChange
changes_since before now = differences (by_keys (rows_then before now)) (by_keys (rows_now before now))

-- two states of the machine, and what was noted of the first
pub record AreStates (noted : Noted) (was now : State) : Type 0 where
  pub before : IsBefore noted was now
  pub old : IsState was
  pub new : IsState now

-- They lead from the rows of the one, in any order, to those of the other.
abbrev pub LawOfChangesSince : Type 0
LawOfChangesSince = (before : Noted) (old new : State) (rows : Rows) → AreStates before old new → AreSame rows (rows_of old) → AreSame (applied (changes_since before new) rows) (rows_of new)

-- In the rows of the parts no two rows of a table have one key.
abbrev pub LawOfKeysSince : Type 0
LawOfKeysSince = (before : Noted) (old new : State) → AreStates before old new → HaveKeys (rows_then before new) × HaveKeys (rows_now before new)
