-- THE STATE THAT ROWS STAND FOR. Each table is read as a set: the order of its rows says nothing.
use Rattle.std.specs.Prelude.{ℕ, ℤ, pos, neg_ℤ, nat_abs, not, Bool, true, false, ◌&&◌, List, [], ◌∷◌, map as list_map, Option, Some, None, if◌then◌else◌}
use Rattle.std.specs.Cmp.Lexicographic.{slice_cmp}
use Rattle.std.specs.FinMap as finite
use Rattle.std.specs.FinMap.{FinMap, from_entries}
use Rattle.std.specs.FinSet as set
use Rattle.std.specs.FinSet.{FinSet}
use Rattle.std.specs.List.{filter, list_any}
use Rattle.std.specs.Ordering.{int_cmp, int_eq, nat_cmp}
use Rattle.std.specs.Str.{bytes_eq}
use Rattle.std.specs.declared.cmp.Ordering.{Ordering}
use Rattle.gate_text.specs.Settings.{SettingsView}
use Rattle.gate_rules.specs.View.{DeskView}
use Rattle.gate_rules.specs.declared.change.Change.{Change}
use Rattle.gate_rules.specs.declared.change.Phase.{Phase}
use Rattle.gate_rules.specs.declared.change.Phase.TheVariants.{Opened, Closed, Landed}
use Rattle.gate_rules.specs.declared.change.Repeat.{Repeat}
use Rattle.gate_rules.specs.declared.change.Repeat.TheVariants as repeat
use Rattle.gate_rules.specs.declared.role.Role.{Role}
use Rattle.gate_rules.specs.declared.role.Role.TheVariants.{Nobody, Member, Reviewer}
use Rattle.gate_queue.specs.Machine.{empty_state}
use Rattle.gate_state.specs.declared.batch.Batch.{Batch}
use Rattle.gate_state.specs.declared.batch.Branch.{Branch}
use Rattle.gate_state.specs.declared.batch.Branch.TheVariants.{Staging, Trying}
use Rattle.gate_state.specs.declared.batch.Report.{Report}
use Rattle.gate_state.specs.declared.batch.Report.TheVariants.{Success, Pending}
use Rattle.gate_state.specs.declared.batch.Stage.{Stage}
use Rattle.gate_state.specs.declared.batch.Stage.TheVariants as stage
use Rattle.gate_state.specs.declared.lane.Lane.{Lane}
use Rattle.gate_state.specs.declared.state.State.{State}
use Rattle.gate_rows.specs.Encoding.{branch_number}
use Rattle.gate_tables.specs.declared.row.BatchRow.{BatchRow}
use Rattle.gate_tables.specs.declared.row.ChangeRow.{ChangeRow}
use Rattle.gate_tables.specs.declared.row.DeskRow.{DeskRow}
use Rattle.gate_tables.specs.declared.row.MarkRow.{MarkRow}
use Rattle.gate_tables.specs.declared.row.MemberRow.{MemberRow}
use Rattle.gate_tables.specs.declared.row.Rows.{Rows}
use Rattle.gate_tables.specs.declared.row.StatusRow.{StatusRow}
use Rattle.gate_tables.specs.declared.row.WantedRow.{WantedRow}

abbrev pub first : {X : Type 0} → List X → Option X
first [] = None
first (x ∷ xs) = Some x

-- values in the order of their keys
abbrev pub in_order : {K X : Type 0} → (K → K → Ordering) → List (K × X) → List X
in_order compare entries = list_map (λ entry. entry.1) (finite.entries (from_entries {R = compare} entries))

-- NUMBERS AS WORDS
abbrev pub role_in : ℤ → Role
role_in number = if int_eq number (pos 1) then Member else (if int_eq number (pos 2) then Reviewer else Nobody)

abbrev pub phase_in : ℤ → Phase
phase_in number = if int_eq number (pos 1) then Opened else (if int_eq number (pos 2) then Closed else Landed)

abbrev pub last_in : ℤ → List (List ℕ) → Option Repeat
last_in number names =
    if int_eq number (pos 1) then Some repeat.Approve
    else (if int_eq number (pos 2) then Some (repeat.ApproveFor names)
    else (if int_eq number (pos 3) then Some repeat.Try else None))

abbrev pub branch_in : ℤ → Branch
branch_in number = if int_eq number (pos 1) then Staging else Trying

abbrev pub report_in : ℤ → Report
report_in number = if int_eq number (pos 1) then Success else Pending

abbrev pub stage_in : ℤ → ℤ → List ℕ → FinMap (slice_cmp nat_cmp) Report → Stage
stage_in number since sha reports =
    if int_eq number (pos 1) then stage.Waiting
    else (if int_eq number (pos 2) then stage.Ordered (nat_abs since)
    else (if int_eq number (pos 3) then stage.Staged (nat_abs since) sha reports else stage.Landing sha))

-- MARKS
abbrev pub is_mark : ℤ → ℤ → MarkRow → Bool
is_mark change kind row = int_eq row.kind kind && int_eq row.change_no change

abbrev pub set_in : ℤ → ℤ → List MarkRow → FinSet (slice_cmp nat_cmp)
set_in change kind rows = set.from_list (list_map (λ row. row.word) (filter (is_mark change kind) rows))

abbrev pub list_in : ℤ → ℤ → List MarkRow → List (List ℕ)
list_in change kind rows = in_order int_cmp (list_map (λ row. (row.place, row.word)) (filter (is_mark change kind) rows))

-- THE LISTS OF THE SETTINGS
abbrev pub is_wanted : ℤ → WantedRow → Bool
is_wanted kind row = int_eq row.kind kind

abbrev pub wanted_in : ℤ → List WantedRow → List (List ℕ)
wanted_in kind rows = in_order int_cmp (list_map (λ row. (row.place, row.word)) (filter (is_wanted kind) rows))

-- BATCHES
abbrev pub changes_in : ℤ → List MemberRow → List ℕ
changes_in number rows = in_order int_cmp (list_map (λ row. (row.place, nat_abs row.change_no)) (filter (λ row. int_eq row.batch number) rows))

abbrev pub reports_in : ℤ → List StatusRow → FinMap (slice_cmp nat_cmp) Report
reports_in number rows = from_entries (list_map (λ row. (row.name, report_in row.report)) (filter (λ row. int_eq row.batch number) rows))

abbrev pub batch_in : Rows → BatchRow → Batch
batch_in rows row = record {
  number = nat_abs row.number;
  branch = branch_in row.branch;
  priority = row.priority;
  again = int_eq row.again (pos 1);
  stage = stage_in row.phase row.since row.sha (reports_in row.number rows.statuses);
  changes = changes_in row.number rows.members;
}

-- the waiting batches of a branch by greater priority, then again before fresh, then smaller number
abbrev pub service_key : BatchRow → List ℤ
service_key row = neg_ℤ row.priority ∷ neg_ℤ row.again ∷ row.number ∷ []

abbrev pub is_on : Branch → Bool → BatchRow → Bool
is_on branch waits row = int_eq row.branch (branch_number branch) && (if waits then int_eq row.phase (pos 1) else not (int_eq row.phase (pos 1)))

abbrev pub lane_in : Branch → Rows → Lane
lane_in branch rows = record {
  running = first (list_map (batch_in rows) (filter (is_on branch false) rows.batches));
  waiting = in_order (slice_cmp int_cmp) (list_map (λ row. (service_key row, batch_in rows row)) (filter (is_on branch true) rows.batches));
}

-- CHANGES. One is tried if it is in a batch of `Trying`, and landing if it is in a batch that lands.
abbrev pub is_member : ℤ → (BatchRow → Bool) → Rows → Bool
is_member change test rows = list_any (λ row. int_eq row.change_no change && list_any (λ batch. int_eq batch.number row.batch && test batch) rows.batches) rows.members

abbrev pub change_in : Rows → ChangeRow → Change
change_in rows row = record {
  author = row.author;
  head = row.head;
  phase = phase_in row.phase;
  priority = row.priority;
  labels = set_in row.number (pos 1) rows.marks;
  reviews = set_in row.number (pos 2) rows.marks;
  passed = set_in row.number (pos 8) rows.marks;
  delegates = set_in row.number (pos 3) rows.marks;
  approved = if int_eq row.approved (pos 1) then Some (list_in row.number (pos 4) rows.marks) else None;
  trying = is_member row.number (λ batch. int_eq batch.branch (pos 2)) rows;
  landing = is_member row.number (λ batch. int_eq batch.phase (pos 4)) rows;
  last = last_in row.last_command (list_in row.number (pos 5) rows.marks);
}

-- THE DESK AND THE QUEUE
abbrev pub settings_in : Rows → ℤ → ℤ → ℤ → Option SettingsView
settings_in rows timeout approvals size = if int_eq timeout (pos 0) then None else Some (record {
  status = wanted_in (pos 1) rows.wanted;
  timeout_sec = nat_abs timeout;
  block_labels = wanted_in (pos 2) rows.wanted;
  required_approvals = nat_abs approvals;
  max_batch_size = if int_eq size (pos 0) then None else Some (nat_abs size);
  pr_status = wanted_in (pos 3) rows.wanted;
})

abbrev pub desk_in : Rows → DeskRow → DeskView
desk_in rows row = record {
  roles = from_entries (list_map (λ row. (row.name, role_in row.role)) rows.people);
  changes = from_entries (list_map (λ row. (nat_abs row.number, change_in rows row)) rows.changes);
  settings = settings_in rows row.timeout_sec row.required_approvals row.max_batch_size;
  base = if bytes_eq row.base [] then None else Some row.base;
  clock = nat_abs row.clock;
}

-- without its row for the desk, the empty state
abbrev pub state_by : Rows → Option DeskRow → State
state_by rows None = empty_state 1
state_by rows (Some row) = record {
  desk = desk_in rows row;
  queue = record { staging = lane_in Staging rows; trying = lane_in Trying rows; next = nat_abs row.next_batch };
}

abbrev pub state_in : Rows → State
state_in rows = state_by rows (first rows.desk)
