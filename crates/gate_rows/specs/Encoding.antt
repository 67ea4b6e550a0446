-- THE ROWS OF A STATE: what each table holds of it.
use Rattle.std.specs.Prelude.{ℕ, suc, ℤ, pos, Bool, true, false, List, [], ◌∷◌, ◌++◌, map as list_map, Option, Some, None}
use Rattle.std.specs.Cmp.Lexicographic.{slice_cmp}
use Rattle.std.specs.FinMap as finite
use Rattle.std.specs.FinSet.{FinSet}
use Rattle.std.specs.List.{flat_map}
use Rattle.std.specs.Option.{is_some, unwrap_or}
use Rattle.std.specs.Ordering.{nat_cmp}
use Rattle.gate_text.specs.Finite.{words_of}
use Rattle.gate_text.specs.Settings.{SettingsView}
use Rattle.gate_rules.specs.declared.change.Change.{Change}
use Rattle.gate_rules.specs.declared.change.Phase.{Phase}
use Rattle.gate_rules.specs.declared.change.Phase.TheVariants.{Opened, Closed, Landed}
use Rattle.gate_rules.specs.declared.change.Repeat.{Repeat}
use Rattle.gate_rules.specs.declared.change.Repeat.TheVariants as repeat
use Rattle.gate_rules.specs.declared.role.Role.{Role}
use Rattle.gate_rules.specs.declared.role.Role.TheVariants.{Nobody, Member, Reviewer}
use Rattle.gate_state.specs.Queue.{batches_of}
use Rattle.gate_state.specs.declared.batch.Batch.{Batch}
use Rattle.gate_state.specs.declared.batch.Branch.{Branch}
use Rattle.gate_state.specs.declared.batch.Branch.TheVariants.{Staging, Trying}
use Rattle.gate_state.specs.declared.batch.Report.{Report}
use Rattle.gate_state.specs.declared.batch.Report.TheVariants.{Success, Pending}
use Rattle.gate_state.specs.declared.batch.Stage.{Stage}
use Rattle.gate_state.specs.declared.batch.Stage.TheVariants as stage
use Rattle.gate_state.specs.declared.state.State.{State}
use Rattle.gate_tables.specs.declared.row.BatchRow.{BatchRow}
use Rattle.gate_tables.specs.declared.row.ChangeRow.{ChangeRow}
use Rattle.gate_tables.specs.declared.row.DeskRow.{DeskRow}
use Rattle.gate_tables.specs.declared.row.MarkRow.{MarkRow}
use Rattle.gate_tables.specs.declared.row.MemberRow.{MemberRow}
use Rattle.gate_tables.specs.declared.row.PersonRow.{PersonRow}
use Rattle.gate_tables.specs.declared.row.Rows.{Rows}
use Rattle.gate_tables.specs.declared.row.StatusRow.{StatusRow}
use Rattle.gate_tables.specs.declared.row.WantedRow.{WantedRow}

-- WORDS AS NUMBERS
abbrev pub flag : Bool → ℤ
flag false = pos 0
flag true = pos 1

-- `Nobody` has no row.
abbrev pub role_number : Role → ℤ
role_number Nobody = pos 0
role_number Member = pos 1
role_number Reviewer = pos 2

abbrev pub phase_number : Phase → ℤ
phase_number Opened = pos 1
phase_number Closed = pos 2
phase_number Landed = pos 3

abbrev pub last_number : Option Repeat → ℤ
last_number None = pos 0
last_number (Some repeat.Approve) = pos 1
last_number (Some (repeat.ApproveFor names)) = pos 2
last_number (Some repeat.Try) = pos 3

abbrev pub branch_number : Branch → ℤ
branch_number Staging = pos 1
branch_number Trying = pos 2

abbrev pub stage_number : Stage → ℤ
stage_number stage.Waiting = pos 1
stage_number (stage.Ordered since) = pos 2
stage_number (stage.Staged since commit reports) = pos 3
stage_number (stage.Landing commit) = pos 4

abbrev pub report_number : Report → ℤ
report_number Success = pos 1
report_number Pending = pos 2

-- PLACES: the items of a list, each behind its place
abbrev pub from_place : {X : Type 0} → ℕ → List X → List (ℤ × X)
from_place at [] = []
from_place at (x ∷ xs) = (pos at, x) ∷ from_place (suc at) xs

abbrev pub placed : {X : Type 0} → List X → List (ℤ × X)
placed xs = from_place 0 xs

-- THE DESK: 0 stands for a setting that there isn't, and an empty text for a base that there isn't.
abbrev pub timeout_of : Option SettingsView → ℤ
timeout_of None = pos 0
timeout_of (Some settings) = pos settings.timeout_sec

abbrev pub approvals_of : Option SettingsView → ℤ
approvals_of None = pos 0
approvals_of (Some settings) = pos settings.required_approvals

abbrev pub size_of : Option SettingsView → ℤ
size_of None = pos 0
size_of (Some settings) = pos (unwrap_or settings.max_batch_size 0)

-- by the number of the next batch, the clock, the base and the settings
abbrev pub desk_row_of : ℕ → ℕ → Option (List ℕ) → Option SettingsView → DeskRow
desk_row_of next clock base settings = record {
  one = pos 1;
  version = pos 2;
  next_batch = pos next;
  clock = pos clock;
  base = unwrap_or base [];
  timeout_sec = timeout_of settings;
  required_approvals = approvals_of settings;
  max_batch_size = size_of settings;
}

abbrev pub desk_row : State → DeskRow
desk_row s = desk_row_of s.queue.next s.desk.clock s.desk.base s.desk.settings

-- PEOPLE
abbrev pub person_row : List ℕ × Role → PersonRow
person_row entry = record { name = entry.0; role = role_number entry.1 }

-- CHANGES
abbrev pub change_row : ℕ × Change → ChangeRow
change_row entry = record {
  number = pos entry.0;
  author = entry.1.author;
  head = entry.1.head;
  phase = phase_number entry.1.phase;
  priority = entry.1.priority;
  approved = flag (is_some entry.1.approved);
  last_command = last_number entry.1.last;
}

-- MARKS of a change: sets of words, all at place 0, and lists, whose words have places
abbrev pub mark : ℕ → ℤ → ℤ × List ℕ → MarkRow
mark change kind entry = record { change_no = pos change; kind = kind; word = entry.1; place = entry.0 }

abbrev pub set_marks : ℕ → ℤ → FinSet (slice_cmp nat_cmp) → List MarkRow
set_marks change kind words = list_map (λ word. mark change kind (pos 0, word)) (words_of words)

abbrev pub list_marks : ℕ → ℤ → List (List ℕ) → List MarkRow
list_marks change kind words = list_map (mark change kind) (placed words)

-- the names of a last `r=`
abbrev pub names_of : Option Repeat → List (List ℕ)
names_of None = []
names_of (Some repeat.Approve) = []
names_of (Some (repeat.ApproveFor names)) = names
names_of (Some repeat.Try) = []

abbrev pub marks_of : ℕ × Change → List MarkRow
marks_of entry =
    set_marks entry.0 (pos 1) entry.1.labels ++ set_marks entry.0 (pos 2) entry.1.reviews ++ set_marks entry.0 (pos 3) entry.1.delegates
    ++ list_marks entry.0 (pos 4) (unwrap_or entry.1.approved []) ++ list_marks entry.0 (pos 5) (names_of entry.1.last)
    ++ set_marks entry.0 (pos 8) entry.1.passed

-- THE LISTS OF THE SETTINGS, whose words have places
abbrev pub wanted_row : ℤ → ℤ × List ℕ → WantedRow
wanted_row kind entry = record { kind = kind; place = entry.0; word = entry.1 }

abbrev pub list_wanted : ℤ → List (List ℕ) → List WantedRow
list_wanted kind words = list_map (wanted_row kind) (placed words)

abbrev pub wanted_of : Option SettingsView → List WantedRow
wanted_of None = []
wanted_of (Some settings) = list_wanted (pos 1) settings.status ++ list_wanted (pos 2) settings.block_labels ++ list_wanted (pos 3) settings.pr_status

-- BATCHES, their changes and their reports
abbrev pub since_of : Stage → ℤ
since_of stage.Waiting = pos 0
since_of (stage.Ordered since) = pos since
since_of (stage.Staged since commit reports) = pos since
since_of (stage.Landing commit) = pos 0

abbrev pub sha_of : Stage → List ℕ
sha_of stage.Waiting = []
sha_of (stage.Ordered since) = []
sha_of (stage.Staged since commit reports) = commit
sha_of (stage.Landing commit) = commit

abbrev pub batch_row : Batch → BatchRow
batch_row batch = record {
  number = pos batch.number;
  branch = branch_number batch.branch;
  priority = batch.priority;
  again = flag batch.again;
  phase = stage_number batch.stage;
  since = since_of batch.stage;
  sha = sha_of batch.stage;
}

abbrev pub member_row : ℕ → ℤ × ℕ → MemberRow
member_row number entry = record { batch = pos number; place = entry.0; change_no = pos entry.1 }

abbrev pub members_of : Batch → List MemberRow
members_of batch = list_map (member_row batch.number) (placed batch.changes)

abbrev pub status_row : ℕ → List ℕ × Report → StatusRow
status_row number entry = record { batch = pos number; name = entry.0; report = report_number entry.1 }

abbrev pub reports_of : Stage → List (List ℕ × Report)
reports_of stage.Waiting = []
reports_of (stage.Ordered since) = []
reports_of (stage.Staged since commit reports) = finite.entries reports
reports_of (stage.Landing commit) = []

abbrev pub statuses_of : Batch → List StatusRow
statuses_of batch = list_map (status_row batch.number) (reports_of batch.stage)

-- ALL TABLES
abbrev pub rows_of : State → Rows
rows_of s = record {
  desk = desk_row s ∷ [];
  people = list_map person_row (finite.entries s.desk.roles);
  changes = list_map change_row (finite.entries s.desk.changes);
  marks = flat_map marks_of (finite.entries s.desk.changes);
  batches = list_map batch_row (batches_of s.queue);
  members = flat_map members_of (batches_of s.queue);
  statuses = flat_map statuses_of (batches_of s.queue);
  wanted = wanted_of s.desk.settings;
}
