-- CHECKS of a state whose parts come from elsewhere: tests that a state of the machine passes, and nothing else.
use Rattle.std.specs.Prelude.{◌≡◌, ◌↔◌, ℕ, ◌==◌, nat_le, nat_lt, ℤ, pos, neg_ℤ, int_lt, Bool, true, false, not, ◌&&◌, ◌||◌, List, [], ◌∷◌, length, Option, Some, None, is_some, if◌then◌else◌}
use Rattle.std.specs.FinMap as finite
use Rattle.std.specs.List.{list_all, list_any}
use Rattle.std.specs.Option.{option_map_or}
use Rattle.std.specs.Ordering.{int_eq}
use Rattle.std.specs.Str.{bytes_eq}
use Rattle.gate_text.specs.Settings.{SettingsView}
use Rattle.gate_rules.specs.Rules.{is_open_phase}
use Rattle.gate_rules.specs.View.{DeskView, is_required}
use Rattle.gate_rules.specs.declared.change.Change.{Change}
use Rattle.gate_rules.specs.declared.change.Repeat.{Repeat}
use Rattle.gate_rules.specs.declared.change.Repeat.TheVariants.{Approve, ApproveFor, Try}
use Rattle.gate_state.specs.Lanes.{batches_of, goes_before, has_changes, is_landing}
use Rattle.gate_state.specs.State.{IsState, Marks, marks_on}
use Rattle.gate_state.specs.declared.batch.Batch.{Batch}
use Rattle.gate_state.specs.declared.batch.Branch.{Branch}
use Rattle.gate_state.specs.declared.batch.Branch.TheVariants.{Staging, Trying}
use Rattle.gate_state.specs.declared.batch.Report.{Report}
use Rattle.gate_state.specs.declared.batch.Stage.{Stage}
use Rattle.gate_state.specs.declared.batch.Stage.TheVariants.{Waiting, Ordered, Staged, Landing}
use Rattle.gate_state.specs.declared.lane.Lane.{Lane}
use Rattle.gate_state.specs.declared.queue.Queue.{Queue}
use Rattle.gate_state.specs.declared.state.State.{State}

-- each element passes a test with each behind it
abbrev pub all_pairs : {X : Type 0} → (X → X → Bool) → List X → Bool
all_pairs test [] = true
all_pairs test (x ∷ xs) = list_all (test x) xs && all_pairs test xs

-- A CHANGE, if there are settings and a base or not
abbrev pub fits_priority : ℤ → Bool
fits_priority priority = not (int_lt priority (neg_ℤ (pos 9999))) && not (int_lt (pos 9999) priority)

abbrev pub is_other_name : List ℕ → List ℕ → Bool
is_other_name one other = not (bytes_eq one other)

abbrev pub fit_names : List (List ℕ) → Bool
fit_names names = not (length names == 0) && all_pairs is_other_name names

abbrev pub fits_approval : Bool → Change → Option (List (List ℕ)) → Bool
fits_approval ready change None = not change.landing || ready
fits_approval ready change (Some names) = is_open_phase change.phase && ready && fit_names names

abbrev pub fits_try : Bool → Change → Bool
fits_try ready change = not change.trying || (is_open_phase change.phase && ready)

abbrev pub fits_repeat : Option Repeat → Bool
fits_repeat None = true
fits_repeat (Some Approve) = true
fits_repeat (Some (ApproveFor names)) = fit_names names
fits_repeat (Some Try) = true

abbrev pub fits_change : Bool → Change → Bool
fits_change ready change = fits_priority change.priority && fits_approval ready change change.approved && fits_try ready change && fits_repeat change.last

-- THE DESK
abbrev pub is_ready : DeskView → Bool
is_ready desk = is_some desk.settings && is_some desk.base

abbrev pub fit_changes : Bool → List (ℕ × Change) → Bool
fit_changes ready entries = list_all (λ (entry : ℕ × Change). fits_change ready entry.1) entries

abbrev pub fits_desk : DeskView → Bool
fits_desk desk = nat_le desk.clock 9_000_000_000_000_000 && fit_changes (is_ready desk) (finite.entries desk.changes)

-- THE NUMBERS of batches: below the next one, and all different
abbrev pub has_other_number : Batch → Batch → Bool
has_other_number one other = not (one.number == other.number)

abbrev pub fit_numbers : ℕ → List Batch → Bool
fit_numbers next batches = list_all (λ (batch : Batch). nat_lt batch.number next) batches && all_pairs has_other_number batches

abbrev pub have_other_numbers : List Batch → List Batch → Bool
have_other_numbers ones others = list_all (λ (one : Batch). list_all (has_other_number one) others) ones

abbrev pub fits_order : Queue → Bool
fits_order queue =
    fit_numbers queue.next (batches_of queue.staging)
    && fit_numbers queue.next (batches_of queue.trying)
    && have_other_numbers (batches_of queue.staging) (batches_of queue.trying)
    && all_pairs goes_before queue.staging.waiting
    && all_pairs goes_before queue.trying.waiting

-- THE STAGES of the batches of a branch
abbrev pub is_branch : Branch → Branch → Bool
is_branch Staging Staging = true
is_branch Staging Trying = false
is_branch Trying Staging = false
is_branch Trying Trying = true

abbrev pub is_waiting : Stage → Bool
is_waiting Waiting = true
is_waiting (Ordered since) = false
is_waiting (Staged since commit reports) = false
is_waiting (Landing commit) = false

abbrev pub fits_waiting : Branch → Batch → Bool
fits_waiting on batch = is_branch batch.branch on && is_waiting batch.stage && has_changes batch

abbrev pub fit_reports : Option SettingsView → List (List ℕ × Report) → Bool
fit_reports settings entries = list_all (λ (entry : List ℕ × Report). is_required settings entry.0) entries

abbrev pub fits_underway : DeskView → Stage → Bool
fits_underway desk Waiting = false
fits_underway desk (Ordered since) = nat_le since desk.clock
fits_underway desk (Staged since commit reports) = nat_le since desk.clock && fit_reports desk.settings (finite.entries reports)
fits_underway desk (Landing commit) = true

abbrev pub fits_running : DeskView → Branch → Batch → Bool
fits_running desk on batch = is_branch batch.branch on && fits_underway desk batch.stage && has_changes batch

abbrev pub fit_stages : DeskView → Branch → Lane → Bool
fit_stages desk on lane = list_all (fits_waiting on) lane.waiting && option_map_or (fits_running desk on) lane.running true

-- THE PLACES of changes: none has two
abbrev pub is_in : ℕ → List ℕ → Bool
is_in change changes = list_any (λ other. change == other) changes

abbrev pub is_inside : ℕ → List Batch → Bool
is_inside change batches = list_any (λ (batch : Batch). is_in change batch.changes) batches

abbrev pub is_other_change : ℕ → ℕ → Bool
is_other_change one other = not (one == other)

abbrev pub none_inside : List ℕ → List Batch → Bool
none_inside changes batches = list_all (λ change. not (is_inside change batches)) changes

abbrev pub are_apart : List Batch → Bool
are_apart [] = true
are_apart (batch ∷ batches) = all_pairs is_other_change batch.changes && none_inside batch.changes batches && are_apart batches

-- what is in a batch belongs to its branch, under its priority
abbrev pub belongs : Marks → ℕ → Bool
belongs marks change = marks.wanted change || marks.landing change

abbrev pub belongs_to : Marks → ℤ → ℕ → Bool
belongs_to marks priority change = belongs marks change && int_eq priority (marks.priority change)

abbrev pub belong_to : Marks → Batch → Bool
belong_to marks batch = list_all (belongs_to marks batch.priority) batch.changes

-- the changes of the running batch, if it is landing
abbrev pub landing_batch : Batch → List ℕ
landing_batch batch = if is_landing batch.stage then batch.changes else []

abbrev pub landing_changes : Option Batch → List ℕ
landing_changes None = []
landing_changes (Some batch) = landing_batch batch

-- a change of the desk is in a batch if it belongs to the branch, and in one that is landing if it is landing
abbrev pub is_held : Marks → Lane → ℕ → Bool
is_held marks lane change = (not (belongs marks change) || is_inside change (batches_of lane)) && (not (marks.landing change) || is_in change (landing_changes lane.running))

abbrev pub are_held : Marks → Lane → List (ℕ × Change) → Bool
are_held marks lane entries = list_all (λ (entry : ℕ × Change). is_held marks lane entry.0) entries

abbrev pub fit_places : Marks → Lane → List (ℕ × Change) → Bool
fit_places marks lane entries =
    are_apart (batches_of lane)
    && list_all (belong_to marks) (batches_of lane)
    && list_all marks.landing (landing_changes lane.running)
    && are_held marks lane entries

-- THE BATCHES OF A BRANCH
abbrev pub fits_lane : DeskView → Branch → Lane → Bool
fits_lane desk on lane = fit_stages desk on lane && fit_places (marks_on on desk) lane (finite.entries desk.changes)

-- Each try has one change, and none lands.
abbrev pub has_one : Batch → Bool
has_one batch = length batch.changes == 1

abbrev pub are_alone : Lane → Bool
are_alone lane = list_all has_one lane.waiting && option_map_or (λ batch. has_one batch && not (is_landing batch.stage)) lane.running true

-- A STATE
abbrev pub fits_queue : DeskView → Queue → Bool
fits_queue desk queue = fits_order queue && fits_lane desk Staging queue.staging && fits_lane desk Trying queue.trying && are_alone queue.trying

abbrev pub fits_next : ℕ → Bool
fits_next next = nat_le 1 next && nat_le next 9_000_000_000_000_000

abbrev pub fits : State → Bool
fits s = fits_desk s.desk && fits_next s.queue.next && fits_queue s.desk s.queue

-- Exactly the states pass.
abbrev pub LawOfChecks : Type 0
LawOfChecks = (s : State) → (fits s ≡ true) ↔ IsState s
