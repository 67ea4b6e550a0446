-- WHAT A STATE KEEPS, whatever has happened.
use Rattle.std.specs.Prelude.{◌≡◌, ◌≤◌, ℕ, ℤ, pos, not, Bool, true, false, ◌||◌, ⊤, List, Option, Some, None, is_some, IfSome, if◌then◌else◌}
use Rattle.std.specs.FinMap as finite
use Rattle.std.specs.FinMap.{FinMap}
use Rattle.std.specs.Cmp.Lexicographic.{slice_cmp}
use Rattle.std.specs.List.{All}
use Rattle.std.specs.Option.{option_map_or}
use Rattle.std.specs.Ordering.{int_eq, nat_cmp}
use Rattle.gate_text.specs.Limits.{IsPriority, AreNames}
use Rattle.gate_text.specs.Settings.{SettingsView}
use Rattle.gate_rules.specs.Rules as rules
use Rattle.gate_rules.specs.Rules.{Look, is_open_phase}
use Rattle.gate_rules.specs.View.{DeskView, look, is_required}
use Rattle.gate_rules.specs.declared.change.Change.{Change}
use Rattle.gate_rules.specs.declared.change.Repeat.{Repeat}
use Rattle.gate_rules.specs.declared.change.Repeat.TheVariants.{Approve, ApproveFor, Try}
use Rattle.gate_state.specs.Counts.{held, in_landing, of_any_priority}
use Rattle.gate_state.specs.Lanes.{has_changes}
use Rattle.gate_state.specs.Service.{QueueIsInOrder, AreAlone}
use Rattle.gate_state.specs.declared.batch.Batch.{Batch}
use Rattle.gate_state.specs.declared.batch.Branch.{Branch}
use Rattle.gate_state.specs.declared.batch.Branch.TheVariants.{Staging, Trying}
use Rattle.gate_state.specs.declared.batch.Report.{Report}
use Rattle.gate_state.specs.declared.batch.Stage.{Stage}
use Rattle.gate_state.specs.declared.batch.Stage.TheVariants.{Waiting, Ordered, Staged, Landing}
use Rattle.gate_state.specs.declared.lane.Lane.{Lane}
use Rattle.gate_state.specs.declared.queue.Queue.{Queue}
use Rattle.gate_state.specs.declared.state.State.{State}

-- a reading of the clock
abbrev pub IsMoment : ℕ → Type 0
IsMoment moment = moment ≤ 9_000_000_000_000_000

-- WHAT A DESK SAYS of a change
abbrev pub approved_on : DeskView → ℕ → Bool
approved_on desk change = rules.is_approved (look desk) change

abbrev pub landing_on : DeskView → ℕ → Bool
landing_on desk change = rules.is_landing (look desk) change

abbrev pub trying_on : DeskView → ℕ → Bool
trying_on desk change = rules.is_trying (look desk) change

abbrev pub priority_on : DeskView → ℕ → ℤ
priority_on desk change = option_map_or (λ (c : Change). c.priority) (finite.get desk.changes change) (pos 0)

-- A CHANGE
abbrev pub RepeatKeepsLimits : Option Repeat → Type 0
RepeatKeepsLimits None = ⊤
RepeatKeepsLimits (Some Approve) = ⊤
RepeatKeepsLimits (Some (ApproveFor names)) = AreNames names
RepeatKeepsLimits (Some Try) = ⊤

pub record IsChange (settings : Option SettingsView) (base : Option (List ℕ)) (change : Change) : Type 0 where
  pub priority : IsPriority change.priority
  -- only an open change has approvers; they are one or more people, no two the same
  pub opened : is_some change.approved ≡ true → is_open_phase change.phase ≡ true
  -- if it is approved or landing, there are settings and a base
  pub ready : (is_some change.approved || change.landing) ≡ true → (is_some settings ≡ true) × (is_some base ≡ true)
  pub approvers : IfSome change.approved AreNames
  -- one that is tried is open, and there are settings and a base
  pub tried : change.trying ≡ true → (is_open_phase change.phase ≡ true) × (is_some settings ≡ true) × (is_some base ≡ true)
  pub last : RepeatKeepsLimits change.last

-- THE DESK, as the rules read it
pub record IsDesk (s : Look) : Type 0 where
  pub changes : (number : ℕ) → IfSome (s.change number) (IsChange s.settings s.base)
  pub clock : IsMoment s.clock

-- A BATCH that waits on a branch has changes.
pub record IsWaiting (on : Branch) (batch : Batch) : Type 0 where
  pub branch : batch.branch ≡ on
  pub stage : batch.stage ≡ Waiting
  pub changes : has_changes batch ≡ true

-- Reports are of required statuses.
abbrev pub AreRequired : Option SettingsView → FinMap (slice_cmp nat_cmp) Report → Type 0
AreRequired settings reports = (name : List ℕ) → is_some (finite.get reports name) ≡ true → is_required settings name ≡ true

-- One that runs was ordered or staged, not later than now, or lands.
abbrev pub IsUnderway : ℕ → Option SettingsView → Stage → Type 0
IsUnderway now settings Waiting = ⊥
IsUnderway now settings (Ordered since) = since ≤ now
IsUnderway now settings (Staged since commit reports) = (since ≤ now) × AreRequired settings reports
IsUnderway now settings (Landing commit) = ⊤

pub record IsRunning (on : Branch) (now : ℕ) (settings : Option SettingsView) (batch : Batch) : Type 0 where
  pub branch : batch.branch ≡ on
  pub stage : IsUnderway now settings batch.stage
  pub changes : has_changes batch ≡ true

abbrev pub is_not : ℤ → ℤ → Bool
is_not priority other = not (int_eq other priority)

-- WHAT A BRANCH SEES of the changes on a desk: which it has to hold, which of them are landing, and their priority. `Staging`
-- holds what is approved, and `Trying` what is tried; on `Trying` nothing is landing, and every batch has the priority 0.
pub record Marks : Type 0 where
  pub wanted : ℕ → Bool
  pub landing : ℕ → Bool
  pub priority : ℕ → ℤ

abbrev pub marks_on : Branch → DeskView → Marks
marks_on Staging desk = record { wanted = approved_on desk; landing = landing_on desk; priority = priority_on desk }
marks_on Trying desk = record { wanted = trying_on desk; landing = λ change. false; priority = λ change. pos 0 }

-- THE BATCHES OF A BRANCH, by the clock, the settings and these marks
pub record IsBranch (on : Branch) (now : ℕ) (settings : Option SettingsView) (marks : Marks) (lane : Lane) : Type 0 where
  pub waiting : All (IsWaiting on) lane.waiting
  pub running : IfSome lane.running (IsRunning on now settings)
  -- a change is in exactly one batch if it is wanted or landing, and in none if it isn't; the batch has its priority
  pub places : (change : ℕ) → held of_any_priority change lane ≡ (if marks.wanted change || marks.landing change then 1 else 0)
  pub priorities : (change : ℕ) → held (is_not (marks.priority change)) change lane ≡ 0
  -- it is landing exactly if its batch is
  pub landing : (change : ℕ) → in_landing of_any_priority change lane ≡ (if marks.landing change then 1 else 0)

-- THE QUEUE OF A DESK
pub record IsQueue (desk : DeskView) (queue : Queue) : Type 0 where
  -- the batches of each branch are in order, under different numbers below the next one
  pub order : QueueIsInOrder queue
  pub staging : IsBranch Staging desk.clock desk.settings (marks_on Staging desk) queue.staging
  pub trying : IsBranch Trying desk.clock desk.settings (marks_on Trying desk) queue.trying
  -- each try is of one change alone
  pub alone : AreAlone queue.trying

-- A STATE
pub record IsState (s : State) : Type 0 where
  pub desk : IsDesk (look s.desk)
  pub low : 1 ≤ s.queue.next
  pub high : s.queue.next ≤ 9_000_000_000_000_000
  pub queue : IsQueue s.desk s.queue
