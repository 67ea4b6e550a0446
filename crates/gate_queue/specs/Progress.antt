-- PROGRESS: what the machine comes to, and not only what it never does. It is said step by step, from a batch that waits to changes that
-- have landed, and of what leaves the running place free. The crate gate_progress goes on over lists of acts.
use Rattle.std.specs.Prelude.{◌≡◌, ◌≤◌, ◌+◌, ◌==◌, ◌&&◌, ◌||◌, not, nat_le, ℕ, Bool, true, false, List, [], ◌∷◌, ◌++◌, Option, Some, None, Result, Ok, Err, ⊤, if◌then◌else◌}
use Rattle.std.proofs.Math.Bool.{beq}
use Rattle.std.specs.Cmp.Lexicographic.{slice_cmp}
use Rattle.std.specs.FinMap.{FinMap}
use Rattle.std.specs.List.{filter_map}
use Rattle.std.specs.Ordering.{int_eq, nat_cmp}
use Rattle.gate_rules.specs.Rules.{is_approved, is_landed}
use Rattle.gate_state.specs.Acts.{ActKeepsLimits}
use Rattle.gate_state.specs.Counts.{occurs}
use Rattle.gate_state.specs.Lanes.{failed, is_landing, ordered_at, staged_at, started, with_report}
use Rattle.gate_state.specs.Queue.{lane_of}
use Rattle.gate_state.specs.Room.{HasRoom}
use Rattle.gate_state.specs.State.{IsState, approved_on, priority_on}
use Rattle.gate_state.specs.declared.act.Act.TheVariants.{On, Other}
use Rattle.gate_state.specs.declared.act.Act.{Act}
use Rattle.gate_state.specs.declared.act.Fact.TheVariants as fact
use Rattle.gate_state.specs.declared.act.Fact.TheVariants.{Base, Tick}
use Rattle.gate_state.specs.declared.act.StatusState.{StatusState}
use Rattle.gate_state.specs.declared.act.StatusState.TheVariants as state
use Rattle.gate_state.specs.declared.batch.Batch.{Batch}
use Rattle.gate_state.specs.declared.batch.Branch.{Branch}
use Rattle.gate_state.specs.declared.batch.Branch.TheVariants.{Staging}
use Rattle.gate_state.specs.declared.batch.Report.{Report}
use Rattle.gate_state.specs.declared.batch.Report.TheVariants as report
use Rattle.gate_state.specs.declared.batch.Stage.{Stage}
use Rattle.gate_state.specs.declared.batch.Stage.TheVariants.{Waiting, Ordered, Staged, Landing}
use Rattle.gate_state.specs.declared.lane.Lane.{Lane}
use Rattle.gate_state.specs.declared.reply.Order.{Order}
use Rattle.gate_state.specs.declared.reply.Order.TheVariants as order
use Rattle.gate_state.specs.declared.reply.Reply.TheVariants.{Done}
use Rattle.gate_state.specs.declared.state.State.{State}
use Rattle.gate_queue.specs.History.{is_bad}
use Rattle.gate_queue.specs.Machine.{after, are_present, denial, has_landing, has_ordered, has_overdue, has_passed, has_running, has_staged, head_on, is_base, is_staged_with, reply_to}
use Rattle.gate_queue.specs.MayChange.{is_run}
use Rattle.gate_queue.specs.Vocabulary.{DeskView, SettingsFault, SettingsView, is_required, look, settings_of}

-- ACTS THAT MAY COME one after the other: each keeps its limits, and finds room for the numbers that it may need.
abbrev pub after_all : State → List Act → State
after_all s [] = s
after_all s (act ∷ acts) = after_all (after s act) acts

abbrev pub CanCome : State → List Act → Type 0
CanCome s [] = ⊤
CanCome s (act ∷ acts) = HasRoom s.queue × ActKeepsLimits act × CanCome (after s act) acts

-- whether each of these passes a test, on the state at which it comes
abbrev pub each_of : (State → Act → Bool) → State → List Act → Bool
each_of test s [] = true
each_of test s (act ∷ acts) = test s act && each_of test (after s act) acts

-- the act is done, and this is one of its orders
abbrev pub GivesOrder : Act → State → Order → Type 0
GivesOrder act s order = (front : List Order) × (back : List Order) × (reply_to s act ≡ Done (front ++ order ∷ back))

-- THE FIRST IN SERVICE IS ORDERED. If no batch runs on a branch, a tick orders its first batch to be staged on the base, as its changes
-- are, and the batch runs from then on.
abbrev pub LawOfFirsts : Type 0
LawOfFirsts = (s : State) (branch : Branch) (batch : Batch) (others : List Batch) (base : List ℕ) (now : ℕ) → s.desk.base ≡ Some base
    → lane_of branch s.queue ≡ record { running = None; waiting = batch ∷ others } → s.desk.clock ≤ now
    → GivesOrder (Other (Tick now)) s (order.Stage batch.number batch.branch base (filter_map (head_on s.desk) batch.changes))
    × ((lane_of branch (after s (Other (Tick now))).queue).running ≡ Some (ordered_at now batch))
    × ((after s (Other (Tick now))).desk.base ≡ Some base)

-- WHAT IS STAGED IS TESTED: a batch that the host was ordered to stage is tested from then on as the commit that the host tells, if that
-- isn't the base.
abbrev pub LawOfStagings : Type 0
LawOfStagings = (s : State) (batch : Batch) (since : ℕ) (commit : List ℕ) → s.queue.staging.running ≡ Some batch → batch.stage ≡ Ordered since
    → is_base (look s.desk) commit ≡ false
    → (denial s (Other (fact.Staged batch.number commit)) ≡ None)
    × ((after s (Other (fact.Staged batch.number commit))).queue.staging.running ≡ Some (staged_at s.desk.clock commit batch))
    × ((after s (Other (fact.Staged batch.number commit))).desk ≡ s.desk)

-- WHAT A BATCH HEARS while it is tested: a status of its commit under a required name takes the place of the last report of that name.
abbrev pub with_said : List ℕ → StatusState → Stage → Stage
with_said name state.Success stage = with_report name report.Success stage
with_said name state.Pending stage = with_report name report.Pending stage
with_said name _ stage = stage

abbrev pub heard : State → Act → Stage → Stage
heard s (Other (fact.Status commit name said)) stage = if is_staged_with commit stage && is_required s.desk.settings name then with_said name said stage else stage
heard s act stage = stage

-- whether all required names have succeeded with the act
abbrev pub passes_with : State → Act → Bool
passes_with s act = has_running (λ batch. has_passed s.desk.settings (heard s act batch.stage)) s.queue.staging

-- WHAT PASSES IS TO LAND: the success of a required name with which all of them have succeeded orders the host to land the commit that was
-- tested, on the base.
abbrev pub LawOfPassing : Type 0
LawOfPassing = (s : State) (batch : Batch) (since : ℕ) (base commit name : List ℕ) (reports : FinMap (slice_cmp nat_cmp) Report) → s.queue.staging.running ≡ Some batch
    → batch.stage ≡ Staged since commit reports → s.desk.base ≡ Some base → is_required s.desk.settings name ≡ true
    → passes_with s (Other (fact.Status commit name state.Success)) ≡ true
    → GivesOrder (Other (fact.Status commit name state.Success)) s (order.Land batch.number base commit)
    × ((after s (Other (fact.Status commit name state.Success))).queue.staging.running ≡ Some (record batch { stage = Landing commit }))
    × ((after s (Other (fact.Status commit name state.Success))).desk.base ≡ Some base)

-- WHAT IS TO LAND HAS LANDED when the commit that was tested is reported as the base: each change of the batch, and none of them is
-- approved any longer. The branch is free then.
abbrev pub LawOfLandings : Type 0
LawOfLandings = (s : State) (batch : Batch) (commit : List ℕ) → IsState s → s.queue.staging.running ≡ Some batch → batch.stage ≡ Landing commit
    → is_base (look s.desk) commit ≡ false
    → (denial s (Other (Base commit)) ≡ None)
    × ((change : ℕ) → 1 ≤ occurs change batch.changes → (is_landed (look (after s (Other (Base commit))).desk) change ≡ true) × (is_approved (look (after s (Other (Base commit))).desk) change ≡ false))
    × ((after s (Other (Base commit))).queue.staging.running ≡ None)

-- A FAILURE: an act with which the batch that runs on `Staging` fails. The host can't stage it, a required name has failed on its commit, or
-- its time is over.
abbrev pub fails : State → Act → Bool
fails s (Other (fact.Conflict number)) = has_ordered number s.queue.staging
fails s (Other (fact.Status commit name said)) = is_bad said && is_required s.desk.settings name && has_staged commit s.queue.staging
fails s (Other (Tick now)) = nat_le s.desk.clock now && has_overdue now s.desk.settings s.queue.staging
fails s act = false

-- WHAT LETS the batch that runs on `Staging` RUN: no failure, no news that it waits for, no other base, and no new settings. A deed on one of
-- its changes does, if approval and priority are as before; and what is to land waits for a base or a refusal alone.
abbrev pub has_any_landing : State → Bool
has_any_landing s = has_running (λ batch. is_landing batch.stage) s.queue.staging

-- whether a change has the approval and the priority that it had
abbrev pub keeps_place : State → ℕ → State → Bool
keeps_place s change t = beq (approved_on s.desk change) (approved_on t.desk change) && int_eq (priority_on s.desk change) (priority_on t.desk change)

-- whether a text has no new settings
abbrev pub leave_settings : DeskView → Result SettingsView SettingsFault → Bool
leave_settings desk (Ok settings) = are_present desk settings
leave_settings desk (Err fault) = true

abbrev pub lets_run : State → Act → Bool
lets_run s (On change deed) = has_any_landing s || not (is_run change s.queue.staging) || keeps_place s change (after s (On change deed))
lets_run s (Other (fact.Role person role)) = true
lets_run s (Other (fact.Settings text)) = has_any_landing s || leave_settings s.desk (settings_of text)
lets_run s (Other (Base commit)) = is_base (look s.desk) commit
lets_run s (Other (fact.Staged number commit)) = not (has_ordered number s.queue.staging) || is_base (look s.desk) commit
lets_run s (Other (fact.Refused number)) = not (has_landing number s.queue.staging)
lets_run s (Other fact) = not (fails s (Other fact))

-- IT LASTS over all that lets it run, until it passes.
abbrev pub lasts : State → Act → Bool
lasts s act = lets_run s act && not (passes_with s act)

abbrev pub heard_over : State → List Act → Stage → Stage
heard_over s [] stage = stage
heard_over s (act ∷ acts) stage = heard_over (after s act) acts (heard s act stage)

abbrev pub LawOfWaiting : Type 0
LawOfWaiting = (s : State) (batch : Batch) (acts : List Act) → s.queue.staging.running ≡ Some batch → each_of lasts s acts ≡ true
    → ((after_all s acts).queue.staging.running ≡ Some (record batch { stage = heard_over s acts batch.stage }))
    × ((after_all s acts).desk.base ≡ s.desk.base)

-- whether a batch of this number runs on a branch
abbrev pub runs_on : Branch → ℕ → State → Bool
runs_on branch number s = has_running (λ batch. number == batch.number) (lane_of branch s.queue)

-- NOTHING BLOCKS THE QUEUE FOR EVER, but a host that neither lands nor refuses. The batch that runs on `Staging` runs no longer after a
-- failure; then the place is free, and a tick orders the next batch. None runs after another base, or after the host refused to land it. No
-- rule denies these acts.
abbrev pub next_ordered : Act → Lane → Lane
next_ordered (Other (Tick now)) lane = started now lane
next_ordered act lane = lane

pub record Frees (s : State) (batch : Batch) : Type 0 where
  pub failure : (act : Act) → fails s act ≡ true → (denial s act ≡ None) × (runs_on Staging batch.number (after s act) ≡ false)
  pub place : (act : Act) → fails s act ≡ true → (after s act).queue.staging ≡ next_ordered act (failed s.queue.next s.queue.staging)
  pub base : (commit : List ℕ) → is_base (look s.desk) commit ≡ false → (denial s (Other (Base commit)) ≡ None) × ((after s (Other (Base commit))).queue.staging.running ≡ None)
  pub refusal : is_landing batch.stage ≡ true → (denial s (Other (fact.Refused batch.number)) ≡ None) × ((after s (Other (fact.Refused batch.number))).queue.staging.running ≡ None)

abbrev pub LawOfFreeing : Type 0
LawOfFreeing = (s : State) (batch : Batch) → IsState s → s.queue.staging.running ≡ Some batch → Frees s batch

-- since when the host has been staging or testing a batch, if it does
abbrev pub awaited_since : Stage → Option ℕ
awaited_since Waiting = None
awaited_since (Ordered since) = Some since
awaited_since (Staged since commit reports) = Some since
awaited_since (Landing commit) = None

-- WHAT THE HOST STAGES OR TESTS HAS ITS TIME: the batch runs no longer after the first tick that comes when the time of the settings
-- is over, since the order or, if it is staged, since that; and no rule denies that tick. What is to land has no such time.
abbrev pub LawOfTimeOuts : Type 0
LawOfTimeOuts = (s : State) (branch : Branch) (batch : Batch) (settings : SettingsView) (since now : ℕ) → IsState s
    → s.desk.settings ≡ Some settings → (lane_of branch s.queue).running ≡ Some batch → awaited_since batch.stage ≡ Some since
    → s.desk.clock ≤ now → since + settings.timeout_sec ≤ now
    → (denial s (Other (Tick now)) ≡ None) × (runs_on branch batch.number (after s (Other (Tick now))) ≡ false)
