-- COURSES: from a batch that waits first to changes that have landed, over all that comes in between.
use Rattle.std.specs.Prelude.{◌≡◌, ◌≤◌, ℕ, Bool, true, false, List, [], ◌∷◌, ◌++◌, Option, Some, None}
use Rattle.std.specs.FinMap as finite
use Rattle.std.specs.List.{filter_map, list_all}
use Rattle.std.specs.Option.{option_map_or, option_or}
use Rattle.std.specs.Str.{bytes_eq}
use Rattle.gate_rules.specs.Rules.{is_approved, is_landed}
use Rattle.gate_state.specs.Counts.{occurs}
use Rattle.gate_state.specs.State.{IsState}
use Rattle.gate_state.specs.declared.act.Act.TheVariants.{On, Other}
use Rattle.gate_state.specs.declared.act.Act.{Act}
use Rattle.gate_state.specs.declared.act.Fact.TheVariants as fact
use Rattle.gate_state.specs.declared.act.Fact.TheVariants.{Base, Tick}
use Rattle.gate_state.specs.declared.act.StatusState.{StatusState}
use Rattle.gate_state.specs.declared.act.StatusState.TheVariants as state
use Rattle.gate_state.specs.declared.batch.Batch.{Batch}
use Rattle.gate_state.specs.declared.batch.Stage.TheVariants.{Staged}
use Rattle.gate_state.specs.declared.reply.Order.TheVariants as order
use Rattle.gate_state.specs.declared.state.State.{State}
use Rattle.gate_queue.specs.History.{state_said}
use Rattle.gate_queue.specs.Machine.{after, denial, head_on, is_good}
use Rattle.gate_queue.specs.Progress.{CanCome, GivesOrder, after_all, each_of, lasts, passes_with}
use Rattle.gate_queue.specs.Vocabulary.{SettingsView, is_required, look}

-- WHAT PASSES, IN A HOST'S WORDS: if of each required name the last that was said since the commit was staged is a success, the batch passes
-- with the last of these.
abbrev pub said_in : List ℕ → List ℕ → Act → Option StatusState
said_in commit name (On change deed) = None
said_in commit name (Other fact) = state_said commit name fact

abbrev pub last_said : List ℕ → List ℕ → List Act → Option StatusState
last_said commit name [] = None
last_said commit name (act ∷ acts) = option_or (last_said commit name acts) (said_in commit name act)

abbrev pub all_succeed : SettingsView → List ℕ → List Act → Bool
all_succeed settings commit acts = list_all (λ name. option_map_or is_good (last_said commit name acts) false) settings.status

abbrev pub LawOfSuccesses : Type 0
LawOfSuccesses = (s : State) (batch : Batch) (settings : SettingsView) (since : ℕ) (commit name : List ℕ) (acts : List Act) → s.queue.staging.running ≡ Some batch
    → batch.stage ≡ Staged since commit finite.empty → s.desk.settings ≡ Some settings → each_of lasts s acts ≡ true
    → is_required (Some settings) name ≡ true → all_succeed settings commit (acts ++ Other (fact.Status commit name state.Success) ∷ []) ≡ true
    → (is_required (after_all s acts).desk.settings name ≡ true) × (passes_with (after_all s acts) (Other (fact.Status commit name state.Success)) ≡ true)

-- THE FIRST IN SERVICE LANDS, if the host stages it, its required names succeed and the host lands it, whatever comes in between over which
-- it lasts. The states in between are those at which it is staged, passes and lands. No rule denies what the host tells.
abbrev pub LawOfCourses : Type 0
LawOfCourses = (s at_staging at_passing at_landing : State) (batch : Batch) (others : List Batch) (settings : SettingsView) (base commit name : List ℕ) (now : ℕ) (first second third : List Act) → IsState s
    → s.desk.base ≡ Some base → s.queue.staging ≡ record { running = None; waiting = batch ∷ others } → s.desk.clock ≤ now
    → CanCome s (Other (Tick now) ∷ first) → each_of lasts (after s (Other (Tick now))) first ≡ true
    → at_staging ≡ after_all s (Other (Tick now) ∷ first) → bytes_eq base commit ≡ false → at_staging.desk.settings ≡ Some settings
    → CanCome at_staging (Other (fact.Staged batch.number commit) ∷ second) → each_of lasts (after at_staging (Other (fact.Staged batch.number commit))) second ≡ true
    → at_passing ≡ after_all at_staging (Other (fact.Staged batch.number commit) ∷ second) → is_required (Some settings) name ≡ true
    → all_succeed settings commit (second ++ Other (fact.Status commit name state.Success) ∷ []) ≡ true
    → CanCome at_passing (Other (fact.Status commit name state.Success) ∷ third) → each_of lasts (after at_passing (Other (fact.Status commit name state.Success))) third ≡ true
    → at_landing ≡ after_all at_passing (Other (fact.Status commit name state.Success) ∷ third)
    → GivesOrder (Other (Tick now)) s (order.Stage batch.number batch.branch base (filter_map (head_on s.desk) batch.changes))
    × (denial at_staging (Other (fact.Staged batch.number commit)) ≡ None)
    × GivesOrder (Other (fact.Status commit name state.Success)) at_passing (order.Land batch.number base commit)
    × (denial at_landing (Other (Base commit)) ≡ None)
    × ((change : ℕ) → 1 ≤ occurs change batch.changes
    → (is_landed (look (after at_landing (Other (Base commit))).desk) change ≡ true) × (is_approved (look (after at_landing (Other (Base commit))).desk) change ≡ false))
    × ((after at_landing (Other (Base commit))).queue.staging.running ≡ None)
