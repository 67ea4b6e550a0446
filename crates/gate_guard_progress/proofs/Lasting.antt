-- What is to be done for a batch stays so, as long as it lasts.
use Rattle.std.proofs.Common.{◌≡◌, ◌&&◌, ℕ, Bool, true, false, if◌then◌else◌, List, [], ◌∷◌, ◌++◌, Option, Some, refl, sym, ◌∙◌, ap, subst}
use Rattle.gate_deliveries.specs.Acts.{acts_of_event}
use Rattle.gate_deliveries.specs.declared.delivery.Event.{Event as Telling}
use Rattle.gate_guard.specs.Duties.{duties_of, duty_at, duty_of}
use Rattle.gate_guard.specs.Knowing.{unless_full}
use Rattle.gate_guard.specs.World.{Step, told}
use Rattle.gate_guard.specs.declared.duty.Duty.{Duty}
use Rattle.gate_guard.specs.declared.duty.Duty.TheVariants as duty
use Rattle.gate_guard_progress.specs.Arriving.{IsToBeDone, lasts_over}
use Rattle.gate_guard_progress.specs.Standing.{acts_after, acts_told, state_after, tell}
use Rattle.gate_queue.proofs.Choosing.{by_bool}
use Rattle.gate_queue.proofs.Lasting.{Reports, Runs, waiting_law}
use Rattle.gate_queue.specs.Machine.{after, is_staged_with}
use Rattle.gate_queue.specs.Progress.{after_all, each_of, heard, heard_over, lasts, with_said}
use Rattle.gate_queue.specs.Vocabulary.{Act, Batch, Other, Pending, Report, StageOf, State, Status, StatusState, Success, is_required}
use Rattle.gate_state.specs.Lanes.{with_report}
use Rattle.gate_state.specs.declared.batch.Report.TheVariants as report
use Rattle.gate_state.specs.declared.batch.Stage.TheVariants as stage
use Rattle.gate_guard_progress.proofs.Standing.{state_told}

-- WHAT A BATCH HEARS leaves what is to be done for it.
module _ (base : Option (List ℕ)) (number : ℕ) where
  reported_duty : (name : List ℕ) (r : Report) (stood : StageOf) → duty_at base number (with_report name r stood) ≡ duty_at base number stood
  reported_duty name r stage.Waiting = refl
  reported_duty name r (stage.Ordered since) = refl
  reported_duty name r (stage.Staged since commit reports) = refl
  reported_duty name r (stage.Landing commit) = refl

  said_duty : (name : List ℕ) (said : StatusState) (stood : StageOf) → duty_at base number (with_said name said stood) ≡ duty_at base number stood
  said_duty name Success stood = reported_duty name report.Success stood
  said_duty name Pending stood = reported_duty name report.Pending stood
  said_duty name bad stood = refl

  heard_duty : (s : State) (act : Act) (stood : StageOf) → duty_at base number (heard s act stood) ≡ duty_at base number stood
  heard_duty s (Other (Status commit name said)) stood =
      by_bool (λ b. duty_at base number (if b then with_said name said stood else stood) ≡ duty_at base number stood) (said_duty name said stood) refl
      (is_staged_with commit stood && is_required s.desk.settings name)
  heard_duty s act stood = refl

  heard_duties : (s : State) (acts : List Act) (stood : StageOf) → duty_at base number (heard_over s acts stood) ≡ duty_at base number stood
  heard_duties s [] stood = refl
  heard_duties s (act ∷ acts) stood = heard_duties (after s act) acts (heard s act stood) ∙ heard_duty s act stood

-- OF A BATCH THAT RUNS, on a base
abbrev pub RunsOn : List ℕ → Batch → State → Type 0
RunsOn base batch s = Runs (Some base) batch s

abbrev pub due : List ℕ → Batch → Option Duty
due base batch = duty_at (Some base) batch.number batch.stage

pub duty_now : (s : State) (base : List ℕ) (batch : Batch) → RunsOn base batch s → (duties_of s).staging ≡ due base batch
duty_now s base batch runs = ap (λ (b : Option (List ℕ)). duty_of b s.queue.staging.running) runs.base_is ∙ ap (duty_of (Some base)) runs.running

-- as it is after acts over which it lasts
abbrev later_on : State → List Act → Batch → Batch
later_on s acts batch = record batch { stage = heard_over s acts batch.stage }

abbrev pub later_over : List Step → List Telling → Batch → Batch
later_over steps tellings batch = later_on (state_after steps) (acts_after steps tellings) batch

pub due_later : (steps : List Step) (tellings : List Telling) (base : List ℕ) (batch : Batch) → due base (later_over steps tellings batch) ≡ due base batch
due_later steps tellings base batch = heard_duties (Some base) batch.number (state_after steps) (acts_after steps tellings) batch.stage

lasted : (s : State) (acts : List Act) (base : List ℕ) (batch : Batch) → RunsOn base batch s → each_of lasts s acts ≡ true → RunsOn base (later_on s acts batch) (after_all s acts)
lasted s acts base batch runs lasts_so =
    let waits = waiting_law s batch acts runs.running lasts_so in
    record { running = waits.0; base_is = waits.1 ∙ runs.base_is }

pub lasted_over : (steps : List Step) (tellings : List Telling) (base : List ℕ) (batch : Batch) → RunsOn base batch (state_after steps) → lasts_over steps tellings ≡ true
    → RunsOn base (later_over steps tellings batch) (state_after (tell tellings steps))
lasted_over steps tellings base batch runs lasts_so =
    let s = state_after steps in
    let acts = acts_after steps tellings in
    subst (RunsOn base (later_over steps tellings batch)) (sym (state_told steps tellings)) (lasted s acts base batch runs lasts_so)

-- ALL THE WHILE
both_true : (a b : Bool) → (a && b) ≡ true → (a ≡ true) × (b ≡ true)
both_true true b both = (refl, both)
both_true false b both = cc both

each_part : (s : State) (acts others : List Act) → each_of lasts s (acts ++ others) ≡ true → (each_of lasts s acts ≡ true) × (each_of lasts (after_all s acts) others ≡ true)
each_part s [] others each = (refl, each)
each_part s (act ∷ acts) others each =
    let both = both_true (lasts s act) (each_of lasts (after s act) (acts ++ others)) each in
    let rest = each_part (after s act) acts others both.1 in
    (ap (λ (b : Bool). b && each_of lasts (after s act) acts) both.0 ∙ rest.0, rest.1)

pub all_the_while : (base : List ℕ) (batch : Batch) (steps : List Step) (tellings : List Telling) → RunsOn base batch (state_after steps) → lasts_over steps tellings ≡ true
    → IsToBeDone (due base batch) steps tellings
all_the_while base batch steps [] runs lasts_so = duty_now (state_after steps) base batch runs
all_the_while base batch steps (telling ∷ later) runs lasts_so =
    let s = state_after steps in
    let these = unless_full s (acts_of_event telling) in
    let parts = each_part s these (acts_told (after_all s these) later) lasts_so in
    let next = all_the_while base (later_on s these batch) (told telling ∷ steps) later (lasted s these base batch runs parts.0) parts.1 in (
      duty_now s base batch runs,
      subst (λ (d : Option Duty). IsToBeDone d (told telling ∷ steps) later) (heard_duties (Some base) batch.number s these batch.stage) next,
    )

-- THE STAGE, by what is to be done
pub to_merge_so : (base : List ℕ) (number : ℕ) (stood : StageOf) → duty_at (Some base) number stood ≡ Some (duty.Merge number) → (since : ℕ) × (stood ≡ stage.Ordered since)
to_merge_so base number stage.Waiting is = absurd (cc is)
to_merge_so base number (stage.Ordered since) is = (since, refl)
to_merge_so base number (stage.Staged since commit reports) is = absurd (cc is)
to_merge_so base number (stage.Landing commit) is = absurd (cc is)

pub to_test_so : (base : List ℕ) (number : ℕ) (commit : List ℕ) (stood : StageOf) → duty_at (Some base) number stood ≡ Some (duty.Test number commit)
    → (since : ℕ) × (reports : Reports) × (stood ≡ stage.Staged since commit reports)
to_test_so base number commit stage.Waiting is = absurd (cc is)
to_test_so base number commit (stage.Ordered since) is = absurd (cc is)
to_test_so base number commit (stage.Staged since other reports) is =
    let same : other ≡ commit = cc is in
    (since, reports, ap (λ (c : List ℕ). stage.Staged since c reports) same)
to_test_so base number commit (stage.Landing other) is = absurd (cc is)

pub to_land_so : (base : List ℕ) (number : ℕ) (commit : List ℕ) (stood : StageOf) → duty_at (Some base) number stood ≡ Some (duty.Land number base commit) → stood ≡ stage.Landing commit
to_land_so base number commit stage.Waiting is = absurd (cc is)
to_land_so base number commit (stage.Ordered since) is = absurd (cc is)
to_land_so base number commit (stage.Staged since other reports) is = absurd (cc is)
to_land_so base number commit (stage.Landing other) is =
    let same : other ≡ commit = cc is in
    ap stage.Landing same
