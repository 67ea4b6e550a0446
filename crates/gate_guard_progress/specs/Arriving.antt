-- ARRIVING: a batch that is the first to be served comes onto the main branch, if the host does its part.
use Rattle.std.specs.Prelude.{◌≡◌, ◌≤◌, ℕ, Bool, true, false, List, [], ◌∷◌, ◌++◌, Option, Some, None}
use Rattle.std.specs.List.{Contains, filter_map}
use Rattle.std.specs.Str.{bytes_eq}
use Rattle.gate_deliveries.specs.declared.delivery.Event.{Event as Telling}
use Rattle.gate_deliveries.specs.declared.delivery.Event.TheVariants as telling
use Rattle.gate_guard.specs.Duties.{duties_of}
use Rattle.gate_guard.specs.Knowing.{events_after}
use Rattle.gate_guard.specs.World.{Checking, KeepsPremise, Merging, Step, main_after, moved, told, told_in}
use Rattle.gate_guard.specs.declared.duty.Duty.{Duty}
use Rattle.gate_guard.specs.declared.duty.Duty.TheVariants.{Merge, Test, Land}
use Rattle.gate_guard_progress.specs.Standing.{acts_after, state_after, tell}
use Rattle.gate_progress.specs.Courses.{all_succeed}
use Rattle.gate_queue.specs.History.{gave}
use Rattle.gate_queue.specs.Machine.{head_on}
use Rattle.gate_queue.specs.Progress.{each_of, lasts}
use Rattle.gate_queue.specs.Vocabulary.{Base, Batch, SettingsView, Stage, Staged, Staging, Status, Success, Tick, is_landed, is_required, look}
use Rattle.gate_rules.specs.Rules.{is_approved}
use Rattle.gate_state.specs.Counts.{occurs}
use Rattle.gate_state.specs.Room.{is_full}

-- A COURSE of a batch: what a host tells, from the tick that orders the batch to be staged until its commit is the base.
pub record Course : Type 0 where
  pub batch : Batch
  -- the commit that the main branch is at, the one that the batch is staged with, and the name of the status that succeeds last
  pub base : List ℕ
  pub commit : List ℕ
  pub name : List ℕ
  -- the moment of the tick
  pub now : ℕ
  -- what else is told in between, in order
  pub until_staged : List Telling
  pub until_passed : List Telling
  pub until_landed : List Telling

abbrev pub success : Course → Telling
success course = telling.Other (Status course.commit course.name Success)

-- THE RUN, after the steps before: the tick, the staging, the success with which the batch passes, and the landing. There the host moves the
-- main branch, and then tells so.
module _ (before : List Step) (course : Course) where
  abbrev pub after_tick : List Step
  after_tick = told (telling.Other (Tick course.now)) ∷ before

  abbrev pub before_staging : List Step
  before_staging = tell course.until_staged after_tick

  abbrev pub after_staging : List Step
  after_staging = told (telling.Other (Staged course.batch.number course.commit)) ∷ before_staging

  abbrev pub before_success : List Step
  before_success = tell course.until_passed after_staging

  abbrev pub after_success : List Step
  after_success = told (success course) ∷ before_success

  abbrev pub before_landing : List Step
  before_landing = tell course.until_landed after_success

  abbrev pub after_landing : List Step
  after_landing = told (telling.Other (Base course.commit)) ∷ moved course.batch.number course.base course.commit ∷ before_landing

-- The batch that runs lasts over all of this, which is told after a run (`lasts`, in gate_queue's `Progress`).
abbrev pub lasts_over : List Step → List Telling → Bool
lasts_over before tellings = each_of lasts (state_after before) (acts_after before tellings)

-- WHAT IS SUPPOSED of a course, after steps before it
pub record IsCourse (joins : Merging) (says : Checking) (first : List ℕ) (before : List Step) (course : Course) : Type 0 where
  -- All that is told until the landing is true, and there are numbers left then.
  pub keeps : KeepsPremise joins says first (before_landing before course)
  pub room : is_full (state_after (before_landing before course)).queue ≡ false
  -- At first the main branch is at the base, and this was told.
  pub main : main_after first before ≡ course.base
  pub based : (state_after before).desk.base ≡ Some course.base
  -- No batch runs on `Staging`, this one is the first that waits, and the clock doesn't go back.
  pub others : List Batch
  pub waits : (state_after before).queue.staging ≡ record { running = None; waiting = course.batch ∷ others }
  pub clock : (state_after before).desk.clock ≤ course.now
  -- It lasts until it is staged, until it passes, and until it lands. Its commit isn't the base.
  pub lasts_ordered : lasts_over (after_tick before course) course.until_staged ≡ true
  pub lasts_staged : lasts_over (after_staging before course) course.until_passed ≡ true
  pub lasts_landing : lasts_over (after_success before course) course.until_landed ≡ true
  pub differs : bytes_eq course.base course.commit ≡ false
  -- Of each name that the settings require when it is staged, the last that is told since then is a success, and with the last telling one
  -- of them succeeds.
  pub settings : SettingsView
  pub set : (state_after (before_staging before course)).desk.settings ≡ Some settings
  pub required : is_required (Some settings) course.name ≡ true
  pub succeeds : all_succeed settings course.commit
      (acts_after (after_staging before course) (course.until_passed ++ success course ∷ [])) ≡ true

-- This is to be done for the batch on `Staging`, if anything is: after a run, and all the while that this is told then.
abbrev pub IsToBeDone : Option Duty → List Step → List Telling → Type 0
IsToBeDone duty steps [] = (duties_of (state_after steps)).staging ≡ duty
IsToBeDone duty steps (telling ∷ later) = ((duties_of (state_after steps)).staging ≡ duty) × IsToBeDone duty (told telling ∷ steps) later

-- WHAT IS PROMISED of it
pub record Arrives (joins : Merging) (says : Checking) (first : List ℕ) (before : List Step) (course : Course) : Type 0 where
  -- The tick orders that the batch is staged on the base, with the heads that its changes have then.
  pub ordered : Contains (events_after (told_in (after_tick before course)))
      (gave (Stage course.batch.number Staging course.base (filter_map (head_on (state_after before).desk) course.batch.changes)))
  -- All the while a host is told what it has to do: to merge, to test, to land, and then nothing.
  pub to_merge : IsToBeDone (Some (Merge course.batch.number)) (after_tick before course) course.until_staged
  pub to_test : IsToBeDone (Some (Test course.batch.number course.commit)) (after_staging before course) course.until_passed
  pub to_land : IsToBeDone (Some (Land course.batch.number course.base course.commit)) (after_success before course) course.until_landed
  pub no_more : IsToBeDone None (after_landing before course) []
  -- The host may move the main branch then, by an order that has come and from the value that it has. So it keeps the premise to the end.
  pub keeps : KeepsPremise joins says first (after_landing before course)
  pub main : main_after first (after_landing before course) ≡ course.commit
  -- Each change of the batch has landed, and is approved no longer.
  pub landed : (change : ℕ) → 1 ≤ occurs change course.batch.changes
      → (is_landed (look (state_after (after_landing before course)).desk) change ≡ true)
      × (is_approved (look (state_after (after_landing before course)).desk) change ≡ false)

-- THE FIRST IN SERVICE COMES ONTO THE MAIN BRANCH, if the host does its part.
abbrev pub LawOfArriving : Type 0
LawOfArriving = (joins : Merging) (says : Checking) (first : List ℕ) (before : List Step) (course : Course)
    → IsCourse joins says first before course → Arrives joins says first before course
