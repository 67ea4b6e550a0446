-- What is done to a desk leaves the people as they were, and each change but those that it is about.
use Rattle.std.proofs.Common.{◌≡◌, ℕ, ℤ, eqb, Bool, true, false, not, List, [], ◌∷◌, slice_get, Option, Some, refl, arith}
use Rattle.std.proofs.lemmas.Bool.{and_parts}
use Rattle.std.proofs.lemmas.Bool.Decides.{nat_tests}
use Rattle.std.specs.FinMap as finite
use Rattle.std.specs.List.{list_all}
use Rattle.std.specs.Option.{option_map_or}
use Rattle.gate_queue.specs.Vocabulary.{Command, Ping, Approve, ApproveFor, Withdraw, Priority, Try, TryCancel, DelegateAuthor, DelegateTo, DelegateNone, Retry, Known, DeskView, without_approval, Change, Opened, Said, Happened, Batch, StageOf as Stage, Lane}
use Rattle.gate_rules.specs.declared.change.Repeat.TheVariants as repeat
use Rattle.gate_state.specs.State.{approved_on, priority_on}
use Rattle.gate_state.specs.declared.batch.Stage.TheVariants.{Landing}
use Rattle.gate_queue.specs.Machine.{all_but, altered, all_altered, lone, lone_altered, released, released_at, released_on, command_effect, effect, approved_by, with_try, without_try, with_priority, with_delegates, with_author_as_delegate, without_delegates, pushed}
use Rattle.gate_queue.specs.MayChange.{is_run, next_priority}
use Rattle.gate_queue.proofs.Changes.{altered_here, altered_elsewhere, lone_at, opened_here, opened_elsewhere}
use Rattle.gate_queue.proofs.Choosing.{by_option}

-- Only these changes may differ.
pub record DeskLeft (may : ℕ → Bool) (old new : DeskView) : Type 0 where
  pub roles : new.roles ≡ old.roles
  pub settings : new.settings ≡ old.settings
  pub changes : (change : ℕ) → may change ≡ false → finite.get new.changes change ≡ finite.get old.changes change

-- a change that is in no place isn't in the first
first_other : (change : ℕ) (changes : List ℕ) → list_all (all_but change) changes ≡ true → option_map_or (λ first. eqb change first) (slice_get changes 0) false ≡ false
first_other change [] all = refl
first_other change (first ∷ changes) all = grind (arith, nat_tests)

module _ (may : ℕ → Bool) where
  pub same_desk : (desk : DeskView) → DeskLeft may desk desk
  same_desk desk = record { roles = refl; settings = refl; changes = λ change other. refl }

  pub later_desk : (old middle new : DeskView) → DeskLeft may old middle → DeskLeft may middle new → DeskLeft may old new
  later_desk old middle new first second = grind arith

  -- one change altered
  pub altered_desk : (desk : DeskView) (number : ℕ) (alter : Change → Change) → ((change : ℕ) → may change ≡ false → eqb change number ≡ false) → DeskLeft may desk (altered desk number alter)
  altered_desk desk number alter only = record {
    roles = grind arith;
    settings = grind arith;
    changes = λ change other. altered_elsewhere desk number alter change (only change other);
  }

  abbrev ButAll : List ℕ → Type 0
  ButAll numbers = (change : ℕ) → may change ≡ false → list_all (all_but change) numbers ≡ true

  differs : (first : ℕ) (numbers : List ℕ) → ButAll (first ∷ numbers) → (change : ℕ) → may change ≡ false → eqb change first ≡ false
  differs first numbers only change other = grind (arith, nat_tests, only change other)

  -- many changes altered, one after the other
  pub all_desk : (alter : Change → Change) (numbers : List ℕ) (desk : DeskView) → ButAll numbers → DeskLeft may desk (all_altered alter desk numbers)
  all_desk alter [] desk only = same_desk desk
  all_desk alter (first ∷ numbers) desk only =
      later_desk desk (altered desk first alter) (all_altered alter (altered desk first alter) numbers)
      (altered_desk desk first alter (differs first numbers only))
      (all_desk alter numbers (altered desk first alter) (λ change other. (and_parts (not (eqb first change)) (list_all (all_but change) numbers) (only change other)).1))

  -- CHANGES OF THE RUNNING BATCH
  module _ (lane : Lane) (only : (change : ℕ) → may change ≡ false → is_run change lane ≡ false) where
    pub run_only : (batch : Batch) → lane.running ≡ Some batch → ButAll batch.changes
    run_only batch is change other = grind (arith, only change other)

    -- its only one, if it has no other
    pub lone_desk : (alter : Change → Change) (desk : DeskView) → DeskLeft may desk (lone_altered alter desk (lone lane.running))
    lone_desk alter desk = record {
      roles = grind arith;
      settings = grind arith;
      changes = λ change other. grind (arith, lone_at alter desk (lone lane.running) change, only change other, λ (batch : Batch). first_other change batch.changes);
    }

    -- all, if it was landing
    pub released_desk : (base : Option (List ℕ)) (desk : DeskView) → DeskLeft may desk (released_on base desk lane.running)
    released_desk base desk = by_option (λ running. lane.running ≡ running → DeskLeft may desk (released_on base desk running)) (λ is. same_desk desk) (λ batch is. at batch is batch.stage) lane.running refl where
      at : (batch : Batch) → lane.running ≡ Some batch → (stage : Stage) → DeskLeft may desk (released_at base desk batch.changes stage)
      at batch is (Landing commit) = all_desk (released base commit) batch.changes desk (run_only batch is)
      at batch is stage = same_desk desk

-- A DEED ON A CHANGE, on the desk: all others stay, and if it is approved afterwards it has the priority that the deed says
pub record Effect (change : ℕ) (priority : ℤ) (old new : DeskView) : Type 0 where
  pub others : DeskLeft (λ other. eqb other change) old new
  pub priced : approved_on new change ≡ true → priority_on new change ≡ priority

pub same_effect : (change : ℕ) (desk : DeskView) → Effect change (priority_on desk change) desk desk
same_effect change desk = record { others = same_desk _ desk; priced = λ approved. refl }

altered_effect : (change : ℕ) (desk : DeskView) (alter : Change → Change) (priority : ℤ) → ((c : Change) → finite.get desk.changes change ≡ Some c → (alter c).priority ≡ priority)
    → Effect change priority desk (altered desk change alter)
altered_effect change desk alter priority so = record {
  others = altered_desk (λ other. eqb other change) desk change alter (λ other differs. differs);
  priced = λ approved. grind (arith, altered_here desk change alter, so);
}

pub kept_effect : (change : ℕ) (desk : DeskView) (alter : Change → Change) → ((c : Change) → (alter c).priority ≡ c.priority) → Effect change (priority_on desk change) desk (altered desk change alter)
kept_effect change desk alter same = altered_effect change desk alter (priority_on desk change) (λ c is. grind (arith, same c))

pub pushed_same : (head : List ℕ) (c : Change) → (pushed head c).priority ≡ c.priority
pushed_same head c = grind arith

pub opened_effect : (change : ℕ) (desk : DeskView) (author head : List ℕ) → Effect change (priority_on desk change) desk (effect desk change (Happened (Opened author head)))
opened_effect change desk author head = record {
  others = record { roles = refl; settings = refl; changes = opened_elsewhere desk change author head };
  priced = λ approved. grind (arith, opened_here desk change author head);
}

pub spoken_effect : (desk : DeskView) (change : ℕ) (person : List ℕ) (command : Command)
    → Effect change (next_priority desk change (Said person (Known command))) desk (command_effect desk person change command)
spoken_effect desk change person Approve = kept_effect change desk (approved_by (person ∷ []) repeat.Approve) (λ c. refl)
spoken_effect desk change person (ApproveFor names) = kept_effect change desk (approved_by names (repeat.ApproveFor names)) (λ c. refl)
spoken_effect desk change person Withdraw = kept_effect change desk without_approval (λ c. refl)
spoken_effect desk change person (Priority priority) = altered_effect change desk (with_priority priority) priority (λ c is. refl)
spoken_effect desk change person Try = kept_effect change desk with_try (λ c. refl)
spoken_effect desk change person TryCancel = kept_effect change desk without_try (λ c. refl)
spoken_effect desk change person DelegateAuthor = kept_effect change desk with_author_as_delegate (λ c. refl)
spoken_effect desk change person (DelegateTo names) = kept_effect change desk (with_delegates names) (λ c. refl)
spoken_effect desk change person DelegateNone = kept_effect change desk without_delegates (λ c. refl)
spoken_effect desk change person Ping = same_effect change desk
spoken_effect desk change person Retry = same_effect change desk
