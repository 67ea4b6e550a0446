-- WHAT IS DUE: what a host has to do for the batch on staging, by the state of the bot, was ordered, and fits what is known now. Of trying it is
-- said that nothing is to land there.
use Rattle.std.specs.Prelude.{◌≡◌, ◌≢◌, ◌≤◌, ℕ, true, List, [], Some}
use Rattle.std.specs.List.{All, Contains}
use Rattle.gate_deliveries.specs.declared.delivery.Event.{Event as Telling}
use Rattle.gate_deliveries.specs.declared.delivery.Event.TheVariants as telling
use Rattle.gate_guard.specs.Duties.{duties_of}
use Rattle.gate_guard.specs.Knowing.{WasTold, events_after, known_after}
use Rattle.gate_guard.specs.World.{Checking, KeepsPremise, Merging, Step, commits_of, told_in}
use Rattle.gate_guard.specs.declared.duty.Duty.TheVariants as duty
use Rattle.gate_queue.specs.History.{Event, HasStayed, base_back, gave, is_staged_back, landing_with, stages}
use Rattle.gate_queue.specs.Vocabulary.{Head, Land, Stage}
use Rattle.gate_state.specs.declared.act.Fact.TheVariants.{Staged}
use Rattle.gate_state.specs.declared.batch.Branch.TheVariants.{Staging}

-- The batch was ordered to be staged, once, on the base of now. The order names a head at least, and each is that of now, and hasn't moved since.
pub record IsOrderedNow (events : List Event) (batch : ℕ) : Type 0 where
  pub base : List ℕ
  pub present : base_back events ≡ Some base
  pub heads : List Head
  pub ordered : Contains events (gave (Stage batch Staging base heads))
  pub once : stages batch events ≤ 1
  pub some : heads ≢ []
  pub stayed : All (HasStayed events batch) heads

-- It was ordered so, and then it was told that it is staged with this commit. That was taken, and no staging of it since. The commit is the merge
-- that was ordered.
pub record IsStagedNow (joins : Merging) (all : List Telling) (batch : ℕ) (commit : List ℕ) : Type 0 where
  pub order : IsOrderedNow (events_after all) batch
  pub staged : WasTold all (telling.Other (Staged batch commit))
  pub last : is_staged_back (events_after all) batch commit ≡ true
  pub merged : joins order.base (commits_of order.heads) commit ≡ true

-- It was ordered to land from the base of now to this commit, and nothing has ended that.
pub record IsToLandNow (events : List Event) (batch : ℕ) (from to : List ℕ) : Type 0 where
  pub present : base_back events ≡ Some from
  pub ordered : Contains events (gave (Land batch from to))
  pub still : landing_with events batch ≡ Some to

-- WHAT IS DUE after all that was told
pub record IsDueRightly (joins : Merging) (all : List Telling) : Type 0 where
  -- What is to be merged or tested on staging is what was ordered, and on the base of now.
  pub merge : (batch : ℕ) → (duties_of (known_after all).state).staging ≡ Some (duty.Merge batch) → IsOrderedNow (events_after all) batch
  pub test : (batch : ℕ) (commit : List ℕ) → (duties_of (known_after all).state).staging ≡ Some (duty.Test batch commit) → IsStagedNow joins all batch commit
  -- What is to land has come as an order, and nothing has ended it since. So a host that moves the branch for nothing else, and only from that
  -- base, keeps that part of the premise.
  pub land : (batch : ℕ) (from to : List ℕ) → (duties_of (known_after all).state).staging ≡ Some (duty.Land batch from to)
      → IsToLandNow (events_after all) batch from to
  -- Whatever has come as an order to land that nothing has ended is to land.
  pub every_landing : (batch : ℕ) (to : List ℕ) → landing_with (events_after all) batch ≡ Some to
      → (from : List ℕ) × ((duties_of (known_after all).state).staging ≡ Some (duty.Land batch from to))
  -- Nothing on trying is to land.
  pub no_try : (batch : ℕ) (from to : List ℕ) → (duties_of (known_after all).state).trying ≢ Some (duty.Land batch from to)

abbrev pub LawOfDuties : Type 0
LawOfDuties = (joins : Merging) (says : Checking) (first : List ℕ) (steps : List Step) → KeepsPremise joins says first steps → IsDueRightly joins (told_in steps)
