-- THE MAIN BRANCH: each value that it takes after the first, others have pushed, or it is the merge of the value before with heads, each
-- approved as it stands, and tested as it lands.
use Rattle.std.specs.Prelude.{◌≡◌, ◌≢◌, ◌⊎◌, ℕ, true, false, ⊤, List, [], ◌∷◌, ◌++◌}
use Rattle.std.specs.List.{All, Contains, flat_map}
use Rattle.gate_deliveries.specs.declared.delivery.Delivery.{Delivery}
use Rattle.gate_deliveries.specs.declared.delivery.Event.{Event as Telling}
use Rattle.gate_deliveries.specs.declared.delivery.Event.TheVariants as telling
use Rattle.gate_guard.specs.Knowing.{HaveCome, WasTold, events_after, known_after}
use Rattle.gate_guard.specs.World.{Checking, KeepsPremise, Merging, Step, commits_of, told_in, main_after, moved, told, pushed}
use Rattle.gate_queue.specs.History.{Event, IsReadyToLand, gave, landings, orders_in}
use Rattle.gate_queue.specs.Vocabulary.{Land, Success}
use Rattle.gate_queue.specs.Words.{WasTested}
use Rattle.gate_state.specs.declared.act.Fact.TheVariants.{Staged, Status}
use Rattle.gate_state.specs.declared.reply.Order.{Order}
use Rattle.gate_store.specs.Run.{Records, after_delivery, answer_to, is_known, meets_full}

-- The success of a status of a commit was told, after it was told that the batch is staged with this commit, and a check has said so. That this
-- staging was taken, and is the last one, is a part of `tested` below.
pub record HasSucceeded (says : Checking) (all : List Telling) (batch : ℕ) (commit name : List ℕ) : Type 0 where
  pub success : WasTold all (telling.Other (Status commit name Success))
  pub staged : WasTold success.earlier (telling.Other (Staged batch commit))
  pub said : says commit name ≡ true

-- A MOVE for a batch, after all that the bot was told.
pub record IsRightMove (joins : Merging) (says : Checking) (all : List Telling) (batch : ℕ) (from to : List ℕ) : Type 0 where
  -- The order to land came by the last that was told until then, a success of the commit. All that follows is of that moment.
  pub later : List Telling
  pub until : List Telling
  pub at : all ≡ later ++ until
  pub name : List ℕ
  pub earlier : List Telling
  pub last : until ≡ telling.Other (Status to name Success) ∷ earlier
  pub new : landings batch (events_after earlier) ≡ 0
  pub ordered : Contains (events_after until) (gave (Land batch from to))
  -- The batch was tested for this value and this commit, in the words of the history. That says with which heads it was staged.
  pub tested : WasTested (events_after until) batch from to
  -- There is one at least.
  pub some : tested.heads ≢ []
  -- The commit is the merge of the branch's value with these heads.
  pub merged : joins from (commits_of tested.heads) to ≡ true
  -- Each change was approved without a break, open and fit, at exactly that head.
  pub ready : All (IsReadyToLand (events_after until) batch) tested.heads
  -- A check of the commit has said of each status that was required that it is good, and that was told after the commit.
  pub checked : All (HasSucceeded says until batch to) tested.settings.status

-- EACH MOVE that the host makes is right, and goes from the value that the branch has, which is supposed.
abbrev pub MovesRightly : Merging → Checking → List ℕ → List Step → Type 0
MovesRightly joins says first [] = ⊤
MovesRightly joins says first (told telling ∷ before) = MovesRightly joins says first before
MovesRightly joins says first (moved batch from to ∷ before) = IsRightMove joins says (told_in before) batch from to × (main_after first before ≡ from) × MovesRightly joins says first before
MovesRightly joins says first (pushed to ∷ before) = MovesRightly joins says first before

-- EACH MOVE IS RIGHT, over every list of steps that keeps the premise.
abbrev pub LawOfMoves : Type 0
LawOfMoves = (joins : Merging) (says : Checking) (first : List ℕ) (steps : List Step) → KeepsPremise joins says first steps → MovesRightly joins says first steps

-- THE KEEPER: if the records that its book shows stand where all that was told leads, one more delivery that is new leads them on, unless it meets
-- a full gate. Each order of its answer has come then, and each order that has come then is one of its answer, or had come before.
pub record LeadsOn (records : Records) (all : List Telling) (delivery : Delivery) : Type 0 where
  pub state : (after_delivery records delivery).state ≡ (known_after (delivery.event ∷ all)).state
  pub come : HaveCome (delivery.event ∷ all) (answer_to records delivery)
  pub answered : (order : Order) → Contains (events_after (delivery.event ∷ all)) (gave order)
      → Contains (flat_map orders_in (answer_to records delivery)) order ⊎ Contains (events_after all) (gave order)

abbrev pub LawOfDelivering : Type 0
LawOfDelivering = (records : Records) (all : List Telling) (delivery : Delivery) → records.state ≡ (known_after all).state
    → is_known records delivery.id ≡ false → meets_full records delivery ≡ false → LeadsOn records all delivery

-- What has happened stays so, whatever is told later. So an order that has come has still come after that.
abbrev pub LawOfStaying : Type 0
LawOfStaying = (telling : Telling) (all : List Telling) (event : Event) → Contains (events_after all) event → Contains (events_after (telling ∷ all)) event
