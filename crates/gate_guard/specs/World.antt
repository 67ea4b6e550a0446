-- THE WORLD: what a host tells the bot and does, and what others do to the main branch; and what is supposed of it.
use Rattle.std.specs.Prelude.{◌≡◌, ℕ, Bool, true, ⊤, List, [], ◌∷◌, map as list_map}
use Rattle.std.specs.List.{Contains}
use Rattle.gate_deliveries.specs.declared.delivery.Event.{Event as Telling}
use Rattle.gate_deliveries.specs.declared.delivery.Event.TheVariants as telling
use Rattle.gate_guard.specs.Knowing.{WasTold, events_after}
use Rattle.gate_queue.specs.History.{Event, gave}
use Rattle.gate_queue.specs.Vocabulary.{Branch, Head, Land, Stage}
use Rattle.gate_state.specs.declared.act.Fact.TheVariants.{Staged, Status, Tick}
use Rattle.gate_state.specs.declared.act.StatusState.TheVariants.{Success}
use Rattle.gate_state.specs.State.{IsMoment}

pub data Step : Type 0 where
  -- The host tells the bot something, by a delivery under an identifier of its own.
  told : Telling → Step
  -- It moves the main branch for a batch, from a commit to a commit.
  moved : ℕ → List ℕ → List ℕ → Step
  -- Somebody else moves the main branch to a commit.
  pushed : List ℕ → Step

-- Steps that were made stand in a list, the newest first: what was told by them, and where the main branch is after them, which began at a
-- commit.
abbrev pub told_in : List Step → List Telling
told_in [] = []
told_in (told telling ∷ steps) = telling ∷ told_in steps
told_in (moved batch from to ∷ steps) = told_in steps
told_in (pushed to ∷ steps) = told_in steps

abbrev pub main_after : List ℕ → List Step → List ℕ
main_after first [] = first
main_after first (told telling ∷ steps) = main_after first steps
main_after first (moved batch from to ∷ steps) = to
main_after first (pushed to ∷ steps) = to

-- WHAT IS SUPPOSED. `joins base heads commit` says of a commit that it is the merge of a base with heads, in their order. For git that
-- never changes, as a commit's name is made of its parents and its content. If an order to stage a batch has come, a staging of it that
-- is told is of the merge that the order asked for.
abbrev pub Merging : Type 0
Merging = List ℕ → List (List ℕ) → List ℕ → Bool

abbrev pub commits_of : List Head → List (List ℕ)
commits_of heads = list_map (λ (head : Head). head.head) heads

abbrev pub IsMergeFor : Merging → List Event → ℕ → List ℕ → Type 0
IsMergeFor joins events batch commit =
    (branch : Branch) (base : List ℕ) (heads : List Head) → Contains events (gave (Stage batch branch base heads)) → joins base (commits_of heads) commit ≡ true

-- `says commit name` says that a check of this name of the commit has said that it is good. Any relation will do. A success that is told of a
-- commit that was told as a staging is one that a check has said.
abbrev pub Checking : Type 0
Checking = List ℕ → List ℕ → Bool

module _ (joins : Merging) (says : Checking) where
  -- A reading of the clock is within its limit, as each value of the type `Moment` is. Nothing else is supposed of what the bot is told, after
  -- what it was told earlier.
  abbrev pub TellsTruly : List Telling → Telling → Type 0
  TellsTruly earlier (telling.Other (Staged batch commit)) = IsMergeFor joins (events_after earlier) batch commit
  TellsTruly earlier (telling.Other (Status commit name Success)) = (batch : ℕ) → WasTold earlier (telling.Other (Staged batch commit)) → says commit name ≡ true
  TellsTruly earlier (telling.Other (Tick now)) = IsMoment now
  TellsTruly earlier telling = ⊤

module _ (joins : Merging) (says : Checking) (first : List ℕ) where
  -- The host moves the main branch only by an order to land that has come, from the commit that the order names, if the branch is there.
  abbrev pub MayCome : List Step → Step → Type 0
  MayCome before (told telling) = TellsTruly joins says (told_in before) telling
  MayCome before (moved batch from to) = Contains (events_after (told_in before)) (gave (Land batch from to)) × (main_after first before ≡ from)
  MayCome before (pushed to) = ⊤

  abbrev pub KeepsPremise : List Step → Type 0
  KeepsPremise [] = ⊤
  KeepsPremise (step ∷ before) = MayCome before step × KeepsPremise before
