-- STANDING: where the bot stands after a host has told it more. The laws of progress speak of lists of acts. By this they speak of what a
-- host tells.
use Rattle.std.specs.Prelude.{◌≡◌, true, ℕ, List, [], ◌∷◌, ◌++◌}
use Rattle.std.specs.List.{All}
use Rattle.gate_deliveries.specs.Acts.{EventKeepsLimits, acts_of_event}
use Rattle.gate_deliveries.specs.declared.delivery.Event.{Event as Telling}
use Rattle.gate_guard.specs.Knowing.{known_after, unless_full}
use Rattle.gate_guard.specs.World.{Checking, KeepsPremise, Merging, Step, main_after, told, told_in}
use Rattle.gate_queue.specs.Progress.{CanCome, after_all}
use Rattle.gate_state.specs.State.{IsState}
use Rattle.gate_state.specs.declared.act.Act.{Act}
use Rattle.gate_state.specs.declared.state.State.{State}

-- the state of the bot after a run
abbrev pub state_after : List Step → State
state_after steps = (known_after (told_in steps)).state

-- A host tells more after a run. The first that it tells stands first here, while the newest step of a run stands first.
abbrev pub tell : List Telling → List Step → List Step
tell [] before = before
tell (telling ∷ later) before = tell later (told telling ∷ before)

-- The acts of what is told, in order, from a state on. What would meet a full gate has none.
abbrev pub acts_told : State → List Telling → List Act
acts_told s [] = []
acts_told s (telling ∷ later) =
    unless_full s (acts_of_event telling) ++ acts_told (after_all s (unless_full s (acts_of_event telling))) later

abbrev pub acts_after : List Step → List Telling → List Act
acts_after before tellings = acts_told (state_after before) tellings

-- THE BOT STANDS where these acts lead, and the main branch is where it was. If what was told is true, the bot was at a state, and from there
-- the acts may come. That is what the laws of progress suppose.
pub record StandsAfter (first : List ℕ) (before : List Step) (tellings : List Telling) : Type 0 where
  pub state : state_after (tell tellings before) ≡ after_all (state_after before) (acts_after before tellings)
  pub main : main_after first (tell tellings before) ≡ main_after first before
  pub can_come : (joins : Merging) (says : Checking) → KeepsPremise joins says first (tell tellings before)
      → IsState (state_after before) × CanCome (state_after before) (acts_after before tellings)

abbrev pub LawOfStanding : Type 0
LawOfStanding = (first : List ℕ) (before : List Step) (tellings : List Telling) → StandsAfter first before tellings

-- IF NOTHING IS SUPPOSED of merges and checks, all that is told is true, if each reading of the clock is within its limit.
abbrev pub any_merge : Merging
any_merge base heads commit = true

abbrev pub any_check : Checking
any_check commit name = true

abbrev pub LawOfAnyTelling : Type 0
LawOfAnyTelling = (first : List ℕ) (before : List Step) (tellings : List Telling) → KeepsPremise any_merge any_check first before
    → All EventKeepsLimits tellings → KeepsPremise any_merge any_check first (tell tellings before)
