-- The name of each branch and of each reason, as orders write them, and the name of what a status says, as the code hosts
-- write it; and what has a name.
use Rattle.std.specs.Prelude.{ℕ, List, [], ◌∷◌, Option, codes}
use Rattle.std.specs.List.{find}
use Rattle.std.specs.Str.{bytes_eq}
use Rattle.gate_state.specs.declared.act.StatusState.{StatusState}
use Rattle.gate_state.specs.declared.act.StatusState.TheVariants.{Success, Failure, Error, Pending}
use Rattle.gate_state.specs.declared.batch.Branch.{Branch}
use Rattle.gate_state.specs.declared.batch.Branch.TheVariants.{Staging, Trying}
use Rattle.gate_state.specs.declared.reply.Why.{Why}
use Rattle.gate_state.specs.declared.reply.Why.TheVariants.{Conflict, Failed, TimedOut, Pushed, Closed, Labeled, Reviews, Settings, TryPassed, TryFailed}

abbrev pub branch_word_of : Branch → List ℕ
branch_word_of Staging = codes "staging"
branch_word_of Trying = codes "trying"

abbrev pub branch_called : List ℕ → Option Branch
branch_called word = find (λ branch. bytes_eq word (branch_word_of branch)) (Staging ∷ Trying ∷ [])

abbrev pub why_word_of : Why → List ℕ
why_word_of Conflict = codes "Conflict"
why_word_of (Failed name) = codes "Failed"
why_word_of TimedOut = codes "TimedOut"
why_word_of Pushed = codes "Pushed"
why_word_of Closed = codes "Closed"
why_word_of Labeled = codes "Labeled"
why_word_of Reviews = codes "Reviews"
why_word_of Settings = codes "Settings"
why_word_of TryPassed = codes "TryPassed"
why_word_of TryFailed = codes "TryFailed"

-- the reason of this name, of those that name no status
abbrev pub why_called : List ℕ → Option Why
why_called word = find (λ why. bytes_eq word (why_word_of why)) (
    Conflict ∷ TimedOut ∷ Pushed ∷ Closed ∷ Labeled ∷ Reviews ∷ Settings ∷ TryPassed ∷ TryFailed ∷ [])

abbrev pub state_word_of : StatusState → List ℕ
state_word_of Success = codes "success"
state_word_of Failure = codes "failure"
state_word_of Error = codes "error"
state_word_of Pending = codes "pending"

abbrev pub state_called : List ℕ → Option StatusState
state_called word = find (λ state. bytes_eq word (state_word_of state)) (Success ∷ Failure ∷ Error ∷ Pending ∷ [])
