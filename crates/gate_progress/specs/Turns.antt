-- TURNS: which batches are served before one that waits, and which may come before it later.
use Rattle.std.specs.Prelude.{◌≡◌, ◌<◌, ◌==◌, ◌&&◌, ◌||◌, not, ℕ, Bool, true, List, [], ◌∷◌, ◌++◌, int_lt, if◌then◌else◌}
use Rattle.std.specs.List.{Contains, list_all, list_any}
use Rattle.std.specs.Ordering.{int_eq}
use Rattle.gate_state.specs.Lanes.{batches_of}
use Rattle.gate_state.specs.Queue.{lane_of}
use Rattle.gate_state.specs.State.{IsState}
use Rattle.gate_state.specs.declared.act.Act.{Act}
use Rattle.gate_state.specs.declared.batch.Batch.{Batch}
use Rattle.gate_state.specs.declared.batch.Branch.{Branch}
use Rattle.gate_state.specs.declared.lane.Lane.{Lane}
use Rattle.gate_state.specs.declared.state.State.{State}
use Rattle.gate_queue.specs.Progress.{CanCome, after_all}

-- THE SMALLER NUMBER FIRST, among waiting batches of one priority that are both fresh, or both retried.
abbrev pub LawOfTurns : Type 0
LawOfTurns = (s : State) (branch : Branch) (front middle back : List Batch) (one other : Batch) → IsState s
    → (lane_of branch s.queue).waiting ≡ front ++ (one ∷ (middle ++ (other ∷ back)))
    → int_eq one.priority other.priority ≡ true → one.again ≡ other.again → one.number < other.number

-- the batches of a list in front of the one of a number
abbrev pub before_number : ℕ → List Batch → List Batch
before_number number [] = []
before_number number (batch ∷ batches) = if batch.number == number then [] else batch ∷ before_number number batches

-- what is served before a number on a branch: the batch that runs, and those that wait in front of it
abbrev pub served_before : ℕ → Lane → List Batch
served_before number lane = before_number number (batches_of lane)

-- whether one of these batches has the number
abbrev pub has_numbered : ℕ → List Batch → Bool
has_numbered number batches = list_any (λ batch. batch.number == number) batches

-- A greater priority overtakes, and so does a batch that was retried, if the other is fresh and of the same priority.
abbrev pub overtakes : Batch → Batch → Bool
overtakes one other = int_lt other.priority one.priority || (int_eq one.priority other.priority && one.again && not other.again)

-- NOTHING COMES BEFORE IT but what overtakes it, as long as a batch waits.
abbrev pub LawOfOvertaking : Type 0
LawOfOvertaking = (s : State) (branch : Branch) (batch : Batch) (acts : List Act) → IsState s → CanCome s acts → Contains (lane_of branch s.queue).waiting batch
    → has_numbered batch.number (lane_of branch (after_all s acts).queue).waiting ≡ true
    → list_all (λ one. has_numbered one.number (served_before batch.number (lane_of branch s.queue)) || overtakes one batch) (served_before batch.number (lane_of branch (after_all s acts).queue)) ≡ true
