-- FINDING: halving comes to its end, so that a change which makes its batches fail is found.
use Rattle.std.specs.Prelude.{◌≡◌, ◌≤◌, ◌<◌, ◌==◌, ◌&&◌, ◌||◌, ℕ, Bool, true, false, List, [], ◌∷◌, length, Some, None, is_some}
use Rattle.gate_rules.specs.Rules.{is_landed}
use Rattle.gate_state.specs.Lanes.{fresh}
use Rattle.gate_state.specs.State.{IsState, approved_on}
use Rattle.gate_state.specs.declared.act.Act.TheVariants.{Other}
use Rattle.gate_state.specs.declared.act.Act.{Act}
use Rattle.gate_state.specs.declared.act.Fact.TheVariants.{Tick}
use Rattle.gate_state.specs.declared.batch.Batch.{Batch}
use Rattle.gate_state.specs.declared.state.State.{State}
use Rattle.gate_queue.specs.Machine.{after, has_running}
use Rattle.gate_queue.specs.Progress.{CanCome, after_all, each_of, fails}
use Rattle.gate_queue.specs.Vocabulary.{look}
use Rattle.gate_progress.specs.Coming.{endings, queues_none_above, work_before}
use Rattle.gate_progress.specs.Halving.{is_in, is_spared_by, leaves_alone}

-- A CHANGE IS FOUND by the failure of a batch that has no other.
abbrev pub is_alone_in : ℕ → Batch → Bool
is_alone_in change batch = is_in change batch && (length batch.changes == 1)

abbrev pub finds : ℕ → State → Act → Bool
finds change s act = fails s act && has_running (is_alone_in change) s.queue.staging

-- whether one of these passes a test, on the state at which it comes
abbrev pub some_of : (State → Act → Bool) → State → List Act → Bool
some_of test s [] = false
some_of test s (act ∷ acts) = test s act || some_of test (after s act) acts

-- THE WORK until a change of the running batch is found: all that is served before any fresh batch of its priority, since what it is halved
-- into is retried. No number is below 0, so no fresh batch goes before one of that number.
abbrev pub work_until : ℕ → Batch → State → ℕ
work_until change batch s = work_before (fresh 0 batch.priority change) s.queue.staging

-- HALVING ENDS. As long as the change is approved, there are fewer endings than that; and if no batch runs, the next tick orders one. Once
-- the change isn't approved, it was found, or it has landed, if no settings have ended its approval.
pub record IsFound (s : State) (batch : Batch) (change : ℕ) (acts : List Act) : Type 0 where
  pub fewer : approved_on (after_all s acts).desk change ≡ true → endings s acts < work_until change batch s
  pub next : approved_on (after_all s acts).desk change ≡ true → (after_all s acts).queue.staging.running ≡ None
      → (now : ℕ) → (after_all s acts).desk.clock ≤ now
      → is_some (after (after_all s acts) (Other (Tick now))).queue.staging.running ≡ true
  pub found : each_of (is_spared_by change) s acts ≡ true → approved_on (after_all s acts).desk change ≡ false
      → (some_of (finds change) s acts || is_landed (look (after_all s acts).desk) change) ≡ true

abbrev pub LawOfFinding : Type 0
LawOfFinding = (s : State) (batch : Batch) (change : ℕ) (acts : List Act) → IsState s → CanCome s acts
    → s.queue.staging.running ≡ Some batch → is_in change batch ≡ true → approved_on s.desk change ≡ true
    → each_of (leaves_alone change) s acts ≡ true → each_of (queues_none_above batch.priority) s acts ≡ true
    → IsFound s batch change acts
