-- COMING TO RUN: what waits comes to run, at the latest after as many endings as there is work before it.
use Rattle.std.specs.Prelude.{◌≡◌, ◌≤◌, ◌+◌, ◌-◌, ◌*◌, ◌&&◌, ◌||◌, not, int_lt, ℕ, ℤ, Bool, true, false, List, [], ◌∷◌, length, if◌then◌else◌}
use Rattle.std.specs.List.{Contains, sum_by}
use Rattle.gate_state.specs.Counts.{of_running}
use Rattle.gate_state.specs.Lanes.{goes_before}
use Rattle.gate_state.specs.State.{IsState, approved_on, priority_on}
use Rattle.gate_state.specs.declared.act.Act.TheVariants.{On, Other}
use Rattle.gate_state.specs.declared.act.Act.{Act}
use Rattle.gate_state.specs.declared.act.Fact.TheVariants as fact
use Rattle.gate_state.specs.declared.act.Fact.TheVariants.{Tick}
use Rattle.gate_state.specs.declared.batch.Batch.{Batch}
use Rattle.gate_state.specs.declared.batch.Branch.TheVariants.{Staging}
use Rattle.gate_state.specs.declared.lane.Lane.{Lane}
use Rattle.gate_state.specs.declared.state.State.{State}
use Rattle.gate_queue.specs.Machine.{after, is_base, lands_with}
use Rattle.gate_queue.specs.Progress.{CanCome, after_all, each_of, fails, keeps_place, runs_on}
use Rattle.gate_queue.specs.Vocabulary.{look}
use Rattle.gate_progress.specs.Turns.{has_numbered}

-- AN ENDING: the batch that runs on `Staging` fails, or it lands, as the commit that was to land is the base from then on
abbrev pub lands : State → Act → Bool
lands s (Other (fact.Base commit)) = not (is_base (look s.desk) commit) && lands_with commit s.queue.staging
lands s act = false

abbrev pub ends : State → Act → Bool
ends s act = fails s act || lands s act

-- how many of these acts are one
abbrev pub endings : State → List Act → ℕ
endings s [] = 0
endings s (act ∷ acts) = (if ends s act then 1 else 0) + endings (after s act) acts

-- THE WORK of a batch of k changes, 2k - 1: to so many endings it may come, with all that it is halved into
abbrev pub work_of : Batch → ℕ
work_of batch = 2 * length batch.changes - 1

-- the work before a batch: of the batch that runs, and of those that wait and go before it
abbrev pub work_before : Batch → Lane → ℕ
work_before batch lane = of_running work_of lane + sum_by (λ one. if goes_before one batch then work_of one else 0) lane.waiting

-- WHAT COMES ABOVE a priority: a change that is approved with a greater one after an act, and had another priority, or no approval,
-- before. Only deeds bring one there.
abbrev pub comes_above : ℤ → State → ℕ → State → Bool
comes_above priority s change t = approved_on t.desk change && int_lt priority (priority_on t.desk change) && not (keeps_place s change t)

abbrev pub queues_none_above : ℤ → State → Act → Bool
queues_none_above priority s (On change deed) = not (comes_above priority s change (after s (On change deed)))
queues_none_above priority s (Other fact) = true

-- WHAT WAITS COMES TO RUN, if nothing comes above its priority: each ending lowers the work before a batch, and no other act raises it, as
-- long as the batch waits. If none is left, as after as many endings as there was work, the next tick orders it.
pub record Comes (s : State) (batch : Batch) (acts : List Act) : Type 0 where
  pub work : endings s acts + work_before batch (after_all s acts).queue.staging ≤ work_before batch s.queue.staging
  pub runs : work_before batch (after_all s acts).queue.staging ≡ 0 → (now : ℕ) → (after_all s acts).desk.clock ≤ now
      → runs_on Staging batch.number (after (after_all s acts) (Other (Tick now))) ≡ true

abbrev pub LawOfComing : Type 0
LawOfComing = (s : State) (batch : Batch) (acts : List Act) → IsState s → CanCome s acts → Contains s.queue.staging.waiting batch
    → each_of (queues_none_above batch.priority) s acts ≡ true → has_numbered batch.number (after_all s acts).queue.staging.waiting ≡ true
    → Comes s batch acts
