-- THE ORDER OF SERVICE of a lane and of a queue, and the numbers of the batches, after all that is done to them.
use Rattle.std.specs.Prelude.{◌≡◌, ◌≤◌, ℕ, ◌+◌, nat_lt, nat_le, ℤ, Bool, true, false, ◌&&◌, List, length, Option, IfSome, if◌then◌else◌}
use Rattle.std.specs.List.{All, AllPairs}
use Rattle.gate_state.specs.Counts.{uses}
use Rattle.gate_state.specs.Lanes.{batches_of, goes_before, placed, left, is_landing, enqueued, enqueue_uses, tried, taken_out, taken_out_uses, restarted, restarted_uses, requeued, requeued_uses, failed, failed_uses, started, staged, reported, landing, dropped}
use Rattle.gate_state.specs.Queue as queues
use Rattle.gate_state.specs.declared.batch.Batch.{Batch}
use Rattle.gate_state.specs.declared.batch.Branch.{Branch}
use Rattle.gate_state.specs.declared.batch.Report.{Report}
use Rattle.gate_state.specs.declared.lane.Lane.{Lane}
use Rattle.gate_state.specs.declared.queue.Queue.{Queue}

-- Each batch goes before all that are behind it.
abbrev pub IsInService : List Batch → Type 0
IsInService waiting = AllPairs (λ one other. goes_before one other ≡ true) waiting

-- A batch under a new number is put at a place that keeps the order.
abbrev pub LawOfPlaces : Type 0
LawOfPlaces = (batch : Batch) (waiting : List Batch) → IsInService waiting → uses batch.number waiting ≡ 0 → IsInService (placed batch waiting)

-- What is left of the batches is in order as before.
abbrev pub LawOfRests : Type 0
LawOfRests = (stays : ℕ → Bool) (waiting : List Batch) → IsInService waiting → IsInService (left stays waiting)

-- A LANE IN ORDER, under the next number: the waiting batches are in order of service, no two batches have the same number,
-- and none has one that is still to come.
pub record IsInOrder (next : ℕ) (lane : Lane) : Type 0 where
  pub service : IsInService lane.waiting
  pub numbers : (number : ℕ) → uses number (batches_of lane) ≤ (if nat_lt number next then 1 else 0)

-- It stays so, whatever is done to it.
pub record StaysInOrder (next : ℕ) (lane : Lane) : Type 0 where
  pub enqueue : (size : Option ℕ) (priority : ℤ) (change : ℕ) → IsInOrder (next + enqueue_uses size priority lane) (enqueued size next priority change lane)
  pub enqueue_try : (change : ℕ) → IsInOrder (next + 1) (tried next change lane)
  pub take_out : (stays : ℕ → Bool) → IsInOrder (next + taken_out_uses stays lane) (taken_out stays next lane)
  pub restart : IsInOrder (next + restarted_uses lane) (restarted next lane)
  pub requeue : (stays : ℕ → Bool) → IsInOrder (next + requeued_uses stays lane) (requeued stays next lane)
  pub fail : IsInOrder (next + failed_uses lane) (failed next lane)
  pub start : (now : ℕ) → IsInOrder next (started now lane)
  pub stage : (now : ℕ) (commit : List ℕ) → IsInOrder next (staged now commit lane)
  pub report : (name : List ℕ) (report : Report) → IsInOrder next (reported name report lane)
  pub land : IsInOrder next (landing lane)
  pub drop : IsInOrder next (dropped lane)

abbrev pub LawOfOrder : Type 0
LawOfOrder = (next : ℕ) (lane : Lane) → IsInOrder next lane → StaysInOrder next lane

-- NEW NUMBERS: so many from the next one on. No number is used more often than before, but for these, each once more.
abbrev pub is_new : ℕ → ℕ → ℕ → Bool
is_new next count number = nat_le next number && nat_lt number (next + count)

pub record OnlyNew (next count : ℕ) (lane after : Lane) : Type 0 where
  pub waiting : (number : ℕ) → uses number after.waiting ≤ uses number lane.waiting + (if is_new next count number then 1 else 0)
  pub all : (number : ℕ) → uses number (batches_of after) ≤ uses number (batches_of lane) + (if is_new next count number then 1 else 0)

pub record UsesNewNumbers (next : ℕ) (lane : Lane) : Type 0 where
  pub enqueue : (size : Option ℕ) (priority : ℤ) (change : ℕ) → OnlyNew next (enqueue_uses size priority lane) lane (enqueued size next priority change lane)
  pub enqueue_try : (change : ℕ) → OnlyNew next 1 lane (tried next change lane)
  pub take_out : (stays : ℕ → Bool) → OnlyNew next (taken_out_uses stays lane) lane (taken_out stays next lane)
  pub restart : OnlyNew next (restarted_uses lane) lane (restarted next lane)
  pub requeue : (stays : ℕ → Bool) → OnlyNew next (requeued_uses stays lane) lane (requeued stays next lane)
  pub fail : OnlyNew next (failed_uses lane) lane (failed next lane)
  pub start : (now : ℕ) → OnlyNew next 0 lane (started now lane)
  pub stage : (now : ℕ) (commit : List ℕ) → OnlyNew next 0 lane (staged now commit lane)
  pub report : (name : List ℕ) (report : Report) → OnlyNew next 0 lane (reported name report lane)
  pub land : OnlyNew next 0 lane (landing lane)
  pub drop : OnlyNew next 0 lane (dropped lane)

abbrev pub LawOfNumbers : Type 0
LawOfNumbers = (next : ℕ) (lane : Lane) → UsesNewNumbers next lane

-- THE QUEUE IN ORDER: both lanes are, and no batch of one has the number of a batch of the other.
pub record QueueIsInOrder (queue : Queue) : Type 0 where
  pub staging : IsInOrder queue.next queue.staging
  pub trying : IsInOrder queue.next queue.trying
  pub apart : (number : ℕ) → uses number (batches_of queue.staging) + uses number (batches_of queue.trying) ≤ (if nat_lt number queue.next then 1 else 0)

-- It stays so, whatever is done to it.
pub record QueueStaysInOrder (queue : Queue) : Type 0 where
  pub enqueue : (size : Option ℕ) (priority : ℤ) (change : ℕ) → QueueIsInOrder (queues.enqueued size priority change queue)
  pub enqueue_try : (change : ℕ) → QueueIsInOrder (queues.tried change queue)
  pub take_out : (branch : Branch) (stays : ℕ → Bool) → QueueIsInOrder (queues.taken_out branch stays queue)
  pub restart : (branch : Branch) → QueueIsInOrder (queues.restarted branch queue)
  pub requeue : (branch : Branch) (stays : ℕ → Bool) → QueueIsInOrder (queues.requeued branch stays queue)
  pub fail : (branch : Branch) → QueueIsInOrder (queues.failed branch queue)
  pub start : (branch : Branch) (now : ℕ) → QueueIsInOrder (queues.started branch now queue)
  pub stage : (branch : Branch) (now : ℕ) (commit : List ℕ) → QueueIsInOrder (queues.staged branch now commit queue)
  pub report : (branch : Branch) (name : List ℕ) (report : Report) → QueueIsInOrder (queues.reported branch name report queue)
  pub land : (branch : Branch) → QueueIsInOrder (queues.landing branch queue)
  pub drop : (branch : Branch) → QueueIsInOrder (queues.dropped branch queue)

abbrev pub LawOfQueues : Type 0
LawOfQueues = (queue : Queue) → QueueIsInOrder queue → QueueStaysInOrder queue

-- A LANE OF SINGLE CHANGES: each batch has exactly one, and none is landing.
abbrev pub IsAlone : Batch → Type 0
IsAlone batch = length batch.changes ≡ 1

pub record AreAlone (lane : Lane) : Type 0 where
  pub waiting : All IsAlone lane.waiting
  pub running : IfSome lane.running (λ batch. IsAlone batch × (is_landing batch.stage ≡ false))

-- It stays so, whatever may be done to tries. A batch that loses its change or fails is gone, and no number is used for it.
pub record StaysAlone (number : ℕ) (lane : Lane) : Type 0 where
  pub enqueue_try : (change : ℕ) → AreAlone (tried number change lane)
  pub take_out : (stays : ℕ → Bool) → AreAlone (taken_out stays number lane) × (taken_out_uses stays lane ≡ 0)
  pub restart : AreAlone (restarted number lane)
  pub fail : (failed number lane ≡ dropped lane) × (failed_uses lane ≡ 0)
  pub start : (now : ℕ) → AreAlone (started now lane)
  pub stage : (now : ℕ) (commit : List ℕ) → AreAlone (staged now commit lane)
  pub report : (name : List ℕ) (report : Report) → AreAlone (reported name report lane)
  pub drop : AreAlone (dropped lane)

abbrev pub LawOfSingles : Type 0
LawOfSingles = (number : ℕ) (lane : Lane) → AreAlone lane → StaysAlone number lane
