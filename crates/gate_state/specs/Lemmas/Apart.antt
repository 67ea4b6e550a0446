-- A queue in order stays so, whatever is done to one of its lanes: the numbers of both differ.
use Rattle.std.proofs.Common.{◌≤◌, ℕ, ◌+◌, ltb, if◌then◌else◌, arith}
use Rattle.std.proofs.lemmas.Bool.Decides.{nat_tests}
use Rattle.gate_state.specs.Lemmas.InOrder.{order_law}
use Rattle.gate_state.specs.Lemmas.Numbers.{numbers_law}
use Rattle.gate_state.specs.Counts.{uses}
use Rattle.gate_state.specs.Lanes.{batches_of}
use Rattle.gate_state.specs.Queue.{lane_of, with_lane}
use Rattle.gate_state.specs.Service.{IsInOrder, StaysInOrder, OnlyNew, UsesNewNumbers, QueueIsInOrder, QueueStaysInOrder, LawOfQueues}
use Rattle.gate_state.specs.declared.batch.Branch.{Branch}
use Rattle.gate_state.specs.declared.batch.Branch.TheVariants.{Staging, Trying}
use Rattle.gate_state.specs.declared.lane.Lane.{Lane}
use Rattle.gate_state.specs.declared.queue.Queue.{Queue}

-- A lane stays in order if numbers are used elsewhere.
later_order : (next used : ℕ) (lane : Lane) → IsInOrder next lane → IsInOrder (next + used) lane
later_order next used lane is = record { service = is.service; numbers = numbers } where
  numbers : (number : ℕ) → uses number (batches_of lane) ≤ (if ltb number (next + used) then 1 else 0)
  numbers number = let before = is.numbers number in grind (arith, nat_tests)

-- A lane becomes another, and the other lane stays: no number is in both.
still_apart : (next used : ℕ) (lane after other : Lane) → OnlyNew next used lane after
    → ((number : ℕ) → uses number (batches_of lane) + uses number (batches_of other) ≤ (if ltb number next then 1 else 0))
    → (number : ℕ) → uses number (batches_of after) + uses number (batches_of other) ≤ (if ltb number (next + used) then 1 else 0)
still_apart next used lane after other new apart number =
    let before = apart number in
    let more = new.all number in
    grind (arith, nat_tests)

module _ (queue : Queue) (is : QueueIsInOrder queue) where
  -- each lane of a queue in order is
  lane_order : (branch : Branch) → IsInOrder queue.next (lane_of branch queue)
  lane_order Staging = is.staging
  lane_order Trying = is.trying

  -- ANOTHER LANE for a branch, which uses only new numbers
  lane_moves : (branch : Branch) (used : ℕ) (after : Lane) → OnlyNew queue.next used (lane_of branch queue) after
      → IsInOrder (queue.next + used) after → QueueIsInOrder (with_lane branch after used queue)
  lane_moves Staging used after new order = record {
    staging = order;
    trying = later_order queue.next used queue.trying is.trying;
    apart = still_apart queue.next used queue.staging after queue.trying new is.apart;
  }
  lane_moves Trying used after new order = record {
    staging = later_order queue.next used queue.staging is.staging;
    trying = order;
    apart = λ number. omega (arith, still_apart queue.next used queue.trying after queue.staging new (λ n. omega (arith, is.apart n)) number);
  }

  -- and one that uses none
  lane_stays : (branch : Branch) (after : Lane) → OnlyNew queue.next 0 (lane_of branch queue) after
      → IsInOrder queue.next after → QueueIsInOrder (with_lane branch after 0 queue)
  lane_stays branch after new order = lane_moves branch 0 after new (later_order queue.next 0 after order)

  -- WHAT IS DONE to a queue keeps it in order.
  stays : (branch : Branch) → StaysInOrder queue.next (lane_of branch queue)
  stays branch = order_law queue.next (lane_of branch queue) (lane_order branch)

  news : (branch : Branch) → UsesNewNumbers queue.next (lane_of branch queue)
  news branch = numbers_law queue.next (lane_of branch queue)

  queue_stays : QueueStaysInOrder queue
  queue_stays =
      record {
        enqueue = λ size priority change. lane_moves Staging _ _ ((news Staging).enqueue size priority change) ((stays Staging).enqueue size priority change);
        enqueue_try = λ change. lane_moves Trying _ _ ((news Trying).enqueue_try change) ((stays Trying).enqueue_try change);
        take_out = λ branch chosen. lane_moves branch _ _ ((news branch).take_out chosen) ((stays branch).take_out chosen);
        restart = λ branch. lane_moves branch _ _ (news branch).restart (stays branch).restart;
        requeue = λ branch chosen. lane_moves branch _ _ ((news branch).requeue chosen) ((stays branch).requeue chosen);
        fail = λ branch. lane_moves branch _ _ (news branch).fail (stays branch).fail;
        start = λ branch now. lane_stays branch _ ((news branch).start now) ((stays branch).start now);
        stage = λ branch now commit. lane_stays branch _ ((news branch).stage now commit) ((stays branch).stage now commit);
        report = λ branch name report. lane_stays branch _ ((news branch).report name report) ((stays branch).report name report);
        land = λ branch. lane_stays branch _ (news branch).land (stays branch).land;
        drop = λ branch. lane_stays branch _ (news branch).drop (stays branch).drop;
      }

pub queue_law : LawOfQueues
queue_law queue is = queue_stays queue is
