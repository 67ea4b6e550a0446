-- THE QUEUE: the batches of both branches, and the next number.
use Rattle.std.specs.Prelude.{ℕ, ◌+◌, ℤ, Bool, List, ◌++◌, map, Option}
use Rattle.std.specs.Option.{option_or}
use Rattle.gate_state.specs.Lanes as lanes
use Rattle.gate_state.specs.declared.batch.Batch.{Batch}
use Rattle.gate_state.specs.declared.batch.Branch.{Branch}
use Rattle.gate_state.specs.declared.batch.Branch.TheVariants.{Staging, Trying}
use Rattle.gate_state.specs.declared.batch.Report.{Report}
use Rattle.gate_state.specs.declared.lane.Lane.{Lane}
use Rattle.gate_state.specs.declared.queue.Queue.{Queue}

abbrev pub empty_queue : ℕ → Queue
empty_queue next = record { staging = lanes.empty_lane; trying = lanes.empty_lane; next = next }

-- all batches, in order of service
abbrev pub batches_of : Queue → List Batch
batches_of queue = lanes.batches_of queue.staging ++ lanes.batches_of queue.trying

-- their numbers
abbrev pub numbers_of : Queue → List ℕ
numbers_of queue = map (λ batch. batch.number) (batches_of queue)

-- the one of a number, if there is one
abbrev pub batch_numbered : ℕ → Queue → Option Batch
batch_numbered number queue = option_or (lanes.batch_numbered number queue.staging) (lanes.batch_numbered number queue.trying)

abbrev pub lane_of : Branch → Queue → Lane
lane_of Staging queue = queue.staging
lane_of Trying queue = queue.trying

abbrev pub other_lane : Branch → Queue → Lane
other_lane Staging queue = queue.trying
other_lane Trying queue = queue.staging

abbrev pub of_lanes : Branch → Lane → Lane → ℕ → Queue
of_lanes Staging lane other next = record { staging = lane; trying = other; next = next }
of_lanes Trying lane other next = record { staging = other; trying = lane; next = next }

-- another lane for a branch, which used so many numbers
abbrev pub with_lane : Branch → Lane → ℕ → Queue → Queue
with_lane Staging lane used queue = record queue { staging = lane; next = queue.next + used }
with_lane Trying lane used queue = record queue { trying = lane; next = queue.next + used }

-- WHAT IS DONE to a queue: the same to one lane, under the next number. What is approved is queued on `Staging`, and a try on
-- `Trying`.
abbrev pub enqueued : Option ℕ → ℤ → ℕ → Queue → Queue
enqueued size priority change queue =
    with_lane Staging (lanes.enqueued size queue.next priority change queue.staging) (lanes.enqueue_uses size priority queue.staging) queue

abbrev pub tried : ℕ → Queue → Queue
tried change queue = with_lane Trying (lanes.tried queue.next change queue.trying) 1 queue

abbrev pub taken_out : Branch → (ℕ → Bool) → Queue → Queue
taken_out branch stays queue =
    with_lane branch (lanes.taken_out stays queue.next (lane_of branch queue)) (lanes.taken_out_uses stays (lane_of branch queue)) queue

abbrev pub restarted : Branch → Queue → Queue
restarted branch queue = with_lane branch (lanes.restarted queue.next (lane_of branch queue)) (lanes.restarted_uses (lane_of branch queue)) queue

abbrev pub requeued : Branch → (ℕ → Bool) → Queue → Queue
requeued branch stays queue =
    with_lane branch (lanes.requeued stays queue.next (lane_of branch queue)) (lanes.requeued_uses stays (lane_of branch queue)) queue

abbrev pub failed : Branch → Queue → Queue
failed branch queue = with_lane branch (lanes.failed queue.next (lane_of branch queue)) (lanes.failed_uses (lane_of branch queue)) queue

abbrev pub started : Branch → ℕ → Queue → Queue
started branch now queue = with_lane branch (lanes.started now (lane_of branch queue)) 0 queue

abbrev pub staged : Branch → ℕ → List ℕ → Queue → Queue
staged branch now commit queue = with_lane branch (lanes.staged now commit (lane_of branch queue)) 0 queue

abbrev pub reported : Branch → List ℕ → Report → Queue → Queue
reported branch name report queue = with_lane branch (lanes.reported name report (lane_of branch queue)) 0 queue

abbrev pub landing : Branch → Queue → Queue
landing branch queue = with_lane branch (lanes.landing (lane_of branch queue)) 0 queue

abbrev pub dropped : Branch → Queue → Queue
dropped branch queue = with_lane branch (lanes.dropped (lane_of branch queue)) 0 queue
