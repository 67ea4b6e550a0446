-- WHAT EACH DEED ON A CHANGE DOES TO THE BATCHES, one by one, on every state and if no rule denies it. The machine has one
-- definition for all of them, by which the queue follows the desk.
use Rattle.std.specs.Prelude.{◌≡◌, ℕ, ℤ, not, Bool, false, ◌&&◌, List, None, if◌then◌else◌}
use Rattle.std.specs.FinMap as finite
use Rattle.std.specs.Option.{option_map_or}
use Rattle.std.specs.Ordering.{int_eq}
use Rattle.gate_queue.specs.Vocabulary.{Ping, Approve, ApproveFor, Withdraw, Priority, Try, TryCancel, DelegateAuthor, DelegateTo, DelegateNone, Retry, last_command, look, Known, Change, State, Act, On, Said, Happened, Opened, Pushed, Closed, Labeled, Unlabeled, Review}
use Rattle.gate_queue.specs.Machine.{denial, is_head, repeated, after, size_on, all_but, ends_approval, labeled, reviewed}
use Rattle.gate_state.specs.State.{approved_on, priority_on, IsState}
use Rattle.gate_state.specs.Queue.{enqueued, tried, taken_out}
use Rattle.gate_state.specs.declared.batch.Branch.TheVariants.{Staging, Trying}
use Rattle.gate_state.specs.declared.queue.Queue.{Queue}

-- the queue with a change under its priority, without it, and without it on either branch
abbrev pub with : State → ℕ → Queue
with s change = enqueued (size_on s.desk) (priority_on s.desk change) change s.queue

abbrev pub without : State → ℕ → Queue
without s change = taken_out Staging (all_but change) s.queue

abbrev pub without_any : State → ℕ → Queue
without_any s change = taken_out Trying (all_but change) (without s change)

-- whether the change is altered so that its approval ends
abbrev pub is_ended : State → ℕ → (Change → Change) → Bool
is_ended s change alter = option_map_or (ends_approval alter) (finite.get s.desk.changes change) false

abbrev pub Leaves : State → Act → Queue → Type 0
Leaves s act queue = denial s act ≡ None → (after s act).queue ≡ queue

pub record ActByAct (s : State) (change : ℕ) : Type 0 where
  -- `r+` and `r=` queue the change, and `r-` takes it out
  pub approve : (person : List ℕ) → Leaves s (On change (Said person (Known Approve))) (with s change)
  pub approve_for : (person : List ℕ) (names : List (List ℕ)) → Leaves s (On change (Said person (Known (ApproveFor names)))) (with s change)
  pub withdraw : (person : List ℕ) → Leaves s (On change (Said person (Known Withdraw))) (without s change)
  -- another priority of an approved change takes it out, and queues it anew
  pub priority : (person : List ℕ) (priority : ℤ) → Leaves s (On change (Said person (Known (Priority priority))))
      (if approved_on s.desk change && not (int_eq (priority_on s.desk change) priority) then enqueued (size_on s.desk) priority change (without s change) else s.queue)
  -- `try` queues it on the other branch as a batch of its own, and `try-` takes it out there
  pub try : (person : List ℕ) → Leaves s (On change (Said person (Known Try))) (tried change s.queue)
  pub try_cancel : (person : List ℕ) → Leaves s (On change (Said person (Known TryCancel))) (taken_out Trying (all_but change) s.queue)
  -- another head takes it out on both, and so does a closing
  pub pushed : (head : List ℕ) → Leaves s (On change (Happened (Pushed head))) (if is_head (look s.desk) change head then s.queue else without_any s change)
  pub closed : Leaves s (On change (Happened Closed)) (without_any s change)
  -- a label or a review takes it out if it ends the approval
  pub labeled : (label : List ℕ) → Leaves s (On change (Happened (Labeled label))) (if is_ended s change (labeled s.desk.settings label) then without s change else s.queue)
  pub reviewed : (person head : List ℕ) (approves : Bool) →
      Leaves s (On change (Happened (Review person head approves))) (if is_ended s change (reviewed s.desk.settings person approves) then without s change else s.queue)
  -- `retry` does what the command that it repeats does
  pub retry : (person : List ℕ) → denial s (On change (Said person (Known Retry))) ≡ None
      → after s (On change (Said person (Known Retry))) ≡ after s (On change (Said person (Known (repeated (last_command (look s.desk) change)))))
  -- all else leaves the queue
  pub ping : (person : List ℕ) → Leaves s (On change (Said person (Known Ping))) s.queue
  pub delegate_author : (person : List ℕ) → Leaves s (On change (Said person (Known DelegateAuthor))) s.queue
  pub delegate_to : (person : List ℕ) (names : List (List ℕ)) → Leaves s (On change (Said person (Known (DelegateTo names)))) s.queue
  pub delegate_none : (person : List ℕ) → Leaves s (On change (Said person (Known DelegateNone))) s.queue
  pub opened : (author head : List ℕ) → Leaves s (On change (Happened (Opened author head))) s.queue
  pub unlabeled : (label : List ℕ) → Leaves s (On change (Happened (Unlabeled label))) s.queue

abbrev pub LawOfTheQueue : Type 0
LawOfTheQueue = (s : State) (change : ℕ) → IsState s → ActByAct s change
