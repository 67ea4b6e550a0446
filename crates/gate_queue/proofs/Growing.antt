-- What an act does to the numbers of waiting batches: only new ones are used.
use Rattle.std.proofs.Common.{◌≤◌, ◌+◌, ◌&&◌, ℕ, ℤ, leb, ltb, Bool, true, false, if◌then◌else◌, List, Option, Some, None, Result, Ok, Err, arith}
use Rattle.std.proofs.lemmas.Bool.Decides.{nat_tests}
use Rattle.gate_queue.specs.Vocabulary.{SettingsView, settings_of, SettingsFault, DeskView, with_clock, Act, On, Other, Deed, Role, Settings, Base, Staged, Conflict, Status, Refused, Tick, Branch, Staging, Trying, Report, Lane, Queue, Outcome, State, Why}
use Rattle.gate_state.specs.Counts.{uses}
use Rattle.gate_state.specs.State.{trying_on}
use Rattle.gate_state.specs.declared.reply.Why.TheVariants as why
use Rattle.gate_queue.specs.Machine.{heads_told, followed, tried_by, all_but, quiet, then_next, with_desk, about, under, accepted, are_present, sent_back, tries_left, lands_with, timed_out, starting, ordered_on, done, ending, on_both, told_as}
use Rattle.gate_state.specs.Queue as specs
use Rattle.gate_state.specs.Service.{OnlyNew}
use Rattle.gate_state.specs.Lemmas.Numbers.{numbers_law}
use Rattle.gate_queue.proofs.Choosing.{either_way}
use Rattle.gate_queue.proofs.Told.{EachStep, told_so, timed_out_both_so}

-- how many batches wait under a number
abbrev pub waits : ℕ → Queue → ℕ
waits number queue = uses number queue.staging.waiting + uses number queue.trying.waiting

-- Up to so many numbers from the next one on are used.
pub record Grows (count : ℕ) (was is : Queue) : Type 0 where
  pub next : was.next ≤ is.next
  pub few : is.next ≤ was.next + count
  pub waiting : (number : ℕ) → waits number is ≤ waits number was + (if leb was.next number && ltb number is.next then 1 else 0)

pub same_grows : (count : ℕ) (queue : Queue) → Grows count queue queue
same_grows count queue = grind arith

both_grow : {few more : ℕ} {a b c : Queue} → Grows few a b → Grows more b c → Grows (few + more) a c
both_grow first second = grind (arith, nat_tests)

pub more_grows : {few : ℕ} (more : ℕ) → few ≤ more → {a b : Queue} → Grows few a b → Grows more a b
more_grows more less one = grind arith

lane_grows : (branch : Branch) (count : ℕ) (queue : Queue) (lane : Lane) (used : ℕ) → OnlyNew queue.next used (specs.lane_of branch queue) lane → used ≤ count
    → Grows count queue (specs.with_lane branch lane used queue)
lane_grows branch count queue lane used new few = grind arith

enqueued_grows : (queue : Queue) (size : Option ℕ) (priority : ℤ) (change : ℕ) → Grows 1 queue (specs.enqueued size priority change queue)
enqueued_grows queue size priority change =
    lane_grows Staging 1 queue _ _ ((numbers_law queue.next queue.staging).enqueue size priority change) (grind arith)

module _ (branch : Branch) (queue : Queue) where
  abbrev its_lane : Lane
  its_lane = specs.lane_of branch queue

  taken_out_grows : (stays : ℕ → Bool) → Grows 1 queue (specs.taken_out branch stays queue)
  taken_out_grows stays = lane_grows branch 1 queue _ _ ((numbers_law queue.next its_lane).take_out stays) (grind arith)

  restarted_grows : Grows 1 queue (specs.restarted branch queue)
  restarted_grows = lane_grows branch 1 queue _ _ (numbers_law queue.next its_lane).restart (grind arith)

  pub started_grows : (now : ℕ) → Grows 0 queue (specs.started branch now queue)
  started_grows now = lane_grows branch 0 queue _ 0 ((numbers_law queue.next its_lane).start now) (omega arith)

  pub reported_grows : (name : List ℕ) (report : Report) → Grows 0 queue (specs.reported branch name report queue)
  reported_grows name report = lane_grows branch 0 queue _ 0 ((numbers_law queue.next its_lane).report name report) (omega arith)

-- THE QUEUE FOLLOWS what an act does to a change.
followed_grows : (was is moved : Bool) (size : Option ℕ) (priority : ℤ) (change : ℕ) (queue : Queue) → Grows 2 queue (followed was is moved size priority change queue)
followed_grows false true moved size priority change queue = more_grows 2 (omega arith) (enqueued_grows queue size priority change)
followed_grows true false moved size priority change queue = more_grows 2 (omega arith) (taken_out_grows Staging queue (all_but change))
followed_grows true true true size priority change queue =
    both_grow (taken_out_grows Staging queue (all_but change)) (enqueued_grows (specs.taken_out Staging (all_but change) queue) size priority change)
followed_grows was is moved size priority change queue = same_grows 2 queue

tried_by_grows : (was is : Bool) (change : ℕ) (queue : Queue) → Grows 1 queue (tried_by was is change queue)
tried_by_grows false true change queue = lane_grows Trying 1 queue _ 1 ((numbers_law queue.next queue.trying).enqueue_try change) (omega arith)
tried_by_grows true false change queue = taken_out_grows Trying queue (all_but change)
tried_by_grows was is change queue = same_grows 1 queue

pub about_grows : (s : State) (change : ℕ) (deed : Deed) → Grows 4 s.queue (about s change deed).state.queue
about_grows s change deed = more_grows 4 (omega arith) (both_grow (followed_grows _ _ _ _ _ change s.queue) (tried_by_grows _ _ change _))

pub accepted_grows : (s : State) (read : Result SettingsView SettingsFault) → Grows 4 s.queue (accepted s read).state.queue
accepted_grows s (Err fault) = same_grows 4 s.queue
accepted_grows s (Ok settings) =
    let left = specs.taken_out Staging _ s.queue in
    let again = specs.restarted Staging left in
    either_way (λ (o : Outcome). Grows 4 s.queue o.state.queue) (are_present s.desk settings) (quiet s) (under settings s) (λ present. same_grows 4 s.queue)
    (λ new. more_grows 4 (omega arith) (both_grow (both_grow (taken_out_grows Staging s.queue _) (restarted_grows Staging left)) (restarted_grows Trying again)))

-- THE RUNNING BATCH GOES BACK
sent_back_grows : (base : Option (List ℕ)) (s : State) → Grows 1 s.queue (sent_back base s).queue
sent_back_grows base s = lane_grows Staging 1 s.queue _ _ ((numbers_law s.queue.next s.queue.staging).requeue _) (grind arith)

tries_left_grows : (b : Bool) (desk : DeskView) (queue : Queue) → Grows 1 queue (tries_left b desk queue)
tries_left_grows true desk queue = taken_out_grows Trying queue (trying_on desk)
tries_left_grows false desk queue = same_grows 1 queue

-- ONE BATCH OF EACH BRANCH
pub ending_grows : (branch : Branch) (why : Why) (s : State) → Grows 2 s.queue (ending branch why s).state.queue
ending_grows Staging why s = lane_grows Staging 2 s.queue _ _ (numbers_law s.queue.next s.queue.staging).fail (grind arith)
ending_grows Trying why s = lane_grows Trying 2 s.queue _ 0 (numbers_law s.queue.next s.queue.trying).drop (omega arith)

-- a status, and what has taken too long
growing : EachStep (λ few s is. Grows few s.queue is.state.queue)
growing = record {
  nothing = λ few s. same_grows few s.queue;
  both = λ s first next one other. both_grow one other;
  report = λ branch name report s required next rest. both_grow (reported_grows branch s.queue name report) rest;
  fail = λ branch cause s ends stays. ending_grows branch (told_as branch cause) s;
  pass = λ s stays. ending_grows Trying why.TryPassed s;
  land = λ s batch runs passes. lane_grows Staging 2 s.queue _ 0 (numbers_law s.queue.next s.queue.staging).land (omega arith);
}

tick_grows : (now : ℕ) (s : State) → Grows 4 s.queue (then_next (on_both (timed_out now) s) (on_both (starting now))).state.queue
tick_grows now s =
    let ended = (on_both (timed_out now) s).state.queue in
    both_grow (timed_out_both_so growing now s) (both_grow (started_grows Staging ended now) (started_grows Trying (specs.started Staging now ended) now))

pub queue_grows : (s : State) (act : Act) → Grows 4 s.queue (done s act).state.queue
queue_grows s (On change deed) = about_grows s change deed
queue_grows s (Other (Role person role)) = same_grows 4 s.queue
queue_grows s (Other (Settings text)) = accepted_grows s (settings_of text)
queue_grows s (Other (Base commit)) =
    let back = sent_back (Some commit) s in
    more_grows 4 (omega arith) (both_grow (sent_back_grows (Some commit) s) (tries_left_grows (lands_with commit s.queue.staging) back.desk back.queue))
queue_grows s (Other (Staged batch commit)) =
    let branch = ordered_on batch s.queue in
    lane_grows branch 4 s.queue _ 0 ((numbers_law s.queue.next (specs.lane_of branch s.queue)).stage s.desk.clock commit) (omega arith)
queue_grows s (Other (Conflict batch)) = more_grows 4 (omega arith) (ending_grows (ordered_on batch s.queue) (told_as (ordered_on batch s.queue) why.Conflict) s)
queue_grows s (Other (Status commit name state)) = told_so growing commit name state (heads_told commit name state s)
queue_grows s (Other (Refused batch)) = more_grows 4 (omega arith) (sent_back_grows None s)
queue_grows s (Other (Tick now)) = tick_grows now (with_desk s (with_clock s.desk now))
