-- WHAT ENDURES of the batches of a branch: a batch keeps its number, its priority and whether it was retried. So a test that reads no more
-- of it, and that each batch under a new number passes, is passed after an act if it was passed before.
use Rattle.std.proofs.Common.{◌≡◌, ◌≤◌, ◌&&◌, ℕ, ℤ, zero, suc, Bool, true, List, [], ◌∷◌, take, drop, slice_get, take-append-drop, Option, Result, refl, ap, arith}
use Rattle.std.proofs.lemmas.List.Folds.{list_all-append}
use Rattle.std.specs.List.{insert, list_all}
use Rattle.std.specs.Option.{option_map_or}
use Rattle.gate_queue.specs.Machine.{accepted, done, ending, followed, heads_told, on_both, rebased, timed_out, told_as, tried_by, with_desk}
use Rattle.gate_queue.specs.Vocabulary.{Act, Base, Batch, Branch, Lane, On, Other, Queue, Settings, SettingsFault, SettingsView, State, Status, Tick, Trying, Why, settings_of, with_clock}
use Rattle.gate_state.specs.Lanes.{left, with_joined}
use Rattle.gate_state.specs.Queue.{lane_of}
use Rattle.gate_state.specs.declared.reply.Why.TheVariants as why
use Rattle.gate_queue.proofs.Told.{EachStep, told_so, timed_out_both_so}

-- a test of the number, of the priority, and of whether the batch was retried
abbrev pub Test : Type 0
Test = ℕ → ℤ → Bool → Bool

abbrev pub meets : Test → Batch → Bool
meets test batch = test batch.number batch.priority batch.again

abbrev pub all_pass : Test → List Batch → Bool
all_pass test batches = list_all (meets test) batches

-- WAITING BATCHES
module _ (test : Test) where
  placed_pass : (batch : Batch) (waiting : List Batch) (place : ℕ) → all_pass test (insert waiting place batch) ≡ (meets test batch && all_pass test waiting)
  placed_pass batch waiting place =
      let more = list_all-append (meets test) (take place waiting) (batch ∷ drop place waiting) in
      let parts = list_all-append (meets test) (take place waiting) (drop place waiting) in
      let whole = ap (all_pass test) (take-append-drop place waiting) in
      grind arith

  left_pass : (stays : ℕ → Bool) (waiting : List Batch) → all_pass test waiting ≡ true → all_pass test (left stays waiting) ≡ true
  left_pass stays [] all = refl
  left_pass stays (first ∷ waiting) all = grind (arith, left_pass stays waiting)

  joined_pass : (change : ℕ) (waiting : List Batch) (place : ℕ) → all_pass test (with_joined change waiting place (slice_get waiting place)) ≡ all_pass test waiting
  joined_pass change [] place = refl
  joined_pass change (first ∷ waiting) zero = refl
  joined_pass change (first ∷ waiting) (suc place) = grind (arith, joined_pass change waiting place)

-- A BRANCH: its waiting batches pass one test, and the running one another
abbrev pub stands : Test → Test → Lane → Bool
stands waits runs lane = all_pass waits lane.waiting && option_map_or (meets runs) lane.running true

pub record Endures (waits runs : Test) (low : ℕ) (branch : Branch) (queue : Queue) : Type 0 where
  pub next : low ≤ queue.next
  pub batches : stands waits runs (lane_of branch queue) ≡ true

-- what an act makes of the queue, but for the start of the first waiting batches at the end of a tick
abbrev pub unstarted : State → Act → Queue
unstarted s (Other (Tick now)) = (on_both (timed_out now) (with_desk s (with_clock s.desk now))).state.queue
unstarted s act = (done s act).state.queue

-- EACH OPERATION and each act
module _ (waits runs : Test) (low : ℕ) (branch : Branch) (new : (number : ℕ) (priority : ℤ) (again : Bool) → low ≤ number → waits number priority again ≡ true) where
  abbrev Still : Queue → Type 0
  Still queue = Endures waits runs low branch queue

  pub followed_still : (was is moved : Bool) (size : Option ℕ) (priority : ℤ) (change : ℕ) (queue : Queue) → Still queue → Still (followed was is moved size priority change queue)
  followed_still was is moved size priority change queue still = grind (arith, placed_pass, joined_pass, left_pass, new)

  tried_by_still : (was is : Bool) (change : ℕ) (queue : Queue) → Still queue → Still (tried_by was is change queue)
  tried_by_still was is change queue still = grind (arith, placed_pass, left_pass, new)

  accepted_still : (s : State) (read : Result SettingsView SettingsFault) → Still s.queue → Still (accepted s read).state.queue
  accepted_still s read still = grind (arith, placed_pass, left_pass, new)

  rebased_still : (base : List ℕ) (s : State) → Still s.queue → Still (rebased base s).queue
  rebased_still base s still = grind (arith, placed_pass, left_pass, new)

  -- A BATCH ENDS, by a status, since it has taken too long, or since the host can't stage it.
  ending_still : (b : Branch) (cause : Why) (s : State) → Still s.queue → Still (ending b cause s).state.queue
  ending_still b cause s still = grind (arith, placed_pass, new)

  each_still : EachStep (λ few s is. Still s.queue → Still is.state.queue)
  each_still = record {
    nothing = λ few s still. still;
    both = λ s first next one other still. other (one still);
    report = λ b name report s required next rest still. rest (grind arith);
    fail = λ b cause s ends stays still. ending_still b (told_as b cause) s still;
    pass = λ s stays still. ending_still Trying why.TryPassed s still;
    land = λ s batch runs passes still. grind arith;
  }

  pub endures : (s : State) (act : Act) → Still s.queue → Still (unstarted s act)
  endures s (Other (Status commit name state)) still = told_so each_still commit name state (heads_told commit name state s) still
  endures s (Other (Tick now)) still = timed_out_both_so each_still now (with_desk s (with_clock s.desk now)) still
  endures s (On change deed) still = tried_by_still _ _ change _ (followed_still _ _ _ _ _ change s.queue still)
  endures s (Other (Settings text)) still = accepted_still s (settings_of text) still
  endures s (Other (Base commit)) still = rebased_still commit s still
  endures s act still = grind (arith, placed_pass, new)
