-- What is served before a batch that waits.
use Rattle.std.proofs.Common.{◌≡◌, ◌≤◌, ◌&&◌, ◌||◌, not, if◌then◌else◌, ℕ, zero, suc, ℤ, eqb, leb, Bool, true, false, List, [], ◌∷◌, ◌++◌, Option, Some, None, refl, subst, ◌⊎◌, inl, inr, arith}
use Rattle.std.proofs.Math.Bool.{beq}
use Rattle.std.proofs.lemmas.Bool.{leb-true, or_left}
use Rattle.std.proofs.lemmas.Bool.Decides.{nat_tests}
use Rattle.std.proofs.lemmas.List.Folds.{list_all-append}
use Rattle.std.proofs.lemmas.List.Sums.{get_or-le-sum_by, list_all-from_AllPass, sum_by-cons}
use Rattle.std.specs.Cmp.{signed_Decides}
use Rattle.std.specs.List.{Contains, list_all, list_any}
use Rattle.std.specs.Ordering.{int_eq}
use Rattle.gate_queue.specs.Machine.{after, broken, denial, done, meaning, missing, unless_denied, with_desk}
use Rattle.gate_queue.specs.Progress.{CanCome, after_all}
use Rattle.gate_progress.specs.Turns.{LawOfTurns, LawOfOvertaking, before_number, has_numbered, overtakes, served_before}
use Rattle.gate_queue.specs.Vocabulary.{Act, Batch, Branch, ClockBack, Other, Queue, Staging, State, Tick, Trying, look, with_clock}
use Rattle.gate_state.specs.Acts.{ActKeepsLimits}
use Rattle.gate_state.specs.Counts.{uses}
use Rattle.gate_state.specs.Lanes as lanes
use Rattle.gate_state.specs.Lanes.{batches_of, goes_before}
use Rattle.gate_state.specs.Lemmas.Apart.{queue_law}
use Rattle.gate_state.specs.Lemmas.Numbers.{all_uses, has_number}
use Rattle.gate_state.specs.Lemmas.Service.{behind_first}
use Rattle.gate_state.specs.Queue as specs
use Rattle.gate_state.specs.Queue.{lane_of}
use Rattle.gate_state.specs.Service.{IsInOrder, IsInService, QueueIsInOrder}
use Rattle.gate_state.specs.State.{IsState}
use Rattle.gate_queue.proofs.Choosing.{by_option}
use Rattle.gate_progress.proofs.Enduring.{Endures, Test, all_pass, endures, meets, stands, unstarted}
use Rattle.gate_queue.proofs.Fitness.{passed}
use Rattle.gate_queue.proofs.Held.{Holds}
use Rattle.gate_queue.proofs.Meaning.{meaning_allowed, meaning_limits}
use Rattle.gate_queue.proofs.States.{clock_holds, holding, still_state}
use Rattle.gate_queue.proofs.Told.{timed_out_both_so}
use Rattle.gate_queue.proofs.Wording.{none_both}

-- THE ORDER OF SERVICE of a branch, and of what is behind some batches of it
its_order : (branch : Branch) (queue : Queue) → QueueIsInOrder queue → IsInOrder queue.next (lane_of branch queue)
its_order Staging queue is = is.staging
its_order Trying queue is = is.trying

behind : (front waiting : List Batch) → IsInService (front ++ waiting) → IsInService waiting
behind [] waiting is = is
behind (first ∷ front) waiting is = behind front waiting (behind_first first (front ++ waiting) is)

pub goes_before_all : (first : Batch) (waiting : List Batch) → IsInService (first ∷ waiting) → list_all (goes_before first) waiting ≡ true
goes_before_all first waiting is = list_all-from_AllPass (goes_before first) waiting (λ j d within. is 0 (suc j) d (omega arith) (omega arith))

pub turns_law : LawOfTurns
turns_law s branch front middle back one other is at same again =
    let ordered = behind front (one ∷ (middle ++ other ∷ back)) (subst IsInService at (its_order branch s.queue is.queue.order).service) in
    let all = goes_before_all one (middle ++ other ∷ back) ordered in
    let parts = list_all-append (goes_before one) middle (other ∷ back) in
    grind (arith, nat_tests)

-- What follows from a batch that passes some tests, follows if one batch passes the last of them and all pass the others.
pub one_of : (p q r : Batch → Bool) (so : Bool) → ((it : Batch) → p it ≡ true → q it ≡ true → r it ≡ true → so ≡ true) → (batches : List Batch)
    → list_all p batches ≡ true → list_all q batches ≡ true → list_any r batches ≡ true → so ≡ true
one_of p q r so follows [] ps qs some = cc some
one_of p q r so follows (first ∷ batches) ps qs some = grind (arith, follows first, one_of p q r so follows batches)

-- OVERTAKING. A batch waits, and `was` says which numbers were before it at first. As long as it waits, each other batch of the branch was
-- before it, or overtakes it, or stands behind it; and the one that runs doesn't stand behind it. Once it is gone, it never comes back.
module _ (batch : Batch) (was : ℕ → Bool) where
  abbrev alike : ℕ → ℤ → Bool → Batch
  alike number priority again = record batch { number = number; priority = priority; again = again }

  -- what may be served before it
  abbrev pub may_precede : Test
  may_precede number priority again = was number || overtakes (alike number priority again) batch

  -- what may wait as long as it does: itself, what may be served before it, and what stands behind it
  abbrev pub may_wait : Test
  may_wait number priority again =
      if eqb number batch.number then int_eq priority batch.priority && beq again batch.again
      else (may_precede number priority again || goes_before batch (alike number priority again))

  -- what there may be once it is gone: anything else waits, and anything runs
  abbrev pub is_other : Test
  is_other number priority again = not (eqb number batch.number)

  abbrev pub any : Test
  any number priority again = true

  -- A new batch has a greater number, so that it overtakes this one or stands behind it.
  pub new_may_wait : (number : ℕ) (priority : ℤ) (again : Bool) → suc batch.number ≤ number → may_wait number priority again ≡ true
  new_may_wait number priority again new = grind (arith, nat_tests, signed_Decides)

  pub new_is_other : (number : ℕ) (priority : ℤ) (again : Bool) → suc batch.number ≤ number → is_other number priority again ≡ true
  new_is_other number priority again new = grind (arith, nat_tests)

  abbrev is_there : List Batch → Bool
  is_there batches = list_any (λ other. eqb other.number batch.number) batches

  pub others : (batches : List Batch) → all_pass is_other batches ≡ not (is_there batches)
  others [] = refl
  others (first ∷ batches) = grind (arith, others batches)

  -- What goes before it in order of service may precede it.
  goes_first : (one it : Batch) → goes_before one it ≡ true → eqb it.number batch.number ≡ true → meets may_wait it ≡ true → meets may_wait one ≡ true → meets may_precede one ≡ true
  goes_first one it goes same its may = grind (arith, nat_tests, signed_Decides)

  in_front : (one : Batch) (waiting : List Batch) → list_all (goes_before one) waiting ≡ true → all_pass may_wait waiting ≡ true → is_there waiting ≡ true → meets may_wait one ≡ true
      → meets may_precede one ≡ true
  in_front one waiting goes all there may =
      one_of (goes_before one) (meets may_wait) (λ other. eqb other.number batch.number) (meets may_precede one) (λ it goes its same. goes_first one it goes same its may) waiting goes all there

  all_in_front : (waiting : List Batch) → IsInService waiting → all_pass may_wait waiting ≡ true → is_there waiting ≡ true → all_pass may_precede (before_number batch.number waiting) ≡ true
  all_in_front [] is all there = refl
  all_in_front (one ∷ waiting) is all there =
      grind (arith, in_front one waiting (goes_before_all one waiting is), all_in_front waiting (behind_first one waiting is))

  -- When the first batch is started, it may precede this one, or this one is gone.
  started_keeps : (now : ℕ) (running : Option Batch) (waiting : List Batch) → IsInService waiting → stands may_wait may_precede (record { running = running; waiting = waiting }) ≡ true
      → (stands may_wait may_precede (lanes.started_beside now running waiting) || stands is_other any (lanes.started_beside now running waiting)) ≡ true
  started_keeps now None [] is so = refl
  started_keeps now None (one ∷ waiting) is so = grind (arith, in_front one waiting (goes_before_all one waiting is), others waiting)
  started_keeps now (Some running) waiting is so = or_left _ _ so

  -- AT FIRST: it waits once, what is in front of it was before it, and all others stand behind it
  pub there_once : (waiting : List Batch) → Contains waiting batch → 1 ≤ uses batch.number waiting
  there_once waiting (k, within, at) = grind (arith, nat_tests, at, get_or-le-sum_by (has_number batch.number) waiting k batch within)

  itself : (one : Batch) → one ≡ batch → meets may_wait one ≡ true
  itself one same = grind (arith, nat_tests, signed_Decides, same)

  beside : (one : Batch) → eqb one.number batch.number ≡ false → (was one.number || goes_before batch one) ≡ true → meets may_wait one ≡ true
  beside one other so = grind arith

  behind_may_wait : (waiting : List Batch) → list_all (goes_before batch) waiting ≡ true → uses batch.number waiting ≡ 0 → all_pass may_wait waiting ≡ true
  behind_may_wait [] goes none = refl
  behind_may_wait (first ∷ waiting) goes none =
      let count = sum_by-cons (has_number batch.number) first waiting in
      let here = beside first in
      let later = behind_may_wait waiting in
      grind (arith, nat_tests)

  abbrev IsBefore : List Batch → Type 0
  IsBefore batches = (one : ℕ) → list_any (λ other. eqb other.number one) (before_number batch.number batches) ≡ true → was one ≡ true

  all_may_wait : (waiting : List Batch) → IsInService waiting → Contains waiting batch → uses batch.number waiting ≤ 1 → IsBefore waiting → all_pass may_wait waiting ≡ true
  all_may_wait [] is there once before = refl
  all_may_wait (first ∷ waiting) is (zero, within, at) once before =
      let count = sum_by-cons (has_number batch.number) first waiting in
      let same = itself first at in
      let goes = subst (λ (b : Batch). list_all (goes_before b) waiting ≡ true) at (goes_before_all first waiting is) in
      let later = behind_may_wait waiting goes in
      grind (arith, nat_tests)
  all_may_wait (first ∷ waiting) is (suc k, within, at) once before =
      let count = sum_by-cons (has_number batch.number) first waiting in
      let there : Contains waiting batch = (k, omega (arith, within), at) in
      let some = there_once waiting there in
      let other : eqb first.number batch.number ≡ false = grind (arith, nat_tests) in
      let here = beside first other (or_left _ _ (before first.number (grind (arith, nat_tests, other)))) in
      let later = all_may_wait waiting (behind_first first waiting is) there (omega arith) (λ one so. before one (grind (arith, other, so))) in
      grind (arith, here, later)

  pub begins : (running : Option Batch) (waiting : List Batch) → IsInService waiting → Contains waiting batch → uses batch.number (batches_of (record { running = running; waiting = waiting })) ≤ 1
      → IsBefore (batches_of (record { running = running; waiting = waiting })) → stands may_wait may_precede (record { running = running; waiting = waiting }) ≡ true
  begins None waiting is there once before = grind (arith, all_may_wait waiting is there once before)
  begins (Some running) waiting is there once before =
      let count = sum_by-cons (has_number batch.number) running waiting in
      let some = there_once waiting there in
      let other : eqb running.number batch.number ≡ false = grind (arith, nat_tests) in
      let here = before running.number (grind (arith, nat_tests, other)) in
      let later = all_may_wait waiting is there (omega arith) (λ one so. before one (grind (arith, other, so))) in
      grind (arith, here, later)

  -- OVER ACTS
  module _ (branch : Branch) where
    abbrev Keeps : Queue → Type 0
    Keeps queue = Endures may_wait may_precede (suc batch.number) branch queue ⊎ Endures is_other any (suc batch.number) branch queue

    unstarted_keeps : (s : State) (act : Act) → Keeps s.queue → Keeps (unstarted s act)
    unstarted_keeps s act (inl waits) = inl (endures may_wait may_precede (suc batch.number) branch new_may_wait s act waits)
    unstarted_keeps s act (inr gone) = inr (endures is_other any (suc batch.number) branch new_is_other s act gone)

    starts : (now : ℕ) (b : Branch) (queue : Queue) → QueueIsInOrder queue → Keeps queue → Keeps (specs.started b now queue)
    starts now b queue order (inl waits) =
        let lane = lane_of branch queue in
        let started = started_keeps now lane.running lane.waiting (its_order branch queue order).service waits.batches in
        grind arith
    starts now b queue order (inr gone) = grind arith

    all_before : (queue : Queue) → QueueIsInOrder queue → Keeps queue → has_numbered batch.number (lane_of branch queue).waiting ≡ true
        → all_pass may_precede (served_before batch.number (lane_of branch queue)) ≡ true
    all_before queue order (inl waits) there =
        let lane = lane_of branch queue in
        let all = all_in_front lane.waiting (its_order branch queue order).service in
        grind arith
    all_before queue order (inr gone) there = let lane = lane_of branch queue in grind (arith, others lane.waiting)

    done_keeps : (s : State) (act : Act) → Holds s → ActKeepsLimits act → broken (look s.desk) act ≡ None → Keeps s.queue → Keeps (done s act).state.queue
    done_keeps s (Other (Tick now)) holds limit allowed is =
        let past = leb-true s.desk.clock now (passed (leb s.desk.clock now) ClockBack [] allowed).0 in
        let ended = timed_out_both_so holding now (with_desk s (with_clock s.desk now)) (clock_holds s now limit past holds) in
        let queue = unstarted s (Other (Tick now)) in
        starts now Trying _ ((queue_law queue ended.queue.order).start Staging now) (starts now Staging queue ended.queue.order (unstarted_keeps s (Other (Tick now)) is))
    done_keeps s act holds limit allowed is = unstarted_keeps s act is

    pub after_keeps : (s : State) (act : Act) → IsState s → ActKeepsLimits act → Keeps s.queue → Keeps (after s act).queue
    after_keeps s act is limit so =
        let means = meaning (look s.desk) act in
        by_option (λ rule. denial s act ≡ rule → Keeps (unless_denied rule s (done s means).state).queue)
        (λ allowed. done_keeps s means (record { desk = is.desk; queue = is.queue }) (meaning_limits s is act limit)
        (none_both (missing s means) (broken (look s.desk) means) (meaning_allowed s act allowed)).1 so)
        (λ rule denied. so) (denial s act) refl

    all_keep : (acts : List Act) (s : State) → IsState s → CanCome s acts → Keeps s.queue → IsState (after_all s acts) × Keeps (after_all s acts).queue
    all_keep [] s is can so = (is, so)
    all_keep (act ∷ acts) s is (room, limit, can) so = all_keep acts (after s act) (still_state s is room act limit) can (after_keeps s act is limit so)

pub overtaking_law : LawOfOvertaking
overtaking_law s branch batch acts is can there waits =
    let lane = lane_of branch s.queue in
    let was = λ (one : ℕ). has_numbered one (served_before batch.number lane) in
    let order = its_order branch s.queue is.queue.order in
    let most = order.numbers batch.number in
    let some = there_once batch was lane.waiting there in
    let all = all_uses batch.number lane in
    let first = begins batch was lane.running lane.waiting order.service there (grind (arith, nat_tests)) (λ one so. so) in
    let end = all_keep batch was branch acts s is can (inl (record { next = grind (arith, nat_tests); batches = first })) in
    all_before batch was branch (after_all s acts).queue end.0.queue.order end.1 waits
