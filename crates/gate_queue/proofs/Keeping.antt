-- What a state keeps of its queue, every operation keeps.
use Rattle.std.proofs.Common.{◌≡◌, ◌≤◌, ◌+◌, ℕ, ℤ, pos, eqb, ltb, Bool, true, false, not, ◌&&◌, ◌||◌, if◌then◌else◌, List, [], ◌∷◌, length, slice_get, Option, Some, IfSome, refl, sym, ◌∙◌, ap, subst, arith}
use Rattle.std.proofs.lemmas.Bool.{not-true}
use Rattle.std.proofs.lemmas.Bool.Decides.{nat_tests}
use Rattle.std.proofs.lemmas.List.Sums.{sum_by-cons, sum_by-le-sum_by}
use Rattle.std.specs.Cmp.{signed_Decides}
use Rattle.std.specs.FinMap as finite
use Rattle.std.specs.List.{list_any}
use Rattle.std.specs.Option.{option_map_or}
use Rattle.std.specs.Ordering.{int_eq}
use Rattle.gate_queue.specs.Vocabulary.{DeskView, is_required, SettingsView, Batch, Branch, Staging, Trying, Report, Lane, Queue}
use Rattle.gate_state.specs.Counts.{occurs, held, held_by, in_running, in_landing, in_lone, of_any_priority}
use Rattle.gate_state.specs.Lanes.{batches_of, is_landing, enqueued, tried, taken_out, restarted, requeued, failed, started, staged, reported, landing}
use Rattle.gate_state.specs.State.{approved_on, landing_on, priority_on, trying_on, Marks, marks_on, IsRunning, IsBranch, IsQueue, is_not}
use Rattle.gate_queue.specs.Machine.{size_on, all_but, lone, followed, tried_by, approval_followed, followed_on}
use Rattle.gate_state.specs.Queue as specs
use Rattle.gate_state.specs.Service.{QueueIsInOrder, AreAlone}
use Rattle.gate_state.specs.declared.batch.Stage.TheVariants.{Staged}
use Rattle.gate_state.specs.Lemmas.Alone.{singles_law}
use Rattle.gate_state.specs.Lemmas.Apart.{queue_law}
use Rattle.gate_queue.proofs.Batches.{IsLane, enqueued_lane, tried_lane, taken_out_lane, restarted_lane, requeued_lane, failed_lane, started_lane, later_lane, staged_lane, reported_lane, landing_lane}
use Rattle.gate_state.specs.Lemmas.Counts.{held_is, enqueue_law, try_law, take_out_law, restart_law, requeue_law, start_law, stage_law, report_law, land_law, fail_law}

abbrev once : Bool → ℕ
once b = if b then 1 else 0

-- COUNTS in a lane
-- under some priorities a change isn't more often there than at all
held_less : (test : ℤ → Bool) (change : ℕ) (lane : Lane) → held test change lane ≤ held of_any_priority change lane
held_less test change lane = sum_by-le-sum_by (held_by test change) (held_by of_any_priority change) (batches_of lane) (λ batch. grind arith)

landing_less : (test : ℤ → Bool) (change : ℕ) (lane : Lane) → in_landing test change lane ≤ in_landing of_any_priority change lane
landing_less test change lane = grind arith

-- a batch that is landing runs, and a batch that runs is in the lane
landing_runs : (test : ℤ → Bool) (change : ℕ) (lane : Lane) → in_landing test change lane ≤ in_running test change lane
landing_runs test change lane = grind arith

landing_held : (test : ℤ → Bool) (change : ℕ) (lane : Lane) → in_landing test change lane ≤ held test change lane
landing_held test change lane = omega (arith, landing_runs test change lane, held_is test change lane)

-- whether the running batch is landing
abbrev pub lands : Option Batch → Bool
lands running = option_map_or (λ (batch : Batch). is_landing batch.stage) running false

pub none_landing : (test : ℤ → Bool) (change : ℕ) (running : Option Batch) (waiting : List Batch) → lands running ≡ false → in_landing test change (record { running = running; waiting = waiting }) ≡ 0
none_landing test change running waiting not_so = grind arith

-- only a batch that isn't landing goes back
taken_out_landing : (test : ℤ → Bool) (change : ℕ) (stays : ℕ → Bool) (number : ℕ) (lane : Lane) → in_landing test change (taken_out stays number lane) ≡ in_landing test change lane
taken_out_landing test change stays number lane = grind arith

same_priority : (priority : ℤ) → is_not priority priority ≡ false
same_priority priority = ap not ((signed_Decides priority priority).1 refl)

-- the stages of its batches
its_lane : {on : Branch} {now : ℕ} {settings : Option SettingsView} {marks : Marks} {lane : Lane} → IsBranch on now settings marks lane → IsLane on now settings lane
its_lane is = record { waiting = is.waiting; running = is.running }

-- ONE OPERATION, under the marks before and after
module _ (on : Branch) (now : ℕ) (settings : Option SettingsView) (old new : Marks) (number : ℕ) (lane : Lane) (is : IsBranch on now settings old lane) where
  -- a change is put in that was neither wanted nor landing, under its priority
  pub put_in_keeps : (after : Lane) (change : ℕ) → IsLane on now settings after
      → ((test : ℤ → Bool) (other : ℕ) → held test other after ≡ held test other lane + (if eqb other change && test (new.priority change) then 1 else 0))
      → ((other : ℕ) → in_landing of_any_priority other after ≡ in_landing of_any_priority other lane)
      → (old.wanted change || old.landing change) ≡ false → new.wanted change ≡ true
      → ((other : ℕ) → eqb other change ≡ false → (new.wanted other ≡ old.wanted other) × (new.priority other ≡ old.priority other))
      → ((other : ℕ) → new.landing other ≡ old.landing other)
      → IsBranch on now settings new after
  put_in_keeps after change batches counted still wasnt is' others lands_as = record {
    waiting = batches.waiting;
    running = batches.running;
    places = λ other. grind (arith, nat_tests, counted of_any_priority other, is.places other, others other, lands_as other);
    priorities = λ other. grind (arith, nat_tests, counted (is_not (new.priority other)) other, held_less (is_not (new.priority other)) other lane, is.places other, is.priorities other, others other, same_priority (new.priority change));
    landing = λ other. still other ∙ is.landing other ∙ ap once (sym (lands_as other));
  }

  -- changes are taken out that are no longer approved; the others stay as they are, and so does what is landing
  pub taken_out_keeps : (stays : ℕ → Bool)
      → ((change : ℕ) → stays change ≡ true → (new.wanted change ≡ old.wanted change) × (new.priority change ≡ old.priority change))
      → ((change : ℕ) → stays change ≡ false → new.wanted change ≡ false)
      → ((change : ℕ) → (new.landing change ≡ old.landing change) × (old.landing change ≡ true → new.priority change ≡ old.priority change))
      → IsBranch on now settings new (taken_out stays number lane)
  taken_out_keeps stays kept gone lands_as =
      let batches = taken_out_lane on now settings lane.running lane.waiting stays number (its_lane is) in
      record {
        waiting = batches.waiting;
        running = batches.running;
        places = λ change. take_out_law of_any_priority stays number change lane ∙ grind (arith, is.places change, is.landing change, kept change, gone change, lands_as change);
        priorities = λ change.
            let of_old = landing_held (is_not (old.priority change)) change lane in
            let of_new = landing_less (is_not (new.priority change)) change lane in
            take_out_law (is_not (new.priority change)) stays number change lane ∙ grind (arith, is.priorities change, is.landing change, kept change, lands_as change);
        landing = λ change. taken_out_landing of_any_priority change stays number lane ∙ is.landing change ∙ ap once (sym (lands_as change).0);
      }

  -- The running batch waits again with what is approved of it. What was landing no longer is, and only that may have lost its
  -- approval.
  pub requeued_keeps : (later : ℕ) (others : Option SettingsView)
      → ((change : ℕ) → new.wanted change ≡ true → (old.wanted change ≡ true) × (new.priority change ≡ old.priority change))
      → ((change : ℕ) → new.wanted change ≡ false → old.wanted change ≡ true → old.landing change ≡ true)
      → ((change : ℕ) → new.landing change ≡ false)
      → IsBranch on later others new (requeued new.wanted number lane)
  requeued_keeps later others kept gone none =
      let batches = requeued_lane on now later settings others lane.running lane.waiting new.wanted number (its_lane is) in
      record {
        waiting = batches.waiting;
        running = batches.running;
        places = placed;
        priorities = λ change.
            let law = requeue_law (is_not (new.priority change)) new.wanted number change lane in
            let less = held_less (is_not (new.priority change)) change (requeued new.wanted number lane) in
            grind (arith, kept change, is.priorities change, placed change, none change);
        landing = λ change. grind (arith, none change);
      } where
        placed : (change : ℕ) → held of_any_priority change (requeued new.wanted number lane) ≡ once (new.wanted change || new.landing change)
        placed change =
            let law = requeue_law of_any_priority new.wanted number change lane in
            grind (arith, landing_runs of_any_priority change lane, is.places change, is.landing change, kept change, gone change, none change)

-- the same under the same marks, if the operation leaves what there is of each change, and what is landing
module _ (on : Branch) (now : ℕ) (settings : Option SettingsView) (marks : Marks) (number : ℕ) (lane : Lane) (is : IsBranch on now settings marks lane) where
  same_keeps : (later : ℕ) (others : Option SettingsView) (after : Lane) → IsLane on later others after → ((test : ℤ → Bool) (change : ℕ) → held test change after ≡ held test change lane)
      → ((change : ℕ) → in_landing of_any_priority change after ≡ in_landing of_any_priority change lane) → IsBranch on later others marks after
  same_keeps later others after batches same landing_same = record {
    waiting = batches.waiting;
    running = batches.running;
    places = λ change. same of_any_priority change ∙ is.places change;
    priorities = λ change. same (is_not (marks.priority change)) change ∙ is.priorities change;
    landing = λ change. landing_same change ∙ is.landing change;
  }

  -- the running batch waits again, unless it is landing, under whatever settings
  pub restarted_keeps : (later : ℕ) (others : Option SettingsView) → IsBranch on later others marks (restarted number lane)
  restarted_keeps later others =
      same_keeps later others (restarted number lane) (restarted_lane on now later settings others lane.running lane.waiting number (its_lane is))
      (λ test change. restart_law test number change lane) (λ change. grind arith)

  pub started_keeps : (later : ℕ) → now ≤ later → IsBranch on later settings marks (started later lane)
  started_keeps later past =
      same_keeps later settings (started later lane) (started_lane on now later settings lane.running lane.waiting past (its_lane is))
      (λ test change. start_law test later change lane) (λ change. grind arith)

  -- a batch that isn't landing is staged
  pub staged_keeps : (commit : List ℕ) → lands lane.running ≡ false → IsBranch on now settings marks (staged now commit lane)
  staged_keeps commit not_so =
      same_keeps now settings (staged now commit lane) (staged_lane on now settings lane commit (its_lane is)) (λ test change. stage_law test now commit change lane) (λ change. grind arith)

  pub reported_keeps : (name : List ℕ) (report : Report) → is_required settings name ≡ true → IsBranch on now settings marks (reported name report lane)
  reported_keeps name report required =
      same_keeps now settings (reported name report lane) (reported_lane on now settings lane name report required (its_lane is))
      (λ test change. report_law test name report change lane) (λ change. grind arith)

  -- the clock goes on
  pub later_keeps : (later : ℕ) → now ≤ later → IsBranch on later settings marks lane
  later_keeps later past = same_keeps later settings lane (later_lane on now later settings lane past (its_lane is)) (λ test change. refl) (λ change. refl)

-- A BATCH IS TO LAND: its changes are marked, which are approved.
-- a change that is in a list, or isn't
pub some_there : (change : ℕ) (changes : List ℕ) → list_any (eqb change) changes ≡ true → 1 ≤ occurs change changes
some_there change [] there = cc there
some_there change (first ∷ changes) there = grind (arith, some_there change changes, sum_by-cons (λ other. if eqb change other then 1 else 0) first changes)

pub none_there : (change : ℕ) (changes : List ℕ) → list_any (eqb change) changes ≡ false → occurs change changes ≡ 0
none_there change [] there = refl
none_there change (first ∷ changes) there = grind (arith, none_there change changes, sum_by-cons (λ other. if eqb change other then 1 else 0) first changes)

-- one that is there no more than once
in_list : (change : ℕ) (changes : List ℕ) → occurs change changes ≤ 1 → occurs change changes ≡ once (list_any (eqb change) changes)
in_list change changes few = grind (arith, some_there change changes, none_there change changes)

module _ (on : Branch) (now : ℕ) (settings : Option SettingsView) (old new : Marks) (number : ℕ) (lane : Lane) (is : IsBranch on now settings old lane) (batch : Batch)
    (runs : lane.running ≡ Some batch) (since : ℕ) (commit : List ℕ) (reports : finite.FinMap _ Report) (stage : batch.stage ≡ Staged since commit reports) where
  pub landing_keeps : ((change : ℕ) → (new.wanted change ≡ old.wanted change) × (new.priority change ≡ old.priority change))
      → ((change : ℕ) → new.landing change ≡ (list_any (eqb change) batch.changes || old.landing change))
      → IsBranch on now settings new (landing lane)
  landing_keeps same marked =
      let batches = landing_lane on now settings lane (its_lane is) in
      record {
        waiting = batches.waiting;
        running = batches.running;
        places = λ change. land_law of_any_priority change lane ∙ grind (arith, is.places change, is.landing change, not_yet change, there change, in_list change batch.changes, same change, marked change);
        priorities = λ change.
            land_law (is_not (new.priority change)) change lane ∙ ap (λ p. held (is_not p) change lane) (same change).1 ∙ is.priorities change;
        landing = λ change. lands_now change ∙ grind (arith, is.places change, is.landing change, not_yet change, there change, in_list change batch.changes, marked change);
      } where
        not_yet : (change : ℕ) → in_landing of_any_priority change lane ≡ 0
        not_yet change = none_landing of_any_priority change lane.running lane.waiting (ap lands runs ∙ ap is_landing stage)

        lands_now : (change : ℕ) → in_landing of_any_priority change (landing lane) ≡ occurs change batch.changes
        lands_now change = grind (arith, runs, stage)

        there : (change : ℕ) → occurs change batch.changes ≤ held of_any_priority change lane
        there change = omega (arith, ap (λ (o : Option Batch). option_map_or (held_by of_any_priority change) o 0) runs, held_is of_any_priority change lane)

-- A BATCH THAT FAILS, and isn't landing: if it has one change alone, that is no longer approved.
-- how often a change is the one of a running batch that has no other
one_alone : (change : ℕ) (changes : List ℕ) → ltb 1 (length changes) ≡ false → not (eqb (length changes) 0) ≡ true
    → occurs change changes ≡ once (option_map_or (λ one. eqb change one) (slice_get changes 0) false)
one_alone change [] few some = cc some
one_alone change (one ∷ []) few some = sum_by-cons (λ other. if eqb change other then 1 else 0) one [] ∙ omega arith
one_alone change (one ∷ other ∷ changes) few some = absurd (grind (arith, nat_tests))

lone_is : (on : Branch) (now : ℕ) (settings : Option SettingsView) (change : ℕ) (lane : Lane) → IfSome lane.running (IsRunning on now settings)
    → in_lone of_any_priority change lane ≡ once (option_map_or (λ one. eqb change one) (lone lane.running) false)
lone_is on now settings change lane runs = grind (arith, λ (batch : Batch). one_alone change batch.changes)

module _ (on : Branch) (now : ℕ) (settings : Option SettingsView) (old new : Marks) (number : ℕ) (lane : Lane) (is : IsBranch on now settings old lane) where
  abbrev alone : ℕ → Bool
  alone change = option_map_or (λ one. eqb change one) (lone lane.running) false

  pub failed_keeps : lands lane.running ≡ false
      → ((change : ℕ) → new.wanted change ≡ (not (alone change) && old.wanted change))
      → ((change : ℕ) → (new.priority change ≡ old.priority change) × (new.landing change ≡ old.landing change)) → IsBranch on now settings new (failed number lane)
  failed_keeps not_so ended same =
      let batches = failed_lane on now settings lane.running lane.waiting number (its_lane is) in
      record {
        waiting = batches.waiting;
        running = batches.running;
        places = λ change.
            let law = fail_law of_any_priority number change lane in
            let one = lone_is on now settings change lane is.running in
            grind (arith, is.places change, is.landing change, none_landing of_any_priority change lane.running lane.waiting not_so, ended change, same change);
        priorities = λ change.
            ap (λ p. held (is_not p) change (failed number lane)) (same change).0
            ∙ omega (arith, fail_law (is_not (old.priority change)) number change lane, is.priorities change);
        landing = λ change. grind (arith, is.landing change, none_landing of_any_priority change lane.running lane.waiting not_so, same change);
      }

-- WHAT IS QUEUED on `Staging`, and what is tried
module _ (now : ℕ) (settings : Option SettingsView) (old new : Marks) (number : ℕ) (lane : Lane) (change : ℕ)
    (wasnt : (old.wanted change || old.landing change) ≡ false) (is' : new.wanted change ≡ true)
    (others : (other : ℕ) → eqb other change ≡ false → (new.wanted other ≡ old.wanted other) × (new.priority other ≡ old.priority other))
    (lands_as : (other : ℕ) → new.landing other ≡ old.landing other) where
  pub enqueued_keeps : (size : Option ℕ) → IsBranch Staging now settings old lane → IsBranch Staging now settings new (enqueued size number (new.priority change) change lane)
  enqueued_keeps size is =
      put_in_keeps Staging now settings old new number lane is (enqueued size number (new.priority change) change lane) change
      (enqueued_lane now settings lane size number (new.priority change) change (its_lane is))
      (λ test other. enqueue_law test size number (new.priority change) change other lane) (λ other. refl) wasnt is' others lands_as

  pub tried_keeps : new.priority change ≡ pos 0 → IsBranch Trying now settings old lane → IsBranch Trying now settings new (tried number change lane)
  tried_keeps priority is =
      put_in_keeps Trying now settings old new number lane is (tried number change lane) change
      (tried_lane now settings lane number change (its_lane is))
      (λ test other. try_law test number change other lane ∙ ap {B = ℕ} (λ (p : ℤ). held test other lane + (if eqb other change && test p then 1 else 0)) (sym priority))
      (λ other. refl) wasnt is' others lands_as

-- The same batches under other marks, if these say the same of what the branch holds
held_keeps : (on : Branch) (now : ℕ) (settings : Option SettingsView) (old new : Marks) (lane : Lane) → IsBranch on now settings old lane → ((change : ℕ) → new.wanted change ≡ old.wanted change)
    → ((change : ℕ) → new.landing change ≡ old.landing change) → ((change : ℕ) → (old.wanted change || old.landing change) ≡ true → new.priority change ≡ old.priority change)
    → IsBranch on now settings new lane
held_keeps on now settings old new lane is wanted_as lands_as priced_as = record {
  waiting = is.waiting;
  running = is.running;
  places = λ change. is.places change ∙ (λ i. once (sym (wanted_as change) i || sym (lands_as change) i));
  priorities = λ change. grind (arith, is.places change, is.priorities change, priced_as change, held_less (is_not (new.priority change)) change lane);
  landing = λ change. is.landing change ∙ ap once (sym (lands_as change));
}

-- and on a desk whose settings and clock have stayed
pub on_time : (on : Branch) (old new : DeskView) (lane : Lane) → new.settings ≡ old.settings → new.clock ≡ old.clock
    → IsBranch on old.clock old.settings (marks_on on new) lane → IsBranch on new.clock new.settings (marks_on on new) lane
on_time on old new lane settings clock is =
    subst (λ now. IsBranch on now new.settings (marks_on on new) lane) (sym clock) (subst (λ s. IsBranch on old.clock s (marks_on on new) lane) (sym settings) is)

-- THE QUEUE FOLLOWS what an act does to one change.
abbrev OthersStay : ℕ → DeskView → DeskView → Type 0
OthersStay change old new = (other : ℕ) → eqb other change ≡ false → finite.get new.changes other ≡ finite.get old.changes other

-- what is done to tries leaves the other branch
pub tried_by_staging : (was is : Bool) (change : ℕ) (queue : Queue) → (tried_by was is change queue).staging ≡ queue.staging
tried_by_staging was is change queue = grind arith

-- what a deed on a change leaves as it was; one that is landing isn't approved anew, and keeps its priority
pub record OnlyAt (change : ℕ) (old new : DeskView) : Type 0 where
  pub settings : new.settings ≡ old.settings
  pub clock : new.clock ≡ old.clock
  pub others : OthersStay change old new
  pub landing : landing_on new change ≡ landing_on old change
  pub final : landing_on old change ≡ true → (approved_on new change ≡ true → approved_on old change ≡ true) × (priority_on new change ≡ priority_on old change)

module _ (old new : DeskView) (change : ℕ) (only : OnlyAt change old new) where
  others : (other : ℕ) → eqb other change ≡ false → (approved_on new other ≡ approved_on old other) × (priority_on new other ≡ priority_on old other)
  others other differs = grind (arith, only.others other differs)

  other_tries : (other : ℕ) → eqb other change ≡ false → trying_on new other ≡ trying_on old other
  other_tries other differs = grind (arith, only.others other differs)

  goes_but : (other : ℕ) → all_but change other ≡ false → other ≡ change
  goes_but other go = grind (arith, nat_tests)

  lands_as : (other : ℕ) → landing_on new other ≡ landing_on old other
  lands_as other = grind (arith, nat_tests, only.others other, only.landing)

  -- On `Staging`
  approval_keeps : (queue : Queue) → IsBranch Staging old.clock old.settings (marks_on Staging old) queue.staging
      → IsBranch Staging old.clock old.settings (marks_on Staging new) (approval_followed old new change queue).staging
  approval_keeps queue is = by (approved_on old change) (approved_on new change) (int_eq (priority_on old change) (priority_on new change)) refl refl refl where
    -- as it was, if neither the approval nor the priority of a queued change has moved
    unmoved : approved_on new change ≡ approved_on old change → ((approved_on old change || landing_on old change) ≡ true → priority_on new change ≡ priority_on old change)
        → IsBranch Staging old.clock old.settings (marks_on Staging new) queue.staging
    unmoved stays same =
        held_keeps Staging old.clock old.settings (marks_on Staging old) (marks_on Staging new) queue.staging is
        (λ other. grind (arith, nat_tests, others other, stays)) lands_as (λ other so. grind (arith, nat_tests, others other, same))

    priced_as : (other : ℕ) → landing_on old other ≡ true → priority_on new other ≡ priority_on old other
    priced_as other landing_too = grind (arith, nat_tests, only.final, others other)

    by : (was now same : Bool) → approved_on old change ≡ was → approved_on new change ≡ now → int_eq (priority_on old change) (priority_on new change) ≡ same
        → IsBranch Staging old.clock old.settings (marks_on Staging new) (followed was now (not same) (size_on new) (priority_on new change) change queue).staging
    by false false same was now at = unmoved (now ∙ sym was) (λ so. (only.final (grind arith)).1)
    by false true same was now at =
        let wasnt : (approved_on old change || landing_on old change) ≡ false = grind (arith, only.final) in
        enqueued_keeps old.clock old.settings (marks_on Staging old) (marks_on Staging new) queue.next queue.staging change wasnt now others lands_as (size_on new) is
    by true false same was now at =
        taken_out_keeps Staging old.clock old.settings (marks_on Staging old) (marks_on Staging new) queue.next queue.staging is (all_but change)
        (λ other stay. others other (not-true (eqb other change) stay)) (λ other go. ap (approved_on new) (goes_but other go) ∙ now) (λ other. (lands_as other, priced_as other))
    by true true true was now at = unmoved (now ∙ sym was) (λ so. sym ((signed_Decides (priority_on old change) (priority_on new change)).0 at))
    by true true false was now at =
        let free : landing_on old change ≡ false = grind (arith, only.final, (signed_Decides (priority_on old change) (priority_on new change)).1) in
        let without : Marks = record { wanted = λ other. not (eqb other change) && approved_on old other; landing = landing_on old; priority = priority_on old } in
        let out = specs.taken_out Staging (all_but change) queue in
        enqueued_keeps old.clock old.settings without (marks_on Staging new) out.next out.staging change
        (grind (arith, nat_tests, free)) now (λ other differs. (grind (arith, others other differs), (others other differs).1)) lands_as (size_on new)
        (taken_out_keeps Staging old.clock old.settings (marks_on Staging old) without queue.next queue.staging is (all_but change)
        (λ other stay. (ap (λ (b : Bool). b && approved_on old other) stay, refl)) (λ other go. ap (λ (b : Bool). b && approved_on old other) go) (λ other. (refl, λ so. refl)))

  -- On `Trying`
  try_keeps : (queue : Queue) → IsBranch Trying old.clock old.settings (marks_on Trying old) queue.trying
      → IsBranch Trying old.clock old.settings (marks_on Trying new) (tried_by (trying_on old change) (trying_on new change) change queue).trying
  try_keeps queue is = by (trying_on old change) (trying_on new change) refl refl where
    unmoved : trying_on new change ≡ trying_on old change → IsBranch Trying old.clock old.settings (marks_on Trying new) queue.trying
    unmoved stays =
        held_keeps Trying old.clock old.settings (marks_on Trying old) (marks_on Trying new) queue.trying is
        (λ other. grind (arith, nat_tests, other_tries other, stays)) (λ other. refl) (λ other so. refl)

    by : (was now : Bool) → trying_on old change ≡ was → trying_on new change ≡ now
        → IsBranch Trying old.clock old.settings (marks_on Trying new) (tried_by was now change queue).trying
    by false false was now = unmoved (now ∙ sym was)
    by false true was now =
        tried_keeps old.clock old.settings (marks_on Trying old) (marks_on Trying new) queue.next queue.trying change
        (ap (λ (b : Bool). b || false) was) now (λ other differs. (other_tries other differs, refl)) (λ other. refl) refl is
    by true false was now =
        taken_out_keeps Trying old.clock old.settings (marks_on Trying old) (marks_on Trying new) queue.next queue.trying is (all_but change)
        (λ other stay. (other_tries other (not-true (eqb other change) stay), refl)) (λ other go. ap (trying_on new) (goes_but other go) ∙ now) (λ other. (refl, λ so. refl))
    by true true was now = unmoved (now ∙ sym was)

  -- both stay in order, and tries alone
  followed_order : (was now moved : Bool) (size : Option ℕ) (priority : ℤ) (queue : Queue) → QueueIsInOrder queue → QueueIsInOrder (followed was now moved size priority change queue)
  followed_order false false moved size priority queue order = order
  followed_order false true moved size priority queue order = (queue_law queue order).enqueue size priority change
  followed_order true false moved size priority queue order = (queue_law queue order).take_out Staging (all_but change)
  followed_order true true false size priority queue order = order
  followed_order true true true size priority queue order =
      (queue_law (specs.taken_out Staging (all_but change) queue) ((queue_law queue order).take_out Staging (all_but change))).enqueue size priority change

  tried_order_by : (was now : Bool) (queue : Queue) → QueueIsInOrder queue → AreAlone queue.trying
      → QueueIsInOrder (tried_by was now change queue) × AreAlone (tried_by was now change queue).trying
  tried_order_by false false queue order alone = (order, alone)
  tried_order_by false true queue order alone = ((queue_law queue order).enqueue_try change, (singles_law queue.next queue.trying alone).enqueue_try change)
  tried_order_by true false queue order alone =
      ((queue_law queue order).take_out Trying (all_but change), ((singles_law queue.next queue.trying alone).take_out (all_but change)).0)
  tried_order_by true true queue order alone = (order, alone)

  pub follow_keeps : (queue : Queue) → IsQueue old queue → IsQueue new (followed_on old new change queue)
  follow_keeps queue is =
      let was = approved_on old change in
      let now = approved_on new change in
      let moved = not (int_eq (priority_on old change) (priority_on new change)) in
      let middle = approval_followed old new change queue in
      -- what is done on `Staging` leaves the tries
      let same : middle.trying ≡ queue.trying = grind arith in
      let tries = tried_order_by (trying_on old change) (trying_on new change) middle (followed_order was now moved (size_on new) (priority_on new change) queue is.order) (subst AreAlone (sym same) is.alone) in
      record {
        order = tries.0;
        staging = on_time Staging old new _ only.settings only.clock (subst (IsBranch Staging old.clock old.settings (marks_on Staging new)) (sym (tried_by_staging (trying_on old change) (trying_on new change) change middle)) (approval_keeps queue is.staging));
        trying = on_time Trying old new _ only.settings only.clock (try_keeps middle (subst (IsBranch Trying old.clock old.settings (marks_on Trying old)) (sym same) is.trying));
        alone = tries.1;
      }
