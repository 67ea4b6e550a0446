-- What waits comes to run: its place, over every act.
use Rattle.std.proofs.Common.{◌≡◌, ◌≤◌, ◌+◌, ◌&&◌, ◌||◌, not, if◌then◌else◌, int_lt, ℕ, zero, suc, ℤ, eqb, leb, Bool, true, false, List, [], ◌∷◌, slice_get, Option, Some, None, IfSome, is_some, refl, sym, ◌∙◌, ap, subst, ◌⊎◌, inl, inr, arith}
use Rattle.std.proofs.Math.Bool.{beq}
use Rattle.std.proofs.lemmas.Bool.{and_parts, leb-true, not-true}
use Rattle.std.proofs.lemmas.Bool.Decides.{nat_tests, Decides-eqb}
use Rattle.std.proofs.lemmas.List.Elements.{All-head, All-weaker}
use Rattle.std.proofs.lemmas.List.Sums.{sum_by-cons}
use Rattle.std.specs.Cmp.{signed_Decides}
use Rattle.std.specs.List.{All, list_all, list_any}
use Rattle.std.specs.Option.{option_map_or}
use Rattle.std.specs.Ordering.{int_eq}
use Rattle.gate_text.specs.LastWhere.{last_where}
use Rattle.gate_queue.specs.Machine.{acted, after, all_but, approval_followed, broken, denial, done, effect, followed, meaning, missing, size_on, unless_denied, with_desk}
use Rattle.gate_queue.specs.Progress.{CanCome, after_all, each_of}
use Rattle.gate_progress.specs.Coming.{LawOfComing, endings, ends, comes_above, queues_none_above, work_of}
use Rattle.gate_progress.specs.Turns.{has_numbered}
use Rattle.gate_queue.specs.Vocabulary.{Act, Batch, Branch, ClockBack, Lane, On, Other, Queue, Rule, Staging, State, Tick, Trying, look, with_clock}
use Rattle.gate_state.specs.Acts.{ActKeepsLimits}
use Rattle.gate_state.specs.Counts.{held, held_by, of_any_priority}
use Rattle.gate_state.specs.Lanes as lanes
use Rattle.gate_state.specs.Lanes.{batches_of, fresh, goes_before, has_changes, is_fresh_of}
use Rattle.gate_state.specs.Lemmas.Apart.{queue_law}
use Rattle.gate_state.specs.Lemmas.Numbers.{all_uses}
use Rattle.gate_state.specs.Lemmas.Service.{behind_first}
use Rattle.gate_state.specs.Queue as specs
use Rattle.gate_state.specs.Service.{IsInService, QueueIsInOrder}
use Rattle.gate_state.specs.State.{IsState, IsWaiting, approved_on, landing_on, priority_on, trying_on}
use Rattle.gate_queue.proofs.Choosing.{by_option}
use Rattle.gate_progress.proofs.Enduring.{Endures, all_pass, endures, followed_still, meets, unstarted}
use Rattle.gate_progress.proofs.Turns.{after_keeps, any, begins, goes_before_all, is_other, may_precede, may_wait, new_is_other, new_may_wait, one_of, others, there_once}
use Rattle.gate_queue.proofs.Fitness.{passed}
use Rattle.gate_queue.proofs.Held.{Holds}
use Rattle.gate_queue.proofs.Keeping.{some_there, tried_by_staging}
use Rattle.gate_queue.proofs.Progress.{firsts_law}
use Rattle.gate_queue.proofs.Meaning.{meaning_allowed, meaning_limits, means}
use Rattle.gate_queue.proofs.States.{clock_holds, holding, queued_held, ready, still_state, still_states}
use Rattle.gate_queue.proofs.Told.{timed_out_both_so}
use Rattle.gate_queue.proofs.Wording.{none_both}
use Rattle.gate_progress.proofs.Work.{Before, EntersBehind, IsBehind, Leads, MayEnter, MayFollow, counts, ending_allowed, ending_falls, entered_less, runs_some, some_work, started_same}

-- WHAT A DEED QUEUES isn't above the priority of the mark.
module _ (mark : Batch) where
  abbrev none_above : Bool → Bool → Bool → ℤ → Bool
  none_above was is same priority = not (is && int_lt mark.priority priority && not (beq was is && same))

  -- a queue that a change may enter: as it was, or without the change
  abbrev pub Enters : ℤ → ℕ → Queue → Lane → Type 0
  Enters priority change queue end =
      (limit : Option ℕ) (entered : Queue) → (entered ≡ queue) ⊎ (entered ≡ specs.taken_out Staging (all_but change) queue)
      → (specs.enqueued limit priority change entered).staging ≡ end → int_lt mark.priority priority ≡ false
      → EntersBehind mark limit priority change entered

  may_follow : (was is same : Bool) (limit : Option ℕ) (priority : ℤ) (change : ℕ) (queue : Queue) → none_above was is same priority ≡ true
      → Enters priority change queue (followed was is (not same) limit priority change queue).staging
      → MayFollow mark was is same limit priority change queue
  may_follow false false same limit priority change queue none enters = tt
  may_follow false true same limit priority change queue none enters = enters limit queue (inl refl) refl (grind (arith, none))
  may_follow true false same limit priority change queue none enters = tt
  may_follow true true true limit priority change queue none enters = tt
  may_follow true true false limit priority change queue none enters =
      enters limit (specs.taken_out Staging (all_but change) queue) (inr refl) refl (grind (arith, none))

  -- as the act is meant
  abbrev pub EntersBy : State → Act → Type 0
  EntersBy s (On change deed) =
      Enters (priority_on (effect s.desk change deed) change) change s.queue (unstarted s (On change deed)).staging
  EntersBy s (Other fact) = Unit {0}

  abbrev none_by : State → Act → State → Bool
  none_by s (On change deed) t = not (comes_above mark.priority s change t)
  none_by s (Other fact) t = true

  of_after : (s : State) (act : Act) → denial s act ≡ None → queues_none_above mark.priority s act ≡ true
      → none_by s act (acted s act).state ≡ true
  of_after s (On change deed) allowed none =
      subst (λ rule. none_by s (On change deed) (unless_denied rule s (acted s (On change deed)).state) ≡ true) allowed none
  of_after s (Other fact) allowed none = refl

  as_done : (s : State) (act : Act) → none_by s act (done s act).state ≡ true → EntersBy s act → MayEnter mark s act
  as_done s (Other fact) none enters = tt
  as_done s (On change deed) none enters =
      let new = effect s.desk change deed in
      may_follow (approved_on s.desk change) (approved_on new change) (int_eq (priority_on s.desk change) (priority_on new change))
      (size_on new) (priority_on new change) change s.queue none
      (subst (Enters (priority_on new change) change s.queue)
      (tried_by_staging (trying_on s.desk change) (trying_on new change) change (approval_followed s.desk new change s.queue)) enters)

  pub may_enter : (s : State) (act : Act) → denial s act ≡ None → queues_none_above mark.priority s act ≡ true
      → EntersBy s (meaning (look s.desk) act) → MayEnter mark s (meaning (look s.desk) act)
  may_enter s act allowed none =
      let end = (acted s act).state in
      as_done s (meaning (look s.desk) act)
      (means (λ a. none_by s a end ≡ none_by s act end) (look s.desk) act refl (λ n person at. ap (λ (a : Act). none_by s a end) (sym at)) ∙
      of_after s act allowed none)

-- what is started, at the end of a tick
abbrev pub started_by : Act → Lane → Lane
started_by (Other (Tick now)) lane = lanes.started now lane
started_by act lane = lane

abbrev pub LeadsBy : Batch → Act → Lane → Type 0
LeadsBy mark (Other (Tick now)) lane = Leads mark lane.running lane.waiting
LeadsBy mark act lane = Unit {0}

pub done_leaves : (s : State) (act : Act) → (done s act).state.queue.staging ≡ started_by act (unstarted s act).staging
done_leaves s (Other (Tick now)) = refl
done_leaves s (On change deed) = refl
done_leaves s (Other fact) = refl

-- ONE ACT that no rule denies, and one that is denied
module _ (mark : Batch) (s : State) (is : IsState s) where
  started_by_same : (act : Act) (lane : Lane) → LeadsBy mark act lane → Before mark (started_by act lane) ≡ Before mark lane
  started_by_same (Other (Tick now)) lane leads = started_same mark now lane leads
  started_by_same (On change deed) lane leads = refl
  started_by_same (Other fact) lane leads = refl

  pub after_falls : (act : Act)
      → (denial s act ≡ None
      → MayEnter mark s (meaning (look s.desk) act)
      × LeadsBy mark (meaning (look s.desk) act) (unstarted s (meaning (look s.desk) act)).staging)
      → (if ends s act then 1 else 0) + Before mark (after s act).queue.staging ≤ Before mark s.queue.staging
  after_falls act may = by (denial s act) refl (ending_allowed mark s is act) where
    means_to : Act
    means_to = meaning (look s.desk) act

    by : (rule : Option Rule) → denial s act ≡ rule → (ends s act ≡ true → rule ≡ None)
        → (if ends s act then 1 else 0) + Before mark (unless_denied rule s (done s means_to).state).queue.staging
        ≤ Before mark s.queue.staging
    by None allowed ending =
        let (enters, leads) = may allowed in
        let same = started_by_same means_to (unstarted s means_to).staging leads in
        omega (arith, ending_falls mark s is act enters, same, ap (Before mark) (done_leaves s means_to))
    by (Some rule) denied ending = no_ending (ends s act) ending where
      no_ending : (b : Bool) → (b ≡ true → Some rule ≡ None)
          → (if b then 1 else 0) + Before mark s.queue.staging ≤ Before mark s.queue.staging
      no_ending true so = cc (so refl)
      no_ending false so = omega arith

-- THE LAST of a list that passes a test, and any of it
none_of : (test : Batch → Bool) (waiting : List Batch) → last_where test waiting ≡ None → list_any test waiting ≡ false
none_of test [] none = refl
none_of test (first ∷ waiting) none = grind (arith, none_of test waiting)

pub is_last : (test : Batch → Bool) (waiting : List Batch) (place : ℕ) (one : Batch) → last_where test waiting ≡ Some place
    → slice_get waiting place ≡ Some one → test one ≡ true
is_last test [] place one last at = cc last
is_last test (first ∷ waiting) place one last at = grind (arith, is_last test waiting)

is_in : (p : Batch → Bool) (waiting : List Batch) (place : ℕ) (one : Batch) → list_all p waiting ≡ true → slice_get waiting place ≡ Some one
    → p one ≡ true
is_in p [] place one all at = cc at
is_in p (first ∷ waiting) zero one all at = grind (arith, all, at)
is_in p (first ∷ waiting) (suc place) one all at = grind (arith, all, is_in p waiting place one)

-- THE FIRST BATCH OF A STATE is ordered by a tick: there is a base, since its changes are approved.
pub first_ordered : (s : State) → IsState s → (first : Batch) (others : List Batch)
    → s.queue.staging ≡ record { running = None; waiting = first ∷ others } → (now : ℕ) → s.desk.clock ≤ now
    → (after s (Other (Tick now))).queue.staging.running ≡ Some (lanes.ordered_at now first)
first_ordered s is first others leading now past = by s.desk.base refl based where
  holds : Holds s
  holds = record { desk = is.desk; queue = is.queue }

  some : has_changes first ≡ true
  some =
      let all = subst (λ (l : Lane). All (IsWaiting Staging) l.waiting) leading is.queue.staging.waiting in
      (All-head (IsWaiting Staging) first others all).changes

  queued : (change : ℕ) → list_any (eqb change) first.changes ≡ true → (approved_on s.desk change || landing_on s.desk change) ≡ true
  queued change here = queued_held s holds change
      (subst (λ (l : Lane). 1 ≤ held of_any_priority change l) (sym leading)
      (omega (arith, sum_by-cons (held_by of_any_priority change) first others, some_there change first.changes here)))

  based : is_some s.desk.base ≡ true
  based = (ready s holds first.changes some queued).1

  by : (base : Option (List ℕ)) → s.desk.base ≡ base → is_some base ≡ true
      → (after s (Other (Tick now))).queue.staging.running ≡ Some (lanes.ordered_at now first)
  by None at so = cc so
  by (Some base) at so = (firsts_law s Staging first others base now at leading past).1

-- A BATCH THAT WAITS
module _ (batch : Batch) where
  -- nothing is asked of what was before it
  abbrev any_number : ℕ → Bool
  any_number number = true

  abbrev Waits : Queue → Type 0
  Waits queue = Endures (may_wait batch any_number) (may_precede batch any_number) (suc batch.number) Staging queue

  abbrev Gone : Queue → Type 0
  Gone queue = Endures (is_other batch any_number) (any batch any_number) (suc batch.number) Staging queue

  abbrev there : List Batch → Bool
  there waiting = has_numbered batch.number waiting

  all_may : (queue : Queue) → Waits queue → all_pass (may_wait batch any_number) queue.staging.waiting ≡ true
  all_may queue waits = (and_parts (all_pass (may_wait batch any_number) queue.staging.waiting) _ waits.batches).0

  -- What goes before all of these goes before it.
  goes_before_it : (one it : Batch) → goes_before one it ≡ true → meets (may_wait batch any_number) it ≡ true
      → eqb it.number batch.number ≡ true → goes_before one batch ≡ true
  goes_before_it one it goes may same = grind (arith, nat_tests, signed_Decides)

  leads : (one : Batch) (waiting : List Batch) → list_all (goes_before one) waiting ≡ true
      → all_pass (may_wait batch any_number) waiting ≡ true → there waiting ≡ true → goes_before one batch ≡ true
  leads one waiting goes may waits =
      one_of (goes_before one) (meets (may_wait batch any_number)) (λ other. eqb other.number batch.number) (goes_before one batch)
      (goes_before_it one) waiting goes may waits

  -- It stands behind the last fresh batch of its priority, or is that one, if it is fresh.
  not_fresh : (priority : ℤ) (waiting : List Batch) → list_any (is_fresh_of priority) waiting ≡ false
      → all_pass (may_wait batch any_number) waiting ≡ true → there waiting ≡ true → is_fresh_of priority batch ≡ false
  not_fresh priority [] none may waits = cc waits
  not_fresh priority (first ∷ waiting) none may waits = grind (arith, nat_tests, signed_Decides, not_fresh priority waiting)

  -- one that a batch like it goes before; a fresh one, if it isn't fresh itself; and one of its number
  behind_like : (first one : Batch) → eqb first.number batch.number ≡ true → meets (may_wait batch any_number) first ≡ true
      → goes_before first one ≡ true → goes_before one batch ≡ false
  behind_like first one same may goes = grind (arith, nat_tests, signed_Decides)

  behind_retried : (priority : ℤ) (one : Batch) → is_fresh_of priority one ≡ true → is_fresh_of priority batch ≡ false
      → int_lt batch.priority priority ≡ false → goes_before one batch ≡ false
  behind_retried priority one is not_so not_above = grind (arith, nat_tests, signed_Decides)

  not_before_itself : (one : Batch) → eqb one.number batch.number ≡ true → meets (may_wait batch any_number) one ≡ true
      → goes_before one batch ≡ false
  not_before_itself one same may = grind (arith, nat_tests, signed_Decides)

  behind : (priority : ℤ) (waiting : List Batch) → IsInService waiting → all_pass (may_wait batch any_number) waiting ≡ true
      → there waiting ≡ true → int_lt batch.priority priority ≡ false
      → IsBehind batch priority waiting
  behind priority [] order may waits not_above place one last at = cc waits
  behind priority (first ∷ waiting) order may waits not_above place one last at =
      by (λ later. behind priority waiting (behind_first first waiting order) parts.1 later not_above) (there waiting) refl
      (last_where (is_fresh_of priority) waiting) refl where
        goes : list_all (goes_before first) waiting ≡ true
        goes = goes_before_all first waiting order

        parts : (meets (may_wait batch any_number) first ≡ true) × (all_pass (may_wait batch any_number) waiting ≡ true)
        parts = and_parts (meets (may_wait batch any_number) first) (all_pass (may_wait batch any_number) waiting) may

        here : there waiting ≡ false → eqb first.number batch.number ≡ true
        here elsewhere = grind (arith, waits, elsewhere)

        by : (there waiting ≡ true → IsBehind batch priority waiting) → (later : Bool) → there waiting ≡ later → (found : Option ℕ)
            → last_where (is_fresh_of priority) waiting ≡ found
            → goes_before one batch ≡ false
        by rest true later (Some k) found = rest later k one found (grind (arith, last, at, found))
        by rest false later (Some k) found =
            behind_like first one (here later) parts.0 (is_in (goes_before first) waiting k one goes (grind (arith, last, at, found)))
        by rest true later None found =
            behind_retried priority one (is_last (is_fresh_of priority) (first ∷ waiting) place one last at)
            (not_fresh priority waiting (none_of (is_fresh_of priority) waiting found) parts.1 later) not_above
        by rest false later None found =
            let it : first ≡ one = grind (arith, last, at, found) in
            subst (λ (b : Batch). goes_before b batch ≡ false) it (not_before_itself first (here later) parts.0)

  -- A CHANGE ENTERS behind it, as long as it waits.
  fresh_behind : (number : ℕ) (priority : ℤ) (change : ℕ) → suc batch.number ≤ number → int_lt batch.priority priority ≡ false
      → goes_before (fresh number priority change) batch ≡ false
  fresh_behind number priority change new not_above = grind (arith, nat_tests, signed_Decides)

  gone_before : (limit : Option ℕ) (priority : ℤ) (change : ℕ) (queue : Queue) → suc batch.number ≤ queue.next
      → there (specs.enqueued limit priority change queue).staging.waiting ≡ true → there queue.staging.waiting ≡ true
  gone_before limit priority change queue next waits = by (there queue.staging.waiting) refl where
    by : (before : Bool) → there queue.staging.waiting ≡ before → before ≡ true
    by true before = refl
    by false before =
        let gone : Gone queue = record { next = next; batches = grind (arith, others batch any_number queue.staging.waiting, before) } in
        let still = followed_still (is_other batch any_number) (any batch any_number) (suc batch.number) Staging
        (new_is_other batch any_number) false true false limit priority change queue gone in
        let all = and_parts (all_pass (is_other batch any_number) (specs.enqueued limit priority change queue).staging.waiting) _
        still.batches in
        cc (sym (sym (others batch any_number (specs.enqueued limit priority change queue).staging.waiting) ∙ all.0) ∙ ap not waits)

  enters : (priority : ℤ) (change : ℕ) (queue : Queue) (end : Lane) → QueueIsInOrder queue → Waits queue → there end.waiting ≡ true
      → Enters batch priority change queue end
  enters priority change queue end order waits later limit entered which leaves not_above =
      let (sorted, still) = its which in
      let before = gone_before limit priority change entered still.next (ap (λ (l : Lane). there l.waiting) leaves ∙ later) in
      omega (
        arith,
        entered_less batch entered.next priority change limit entered.staging.waiting
            (fresh_behind entered.next priority change still.next not_above)
            (behind priority entered.staging.waiting sorted.staging.service (all_may entered still) before not_above),
      ) where
        its : (entered ≡ queue) ⊎ (entered ≡ specs.taken_out Staging (all_but change) queue) → QueueIsInOrder entered × Waits entered
        its (inl same) = (subst QueueIsInOrder (sym same) order, subst Waits (sym same) waits)
        its (inr same) = (
          subst QueueIsInOrder (sym same) ((queue_law queue order).take_out Staging (all_but change)),
          subst Waits (sym same)
              (followed_still (may_wait batch any_number) (may_precede batch any_number) (suc batch.number) Staging
              (new_may_wait batch any_number) true false false limit priority change queue waits),
        )

  -- AN ACT
  lane_leads : (now : ℕ) (running : Option Batch) (waiting : List Batch) → IsInService waiting
      → all_pass (may_wait batch any_number) waiting ≡ true
      → there (lanes.started_beside now running waiting).waiting ≡ true → Leads batch running waiting
  lane_leads now None [] order may waits = tt
  lane_leads now None (first ∷ waiting) order may waits =
      leads first waiting (goes_before_all first waiting order)
      (and_parts (meets (may_wait batch any_number) first) (all_pass (may_wait batch any_number) waiting) may).1 waits
  lane_leads now (Some running) waiting order may waits = tt

  unstarted_waits : (s : State) (act : Act) → Waits s.queue → Waits (unstarted s act)
  unstarted_waits s act waits =
      endures (may_wait batch any_number) (may_precede batch any_number) (suc batch.number) Staging (new_may_wait batch any_number) s act
      waits

  leads_by : (s : State) (act : Act) → Holds s → ActKeepsLimits act → broken (look s.desk) act ≡ None → Waits s.queue
      → there (done s act).state.queue.staging.waiting ≡ true
      → LeadsBy batch act (unstarted s act).staging
  leads_by s (Other (Tick now)) holds limit allowed waits end =
      let past = leb-true s.desk.clock now (passed (leb s.desk.clock now) ClockBack [] allowed).0 in
      let ended = timed_out_both_so holding now (with_desk s (with_clock s.desk now)) (clock_holds s now limit past holds) in
      let queue = unstarted s (Other (Tick now)) in
      lane_leads now queue.staging.running queue.staging.waiting ended.queue.order.staging.service
      (all_may queue (unstarted_waits s (Other (Tick now)) waits)) end
  leads_by s (On change deed) holds limit allowed waits end = tt
  leads_by s (Other fact) holds limit allowed waits end = tt

  enters_by : (s : State) (act : Act) → IsState s → Waits s.queue → there (done s act).state.queue.staging.waiting ≡ true
      → EntersBy batch s act
  enters_by s (On change deed) is waits end =
      enters (priority_on (effect s.desk change deed) change) change s.queue (unstarted s (On change deed)).staging is.queue.order waits end
  enters_by s (Other fact) is waits end = tt

  one_falls : (s : State) (act : Act) → IsState s → ActKeepsLimits act → queues_none_above batch.priority s act ≡ true → Waits s.queue
      → there (after s act).queue.staging.waiting ≡ true
      → (if ends s act then 1 else 0) + Before batch (after s act).queue.staging ≤ Before batch s.queue.staging
  one_falls s act is limit none waits later = after_falls batch s is act (λ allowed.
      let to = meaning (look s.desk) act in
      let end : there (done s to).state.queue.staging.waiting ≡ true = subst
      (λ rule. there (unless_denied rule s (done s to).state).queue.staging.waiting ≡ true) allowed later in
      let holds = (none_both (missing s to) (broken (look s.desk) to) (meaning_allowed s act allowed)).1 in (
        may_enter batch s act allowed none (enters_by s to is waits end),
        leads_by s to (record { desk = is.desk; queue = is.queue })
            (meaning_limits s is act limit) holds waits end,
      ))

  -- ONCE IT IS GONE, it doesn't come back.
  gone_starts : (now : ℕ) (branch : Branch) (queue : Queue) → Gone queue → Gone (specs.started branch now queue)
  gone_starts now branch queue gone = grind arith

  done_gone : (s : State) (act : Act) → Gone s.queue → Gone (done s act).state.queue
  done_gone s (Other (Tick now)) gone =
      gone_starts now Trying _
      (gone_starts now Staging _
      (endures (is_other batch any_number) (any batch any_number) (suc batch.number) Staging (new_is_other batch any_number) s
      (Other (Tick now)) gone))
  done_gone s act gone =
      endures (is_other batch any_number) (any batch any_number) (suc batch.number) Staging (new_is_other batch any_number) s act gone

  all_gone : (s : State) (acts : List Act) → Gone s.queue → Gone (after_all s acts).queue
  all_gone s [] gone = gone
  all_gone s (act ∷ acts) gone =
      all_gone (after s act) acts
      (by_option (λ rule. Gone (unless_denied rule s (acted s act).state).queue) (done_gone s (meaning (look s.desk) act) gone)
      (λ rule. gone) (denial s act))

  not_there : (queue : Queue) → Gone queue → there queue.staging.waiting ≡ false
  not_there queue gone =
      let all = and_parts (all_pass (is_other batch any_number) queue.staging.waiting) _ gone.batches in
      not-true (there queue.staging.waiting) (sym (others batch any_number queue.staging.waiting) ∙ all.0)

  gone_if : (queue : Queue) → suc batch.number ≤ queue.next → there queue.staging.waiting ≡ false → Gone queue
  gone_if queue next out = record { next = next; batches = grind (arith, others batch any_number queue.staging.waiting, out) }

  -- OVER ACTS
  come : (s : State) (acts : List Act) → IsState s → CanCome s acts → each_of (queues_none_above batch.priority) s acts ≡ true
      → Waits s.queue → there (after_all s acts).queue.staging.waiting ≡ true
      → (endings s acts + Before batch (after_all s acts).queue.staging ≤ Before batch s.queue.staging) × Waits (after_all s acts).queue
  come s [] is can none waits there_still = (omega arith, waits)
  come s (act ∷ acts) is (room, limit, can) none waits last =
      let (here, later) = and_parts (queues_none_above batch.priority s act) (each_of (queues_none_above batch.priority) (after s act) acts)
      none in
      by here (come (after s act) acts (still_state s is room act limit) can later)
      (after_keeps batch any_number Staging s act is limit (inl waits)) (there (after s act).queue.staging.waiting) refl where
        t : State
        t = after s act

        end : State
        end = after_all t acts

        by : queues_none_above batch.priority s act ≡ true
            → (Waits t.queue → there end.queue.staging.waiting ≡ true
            → (endings t acts + Before batch end.queue.staging ≤ Before batch t.queue.staging) × Waits end.queue)
            → Waits t.queue ⊎ Gone t.queue → (now : Bool) → there t.queue.staging.waiting ≡ now
            → ((if ends s act then 1 else 0) + endings t acts + Before batch end.queue.staging
            ≤ Before batch s.queue.staging) × Waits end.queue
        by here rest (inl still) true now =
            let (work, waits_on) = rest still last in (omega (arith, one_falls s act is limit here waits now, work), waits_on)
        by here rest (inl still) false now = cc (sym last ∙ not_there end.queue (all_gone t acts (gone_if t.queue still.next now)))
        by here rest (inr gone) now at = cc (sym last ∙ not_there end.queue (all_gone t acts gone))

  -- IF NO WORK IS LEFT before it, it is the first to be served.
  record IsFirst (lane : Lane) : Type 0 where
    first : Batch
    others : List Batch
    leading : lane ≡ record { running = None; waiting = first ∷ others }
    itself : first.number ≡ batch.number

  first_served : (running : Option Batch) (waiting : List Batch) → IfSome running (λ one. has_changes one ≡ true)
      → All (λ one. has_changes one ≡ true) waiting → IsInService waiting
      → all_pass (may_wait batch any_number) waiting ≡ true → there waiting ≡ true
      → Before batch (record { running = running; waiting = waiting }) ≤ 0
      → IsFirst (record { running = running; waiting = waiting })
  first_served (Some one) waiting runs some order may waits none = absurd (omega (arith, some_work batch one runs, none))
  first_served None [] runs some order may waits none = cc waits
  first_served None (first ∷ waiting) runs some order may waits none = by (eqb first.number batch.number) refl where
    by : (it : Bool) → eqb first.number batch.number ≡ it → IsFirst (record { running = None; waiting = first ∷ waiting })
    by true is = record { first = first; others = waiting; leading = refl; itself = (Decides-eqb first.number batch.number).0 is }
    by false is =
        let rest = (and_parts (meets (may_wait batch any_number) first) (all_pass (may_wait batch any_number) waiting) may).1 in
        let before = leads first waiting (goes_before_all first waiting order) rest (grind (arith, waits, is)) in
        absurd (omega (
          arith,
          none,
          sum_by-cons (counts batch) first waiting,
          ap (λ (b : Bool). if b then work_of first else 0) before,
          some_work batch first (All-head (λ one. has_changes one ≡ true) first waiting some),
        ))

pub coming_law : LawOfComing
coming_law s batch acts is can there none waits = record {
  work = all.0;
  runs = λ none_left now past.
      let leading = first_served batch end.queue.staging.running end.queue.staging.waiting (runs_some batch end last)
      (All-weaker (IsWaiting Staging) (λ one. has_changes one ≡ true) (λ one is. is.changes) end.queue.staging.waiting
      last.queue.staging.waiting)
      last.queue.order.staging.service (all_may batch end.queue all.1) waits (omega (arith, none_left)) in
      ap (λ (running : Option Batch). option_map_or (λ (one : Batch). eqb batch.number one.number) running false)
      (first_ordered end last leading.first leading.others leading.leading now past)
      ∙ (Decides-eqb batch.number leading.first.number).1 (sym leading.itself);
} where
  end : State
  end = after_all s acts

  last : IsState end
  last = still_states s acts is can

  start : Waits batch s.queue
  start =
      let order = is.queue.order.staging in
      let most = order.numbers batch.number in
      let some = there_once batch (any_number batch) s.queue.staging.waiting there in
      let uses = all_uses batch.number s.queue.staging in
      let first = begins batch (any_number batch) s.queue.staging.running s.queue.staging.waiting order.service there
      (grind (arith, nat_tests)) (λ one so. refl) in
      record { next = grind (arith, nat_tests); batches = first }

  all : (endings s acts + Before batch end.queue.staging ≤ Before batch s.queue.staging) × Waits batch end.queue
  all = come batch s acts is can none start waits
