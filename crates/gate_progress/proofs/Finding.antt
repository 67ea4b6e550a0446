-- A change that is in the running batch is found, or lands, after few endings: as long as a batch has it, the first to be served counts.
use Rattle.std.proofs.Common.{◌≡◌, ◌≤◌, ◌<◌, ◌+◌, ◌-◌, ◌*◌, ◌&&◌, ◌||◌, if◌then◌else◌, int_lt, ℕ, zero, suc, ℤ, eqb, leb, Bool, true, false, List, [], ◌∷◌, length, Option, Some, None, IfSome, is_some, refl, sym, ◌∙◌, ap, subst, arith}
use Rattle.std.proofs.lemmas.Bool.{and_parts, leb-true}
use Rattle.std.proofs.lemmas.Bool.Decides.{nat_tests}
use Rattle.std.proofs.lemmas.List.Elements.{All-head, All-tail}
use Rattle.std.proofs.lemmas.List.Sums.{sum_by-cons}
use Rattle.std.specs.Cmp.{signed_Decides}
use Rattle.std.specs.List.{list_all, list_any, sum_by}
use Rattle.std.specs.Option.{option_map_or}
use Rattle.std.specs.Ordering.{int_eq}
use Rattle.gate_rules.specs.Rules.{is_landed}
use Rattle.gate_queue.specs.Machine.{after, broken, done, effect, has_running, meaning, missing, unless_denied, with_desk}
use Rattle.gate_queue.specs.Progress.{CanCome, after_all, each_of, fails}
use Rattle.gate_progress.specs.Coming.{endings, ends, queues_none_above, work_of}
use Rattle.gate_progress.specs.Finding.{LawOfFinding, finds, is_alone_in, some_of, work_until}
use Rattle.gate_progress.specs.Halving.{IsConfined, is_in, is_spared_by, leaves_alone}
use Rattle.gate_queue.specs.Vocabulary.{Act, Batch, ClockBack, Lane, On, Other, Queue, Staging, State, Tick, look, with_clock}
use Rattle.gate_state.specs.Acts.{ActKeepsLimits}
use Rattle.gate_state.specs.Counts.{held, held_by, of_any_priority}
use Rattle.gate_state.specs.Lanes.{fresh, goes_before, has_changes, is_fresh_of}
use Rattle.gate_state.specs.Lemmas.Counts.{start_law}
use Rattle.gate_state.specs.Service.{IsInService}
use Rattle.gate_state.specs.State.{IsState, approved_on, is_not, priority_on}
use Rattle.gate_queue.proofs.Fitness.{passed}
use Rattle.gate_queue.proofs.Held.{Holds}
use Rattle.gate_queue.proofs.Keeping.{none_there, some_there}
use Rattle.gate_queue.proofs.Meaning.{meaning_allowed, meaning_limits}
use Rattle.gate_queue.proofs.States.{clock_holds, holding, still_state, still_states}
use Rattle.gate_queue.proofs.Told.{timed_out_both_so}
use Rattle.gate_queue.proofs.Wording.{none_both}
use Rattle.gate_progress.proofs.Coming.{EntersBy, LeadsBy, after_falls, first_ordered, is_last, may_enter}
use Rattle.gate_progress.proofs.Confined.{AllWait, Waits, after_confined, confining}
use Rattle.gate_progress.proofs.Enduring.{unstarted}
use Rattle.gate_progress.proofs.Halving.{confined_at_first, none_held, wait_if_none}
use Rattle.gate_progress.proofs.Priced.{after_priced, pricing}
use Rattle.gate_progress.proofs.Sparing.{Stands, after_stands, is_alone, is_its_lone, stands_is}
use Rattle.gate_progress.proofs.Turns.{goes_before_all}
use Rattle.gate_progress.proofs.Work.{Before, EntersBehind, Leads, counts, entered_less, runs_some, some_work}

module _ (change : ℕ) (priority : ℤ) where
  -- THE MARK goes before each fresh batch of the priority, and behind each retried one.
  abbrev mark : Batch
  mark = fresh 0 priority change

  abbrev holds : Batch → ℕ
  holds batch = held_by of_any_priority change batch

  -- of another priority
  abbrev otherwise : Batch → ℕ
  otherwise batch = held_by (is_not priority) change batch

  fresh_behind : (number : ℕ) (of : ℤ) (other : ℕ) → int_lt priority of ≡ false → goes_before (fresh number of other) mark ≡ false
  fresh_behind number of other not_above = grind (arith, nat_tests, signed_Decides)

  behind_fresh : (of : ℤ) (one : Batch) → is_fresh_of of one ≡ true → int_lt priority of ≡ false → goes_before one mark ≡ false
  behind_fresh of one is not_above = grind (arith, nat_tests, signed_Decides)

  enters_behind : (limit : Option ℕ) (of : ℤ) (other : ℕ) (queue : Queue) → int_lt priority of ≡ false
      → EntersBehind mark limit of other queue
  enters_behind limit of other queue not_above =
      omega (
        arith,
        entered_less mark queue.next of other limit queue.staging.waiting (fresh_behind queue.next of other not_above)
            (λ place one last at. behind_fresh of one (is_last (is_fresh_of of) queue.staging.waiting place one last at) not_above),
      )

  enters_by : (s : State) (act : Act) → EntersBy mark s act
  enters_by s (On other deed) =
      λ limit entered which leaves not_above. enters_behind limit (priority_on (effect s.desk other deed) other) other entered not_above
  enters_by s (Other fact) = tt

  -- A BATCH THAT HAS THE CHANGE counts, if it waits again under the priority.
  it_counts : (one : Batch) → is_in change one ≡ true → one.again ≡ true → otherwise one ≡ 0 → goes_before one mark ≡ true
  it_counts one there again none =
      let some = some_there change one.changes there in
      let same : int_eq one.priority priority ≡ true = grind (arith, some, none) in
      grind (arith, nat_tests, signed_Decides)

  goes_too : (first one : Batch) → goes_before first one ≡ true → goes_before one mark ≡ true → goes_before first mark ≡ true
  goes_too first one goes counts_too = grind (arith, nat_tests, signed_Decides)

  module _ (size : ℕ) where
    first_counts : (first : Batch) (waiting : List Batch) → list_all (goes_before first) waiting ≡ true → AllWait change size waiting
        → sum_by otherwise waiting ≡ 0 → 1 ≤ sum_by holds waiting
        → goes_before first mark ≡ true
    first_counts first [] goes all none some = absurd (omega (arith, some))
    first_counts first (one ∷ waiting) goes all none some = by (is_in change one) refl (first_counts first waiting) where
      before : (goes_before first one ≡ true) × (list_all (goes_before first) waiting ≡ true)
      before = and_parts (goes_before first one) (list_all (goes_before first) waiting) goes

      by : (here : Bool) → is_in change one ≡ here
          → (list_all (goes_before first) waiting ≡ true → AllWait change size waiting → sum_by otherwise waiting ≡ 0 → 1 ≤ sum_by holds waiting
          → goes_before first mark ≡ true)
          → goes_before first mark ≡ true
      by true there rest =
          goes_too first one before.0
          (it_counts one there (All-head (Waits change size) one waiting all there).0
          (omega (arith, none, sum_by-cons otherwise one waiting)))
      by false out rest =
          rest before.1 (All-tail (Waits change size) one waiting all) (omega (arith, none, sum_by-cons otherwise one waiting))
          (omega (arith, some, sum_by-cons holds one waiting, none_there change one.changes out))

    lane_leads : (running : Option Batch) (waiting : List Batch) → IsInService waiting → AllWait change size waiting
        → held (is_not priority) change (record { running = running; waiting = waiting }) ≡ 0
        → 1 ≤ held of_any_priority change (record { running = running; waiting = waiting }) → Leads mark running waiting
    lane_leads None [] order all none some = tt
    lane_leads None (first ∷ waiting) order all none some = by (is_in change first) refl where
      by : (here : Bool) → is_in change first ≡ here → goes_before first mark ≡ true
      by true there =
          it_counts first there (All-head (Waits change size) first waiting all there).0
          (omega (arith, none, sum_by-cons otherwise first waiting))
      by false out =
          first_counts first waiting (goes_before_all first waiting order) (All-tail (Waits change size) first waiting all)
          (omega (arith, none, sum_by-cons otherwise first waiting))
          (omega (arith, some, sum_by-cons holds first waiting, none_there change first.changes out))
    lane_leads (Some batch) waiting order all none some = tt

    -- so that some work is left, as long as it has a batch
    waits_left : (waiting : List Batch) → AllWait change size waiting → sum_by otherwise waiting ≡ 0 → 1 ≤ sum_by holds waiting
        → 1 ≤ sum_by (counts mark) waiting
    waits_left [] all none some = some
    waits_left (one ∷ waiting) all none some = by (is_in change one) refl (waits_left waiting) where
      some_there_has : (changes : List ℕ) → list_any (eqb change) changes ≡ true → 1 ≤ 2 * length changes - 1
      some_there_has [] there = cc there
      some_there_has (first ∷ changes) there = omega arith

      by : (here : Bool) → is_in change one ≡ here
          → (AllWait change size waiting → sum_by otherwise waiting ≡ 0 → 1 ≤ sum_by holds waiting → 1 ≤ sum_by (counts mark) waiting)
          → 1 ≤ sum_by (counts mark) (one ∷ waiting)
      by true there rest =
          let before = it_counts one there (All-head (Waits change size) one waiting all there).0
          (omega (arith, none, sum_by-cons otherwise one waiting)) in
          omega (
            arith,
            sum_by-cons (counts mark) one waiting,
            ap (λ (b : Bool). if b then work_of one else 0) before,
            some_there_has
                one.changes there,
          )
      by false out rest =
          let later = rest (All-tail (Waits change size) one waiting all) (omega (arith, none, sum_by-cons otherwise one waiting))
          (omega (arith, some, sum_by-cons holds one waiting, none_there change one.changes out)) in
          omega (arith, later, sum_by-cons (counts mark) one waiting)

    some_left : (running : Option Batch) (waiting : List Batch) → IfSome running (λ batch. has_changes batch ≡ true)
        → AllWait change size waiting
        → held (is_not priority) change (record { running = running; waiting = waiting }) ≡ 0
        → 1 ≤ held of_any_priority change (record { running = running; waiting = waiting })
        → 1 ≤ Before mark (record { running = running; waiting = waiting })
    some_left None waiting runs all none some = omega (arith, waits_left waiting all none some)
    some_left (Some batch) waiting runs all none some = omega (arith, some_work mark batch runs)

    -- ONE ACT
    its_price : (s : State) → Holds s → priority_on s.desk change ≡ priority → held (is_not priority) change s.queue.staging ≡ 0
    its_price s is same = ap (λ (p : ℤ). held (is_not p) change s.queue.staging) (sym same) ∙ is.queue.staging.priorities change

    leads_by : (s : State) (act : Act) → Holds s → ActKeepsLimits act → broken (look s.desk) act ≡ None
        → IsConfined change size s.queue.staging → priority_on s.desk change ≡ priority
        → 1 ≤ held of_any_priority change (done s act).state.queue.staging → LeadsBy mark act (unstarted s act).staging
    leads_by s (Other (Tick now)) is limit allowed confined priced some =
        let past = leb-true s.desk.clock now (passed (leb s.desk.clock now) ClockBack [] allowed).0 in
        let t = with_desk s (with_clock s.desk now) in
        let lane = (unstarted s (Other (Tick now))).staging in
        let ended = timed_out_both_so holding now t (clock_holds s now limit past is) in
        let still = timed_out_both_so (confining change size) now t confined in
        let same = timed_out_both_so (pricing change) now t ∙ priced in
        lane_leads lane.running lane.waiting ended.queue.order.staging.service still.waiting (its_price _ ended same)
        (omega (arith, some, start_law of_any_priority now change lane))
    leads_by s (On other deed) is limit allowed confined priced some = tt
    leads_by s (Other fact) is limit allowed confined priced some = tt

    one_falls : (s : State) (act : Act) → IsState s → ActKeepsLimits act → queues_none_above priority s act ≡ true
        → IsConfined change size s.queue.staging → priority_on s.desk change ≡ priority
        → 1 ≤ held of_any_priority change (after s act).queue.staging
        → (if ends s act then 1 else 0) + Before mark (after s act).queue.staging ≤ Before mark s.queue.staging
    one_falls s act is limit none confined priced later = after_falls mark s is act (λ allowed.
        let to = meaning (look s.desk) act in
        let some : 1 ≤ held of_any_priority change (done s to).state.queue.staging = subst
        (λ rule. 1 ≤ held of_any_priority change (unless_denied rule s (done s to).state).queue.staging) allowed later in
        let holds_still = (none_both (missing s to) (broken (look s.desk) to) (meaning_allowed s act allowed)).1 in (
          may_enter mark s act allowed none (enters_by s to),
          leads_by s to (record { desk = is.desk; queue = is.queue })
              (meaning_limits s is act limit) holds_still confined priced some,
        ))

  -- ONCE NO BATCH HAS IT, none will, and it isn't approved.
  none_confined : (running : Option Batch) (waiting : List Batch)
      → held of_any_priority change (record { running = running; waiting = waiting }) ≡ 0
      → IsConfined change 0 (record { running = running; waiting = waiting })
  none_confined None waiting none = record { running = tt; waiting = wait_if_none change 0 waiting none }
  none_confined (Some batch) waiting none =
      let sum = sum_by-cons holds batch waiting in
      record {
        running = λ there. absurd (omega (arith, none, sum, some_there change batch.changes there));
        waiting = wait_if_none change 0
            waiting (omega (arith, none, sum));
      }

  lost : (s : State) (acts : List Act) → IsState s → CanCome s acts → each_of (leaves_alone change) s acts ≡ true
      → IsConfined change 0 s.queue.staging → approved_on (after_all s acts).desk change ≡ false
  lost s [] is can left confined =
      let none = none_held change s.queue.staging confined in
      let places = is.queue.staging.places change in
      grind (arith, none.0)
  lost s (act ∷ acts) is (room, limit, can) left confined =
      let (here, later) = and_parts (leaves_alone change s act) (each_of (leaves_alone change) (after s act) acts) left in
      lost (after s act) acts (still_state s is room act limit) can later (after_confined change 0 s act here confined)

  -- OVER ACTS
  fewer : (size : ℕ) (s : State) (acts : List Act) → IsState s → CanCome s acts → each_of (leaves_alone change) s acts ≡ true
      → each_of (queues_none_above priority) s acts ≡ true
      → IsConfined change size s.queue.staging → priority_on s.desk change ≡ priority → 1 ≤ held of_any_priority change s.queue.staging
      → approved_on (after_all s acts).desk change ≡ true
      → endings s acts < Before mark s.queue.staging
  fewer size s [] is can left none confined priced some approved =
      omega (
        arith,
        some_left size s.queue.staging.running s.queue.staging.waiting (runs_some mark s is) confined.waiting
            (its_price size s (record { desk = is.desk; queue = is.queue }) priced) some,
      )
  fewer size s (act ∷ acts) is (room, limit, can) left none confined priced some approved =
      let (left_here, left_later) = and_parts (leaves_alone change s act) (each_of (leaves_alone change) (after s act) acts) left in
      let (none_here, none_later) = and_parts (queues_none_above priority s act) (each_of (queues_none_above priority) (after s act) acts)
      none in
      let t = after s act in
      let state = still_state s is room act limit in
      by left_here none_here left_later state
      (λ still. fewer size t acts state can left_later none_later (after_confined change size s act left_here confined)
      (after_priced change s act is left_here ∙ priced) still approved)
      (held of_any_priority change t.queue.staging) refl where
        by : leaves_alone change s act ≡ true → queues_none_above priority s act ≡ true
            → each_of (leaves_alone change) (after s act) acts ≡ true → IsState (after s act)
            → (1 ≤ held of_any_priority change (after s act).queue.staging
            → endings (after s act) acts < Before mark (after s act).queue.staging)
            → (count : ℕ) → held of_any_priority change (after s act).queue.staging ≡ count
            → (if ends s act then 1 else 0) + endings (after s act) acts < Before mark s.queue.staging
        by left_here none_here left_later state rest zero at =
            let lane = (after s act).queue.staging in
            cc (sym (lost (after s act) acts state can left_later (none_confined lane.running lane.waiting at)) ∙ approved)
        by left_here none_here left_later state rest (suc more) at =
            let still : 1 ≤ held of_any_priority change (after s act).queue.staging = omega (arith, at) in
            omega (arith, rest still, one_falls size s act is limit none_here confined priced still)

  -- A failure that doesn't find the change isn't of a batch that has it alone.
  not_alone : (batch : Batch) (changes : List ℕ) → is_alone_in change (record batch { changes = changes }) ≡ false
      → is_its_lone change (Some (record batch { changes = changes })) ≡ false
  not_alone batch [] so = refl
  not_alone batch (first ∷ []) so = grind (arith, nat_tests, so)
  not_alone batch (first ∷ second ∷ changes) so = grind (arith, nat_tests)

  lone_is_found : (s : State) (act : Act) → finds change s act ≡ false → fails s act ≡ true → is_alone change Staging s ≡ false
  lone_is_found s act out failed =
      by s.queue.staging.running (sym (ap (λ (b : Bool). b && has_running (is_alone_in change) s.queue.staging) failed) ∙ out) where
        by : (running : Option Batch) → option_map_or (is_alone_in change) running false ≡ false → is_its_lone change running ≡ false
        by None out = refl
        by (Some batch) out = not_alone batch batch.changes out

  all_stand : (s : State) (acts : List Act) → IsState s → CanCome s acts → each_of (is_spared_by change) s acts ≡ true
      → some_of (finds change) s acts ≡ false → Stands change s.desk
      → Stands change (after_all s acts).desk
  all_stand s [] is can spared out stands = stands
  all_stand s (act ∷ acts) is (room, limit, can) spared out stands =
      let (spared_here, spared_later) = and_parts (is_spared_by change s act) (each_of (is_spared_by change) (after s act) acts) spared in
      let (out_here, out_later) = neither (finds change s act) (some_of (finds change) (after s act) acts) out in
      all_stand (after s act) acts (still_state s is room act limit) can spared_later out_later
      (after_stands change s act is spared_here (lone_is_found s act out_here) stands) where
        neither : (one other : Bool) → (one || other) ≡ false → (one ≡ false) × (other ≡ false)
        neither false other so = (refl, so)
        neither true other so = cc so

-- As long as it is approved, it is in a batch, so that the next tick orders one if none runs.
ordered_next : (change : ℕ) (s : State) → IsState s → approved_on s.desk change ≡ true → (running : Option Batch) (waiting : List Batch)
    → s.queue.staging ≡ record { running = running; waiting = waiting } → running ≡ None → (now : ℕ) → s.desk.clock ≤ now
    → is_some (after s (Other (Tick now))).queue.staging.running ≡ true
ordered_next change s is approved (Some one) waiting at free now past = cc free
ordered_next change s is approved None [] at free now past =
    let places = is.queue.staging.places change in
    let none = ap (λ (l : Lane). held of_any_priority change l) at in
    let out : approved_on s.desk change ≡ false = grind (arith, places, none) in
    cc (sym approved ∙ out)
ordered_next change s is approved None (first ∷ others) at free now past = ap is_some (first_ordered s is first others at now past)

pub finding_law : LawOfFinding
finding_law s batch change acts is can runs there approved left none = record {
  fewer = less;
  next = λ still none_runs now past.
      ordered_next change end (still_states s acts is can) still end.queue.staging.running end.queue.staging.waiting refl none_runs now past;
  found = λ spared gone. by spared gone (some_of (finds change) s acts) refl;
} where
  end : State
  end = after_all s acts

  occurs_there : 1 ≤ held_by of_any_priority change batch
  occurs_there = some_there change batch.changes there

  priced : priority_on s.desk change ≡ batch.priority
  priced =
      let none_other = ap (λ (running : Option Batch). held (is_not (priority_on s.desk change)) change
      (record { running = running; waiting = s.queue.staging.waiting })) (sym runs) ∙ is.queue.staging.priorities change in
      let sum = sum_by-cons (held_by (is_not (priority_on s.desk change)) change) batch s.queue.staging.waiting in
      sym ((signed_Decides batch.priority (priority_on s.desk change)).0 (grind (arith, occurs_there, none_other, sum)))

  some : 1 ≤ held of_any_priority change s.queue.staging
  some =
      subst (λ (running : Option Batch). 1 ≤ held of_any_priority change (record { running = running; waiting = s.queue.staging.waiting }))
      (sym runs)
      (omega (arith, occurs_there, sum_by-cons (held_by of_any_priority change) batch s.queue.staging.waiting))

  less : approved_on (after_all s acts).desk change ≡ true → endings s acts < work_until change batch s
  less still =
      fewer change batch.priority (length batch.changes) s acts is can left none
      (confined_at_first change (length batch.changes) s batch is runs there (omega arith)) priced some still

  by : each_of (is_spared_by change) s acts ≡ true → approved_on (after_all s acts).desk change ≡ false → (found : Bool)
      → some_of (finds change) s acts ≡ found → (found || is_landed (look (after_all s acts).desk) change) ≡ true
  by spared gone true found = refl
  by spared gone false found =
      let stands = all_stand change batch.priority s acts is can spared found
      (stands_is change s.desk ∙ ap (λ (b : Bool). b || is_landed (look s.desk) change) approved) in
      sym (ap (λ (b : Bool). b || is_landed (look (after_all s acts).desk) change) gone) ∙
      (sym (stands_is change (after_all s acts).desk) ∙ stands)
