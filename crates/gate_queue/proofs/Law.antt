-- THE LAW OF THE HISTORY: after every legal history the rules read the desk and the history alike, what is landing and tested is
-- what the history says, and each order is right.
use Rattle.std.proofs.Common.{◌≡◌, ◌≤◌, ℕ, ℤ, eqb, leb, ◌&&◌, ◌||◌, Bool, true, false, not, if◌then◌else◌, List, [], ◌∷◌, ◌++◌, length, Option, Some, None, is_some, Result, Ok, Err, refl, sym, ◌∙◌, ap, subst, inl, arith}
use Rattle.std.proofs.lemmas.Bool.{leb-true, or_left, or_right}
use Rattle.std.proofs.lemmas.Bool.Decides.{nat_tests, Decides-eqb}
use Rattle.std.proofs.lemmas.List.Elements.{All-nil, All-cons, All-head, All-append, All-weaker}
use Rattle.std.proofs.lemmas.List.Sums.{sum_by-cons}
use Rattle.std.specs.Cmp.{signed_Decides}
use Rattle.std.specs.Cmp.Lexicographic.{slice_cmp}
use Rattle.std.specs.FinMap as finite
use Rattle.std.specs.FinMap.{get-empty}
use Rattle.std.specs.List.{All, filter_map, cons_option, list_any}
use Rattle.std.specs.Option.{option_and_then, option_map, option_map_or, option_or, unwrap_or}
use Rattle.std.specs.Ordering.{nat_cmp, int_eq}
use Rattle.std.proofs.Math.Bool.{or-false}
use Rattle.gate_text.specs.Same.{same_settings-is}
use Rattle.gate_queue.specs.Vocabulary.{SettingsView, settings_of, same_settings, SettingsFault, Look, DeskView, empty_desk, with_clock, look, is_required, Change, Nobody, Rule, ClockBack, NoSuchBatch, Act, On, Other, Deed, Role, Settings, Base, Staged, Conflict, Status, Refused, Tick, StatusState, Success, Pending, Order, Notice, Reply, Denied, Why, Batch, Branch, Staging, Trying, Report, StageOf, Lane, Outcome, State, Head, Queue}
use Rattle.gate_state.specs.State.{IsMoment, approved_on, landing_on, trying_on, priority_on, IsState}
use Rattle.gate_state.specs.Counts.{occurs, in_landing, held, held_by, of_any_priority, uses}
use Rattle.gate_state.specs.Acts.{ActKeepsLimits}
use Rattle.gate_state.specs.declared.reply.Why.TheVariants as why
use Rattle.gate_queue.specs.History.{Entry, Event, did, gave, given, ends_why, happened, events_of, author_back, settings_back, base_back, heads_back, phase_back, labels_back, reviews_back, standing_back, approvers_back, landing_back, trying_back, approvers_on, change_back, look_back, stages, keeps_order, IsStandingAt, AreRightHeads, IsRightOrder, Legal, HasStayed, OrderTells, StageTells, RunningTells, StateTells, EntryTells, entry_of, orders_in, denied_by}
use Rattle.gate_state.specs.Lanes as lanes
use Rattle.gate_state.specs.Lanes.{batches_of, is_landing}
use Rattle.gate_queue.specs.Machine.{broken, heads_told, denial, meaning, acted, missing, on_either, has_ordered, is_ordered, has_staged, is_staged_with, empty_state, answered, quiet, then_next, about, with_desk, with_queue, effect, notices, are_present, under, accepted, lone, lone_notices, failing, ordered_on, has_passed, goes_on, told_of, told, lands_with, sent_back, has_overdue, timed_out, head_on, starting, done, reply_to, unless_denied, after, ending, passing, on_both, told_on, told_as, lone_on, if_passed}
use Rattle.gate_state.specs.Queue as specs
use Rattle.gate_state.specs.Queue.{lane_of}
use Rattle.gate_state.specs.Service.{IsAlone}
use Rattle.gate_state.specs.declared.batch.Report.TheVariants as report
use Rattle.gate_state.specs.declared.batch.Stage.TheVariants as stage
use Rattle.gate_queue.proofs.Choosing.{either_way, by_option}
use Rattle.gate_queue.proofs.After.{standing_fit}
use Rattle.gate_queue.proofs.Doing.{about_are, accepted_are, status_kept, clock_kept, done_kept, fact_kept}
use Rattle.gate_queue.proofs.Fitness.{opened_so, passed, unless_so}
use Rattle.gate_queue.proofs.Meaning.{meaning_allowed, meaning_right}
use Rattle.gate_state.specs.Lemmas.Numbers.{all_uses}
use Rattle.gate_queue.proofs.Held.{Holds, heads_told_holds}
use Rattle.gate_queue.proofs.States.{clock_holds, holding, starting_holds, still_clock, running_ready, still_state, queued_held, tried_held, IsNow}
use Rattle.gate_queue.proofs.Steps.{Kept, AreNotices, IsNext, stage_on, given_both, other_number, first_headed, first_used, first_kind, tries_left_staging, starting_kept, keeping, followed_runs, by_start, Numbered}
use Rattle.gate_queue.proofs.Tested.{Tests, TestsAt, IsHead, IsOrdered, IsAt, EndNone, stage_tests, other_tests, staged_tests, unasked, elsewhere_told}
use Rattle.gate_queue.proofs.Testing.{standing_approved, stands_all, report_of, notices_tests, act_tests, restarted_tests, failed_tests, requeued_tests, goes_on_tests, goes_on_right}
use Rattle.gate_queue.proofs.Unseen.{Unseen, nothing_unseen, blank_phase, blank_landing, blank_trying}
use Rattle.gate_queue.proofs.Wording.{none_both}
use Rattle.gate_state.specs.Room.{HasRoom}
use Rattle.gate_queue.proofs.Keeping.{some_there}
use Rattle.gate_queue.proofs.Told.{timed_out_both_so}

-- WHAT A LEGAL HISTORY KEEPS with its state
record Whole (events : List Event) (s : State) : Type 0 where
  kept : Kept events s
  tests : Tests events s.queue.staging.running

-- RIGHT ORDERS
notices_right : (events : List Event) (act : Act) (orders : List Order) → AreNotices orders → All (IsRightOrder events act) orders
notices_right events act [] are = All-nil (IsRightOrder events act)
notices_right events act (Notice change why ∷ orders) are = All-cons (IsRightOrder events act) (Notice change why) orders tt (notices_right events act orders are)
notices_right events act (other ∷ orders) are = absurd are

lone_are : (why : Why) (one : Option ℕ) → AreNotices (lone_notices why one)
lone_are why = by_option (λ one. AreNotices (lone_notices why one)) tt (λ n. tt)

both_are : (first second : List Order) → AreNotices first → AreNotices second → AreNotices (first ++ second)
both_are [] second one other = other
both_are (Notice change why ∷ first) second one other = both_are first second one other
both_are (order ∷ first) second one other = absurd one

end_none_are : (orders : List Order) → EndNone orders → AreNotices orders
end_none_are [] none = tt
end_none_are (Notice change why ∷ orders) none = end_none_are orders none.1
end_none_are (other ∷ orders) none = absurd none

-- WHAT IS DONE TO TRIES leaves the other branch, and gives notices that end no approval.
record IsAside (s : State) (is : Outcome) : Type 0 where
  staging : is.state.queue.staging ≡ s.queue.staging
  orders : EndNone is.orders

quiet_aside : (s : State) → IsAside s (quiet s)
quiet_aside s = record { staging = refl; orders = tt }

ending_aside : (s : State) (why : Why) → ends_why why ≡ false → IsAside s (ending Trying why s)
ending_aside s why goes = record { staging = refl; orders = by_option (λ one. EndNone (lone_notices why one)) tt (λ n. (goes, tt)) (lone_on Trying s) }

told_on_aside : (s : State) (commit name : List ℕ) (state : StatusState) → IsAside s (told_on commit name state Trying s)
told_on_aside s commit name state =
    either_way (IsAside s) (has_staged commit s.queue.trying) (told_of Trying name state s) (quiet s) (λ there. of state) (λ elsewhere. quiet_aside s) where
      passed_by : (t : State) → t.queue.staging ≡ s.queue.staging → (running : Option Batch) → IsAside s (if_passed Trying t running)
      passed_by t same None = record { staging = same; orders = tt }
      passed_by t same (Some batch) =
          either_way (IsAside s) (has_passed t.desk.settings batch.stage) (passing Trying batch t) (quiet t)
          (λ passes. record { staging = same; orders = (ending_aside t why.TryPassed refl).orders }) (λ fails. record { staging = same; orders = tt })

      goes : (r : Report) → IsAside s (goes_on Trying name r s)
      goes r = let after = with_queue s (specs.reported Trying name r s.queue) in passed_by after refl after.queue.trying.running

      of : (said : StatusState) → IsAside s (told_of Trying name said s)
      of Success = goes report.Success
      of Pending = goes report.Pending
      of bad = ending_aside s why.TryFailed refl

-- one step after the other
then_tests : (events : List Event) (first : Outcome) (next : State → Outcome)
    → Tests (given (given events first.orders) (next first.state).orders) (next first.state).state.queue.staging.running
    → Tests (given events (then_next first next).orders) (then_next first next).state.queue.staging.running
then_tests events first next = given_both (λ es. Tests es (next first.state).state.queue.staging.running) events first.orders (next first.state).orders

aside_tests : (events : List Event) (s : State) (is : Outcome) → IsAside s is → Tests events s.queue.staging.running → Tests (given events is.orders) is.state.queue.staging.running
aside_tests events s is aside tests =
    subst (λ (l : Lane). Tests (given events is.orders) l.running) (sym aside.staging)
    (notices_tests is.orders events s.queue.staging.running (end_none_are is.orders aside.orders) tests)

-- THE END OF A BATCH that fails, or takes too long, leaves what is tested, and gives notices.
ended_tests : (branch : Branch) (cause : Why) (events : List Event) (s : State) → Tests events s.queue.staging.running
    → Tests (given events (failing branch cause s).orders) (failing branch cause s).state.queue.staging.running
ended_tests Staging cause events s tests = failed_tests (given events (failing Staging cause s).orders) s.queue.next s.queue.staging
ended_tests Trying cause events s tests = notices_tests (failing Trying cause s).orders events s.queue.staging.running (lone_are why.TryFailed (lone_on Trying s)) tests

abbrev IsEnded : List Event → Outcome → Type 0
IsEnded events is = AreNotices is.orders × Tests (given events is.orders) is.state.queue.staging.running

timed_out_ended : (now : ℕ) (branch : Branch) (events : List Event) (s : State) → Tests events s.queue.staging.running → IsEnded events (timed_out now branch s)
timed_out_ended now branch events s tests =
    either_way (IsEnded events) (has_overdue now s.desk.settings (lane_of branch s.queue)) (failing branch why.TimedOut s) (quiet s)
    (λ overdue. (lone_are (told_as branch why.TimedOut) (lone_on branch s), ended_tests branch why.TimedOut events s tests)) (λ timely. (tt, tests))

timed_out_both_ended : (now : ℕ) (events : List Event) (s : State) → Tests events s.queue.staging.running → IsEnded events (on_both (timed_out now) s)
timed_out_both_ended now events s tests =
    let late = timed_out now Staging s in
    let first = timed_out_ended now Staging events s tests in
    let second = timed_out_ended now Trying (given events late.orders) late.state first.1 in
    (both_are late.orders (timed_out now Trying late.state).orders first.0 second.0, then_tests events late (timed_out now Trying) second.1)

-- A change of the desk is that of the history.
known_as : (events : List Event) (desk : DeskView) → look desk ≡ look_back events → (n : ℕ) (c : Change) → finite.get desk.changes n ≡ Some c → change_back events n ≡ Some c
known_as events desk same n c is = ap (λ (l : Look). l.change n) (sym same) ∙ is

-- what holds of the head of each change holds of all heads
all_heads : (P : Head → Type 0) (desk : DeskView) (changes : List ℕ)
    → ((n : ℕ) → list_any (eqb n) changes ≡ true → (c : Change) → finite.get desk.changes n ≡ Some c → P (record { change = n; head = c.head })) → All P (filter_map (head_on desk) changes)
all_heads P desk [] each = All-nil P
all_heads P desk (first ∷ changes) each = by (finite.get desk.changes first) refl (all_heads P desk changes (λ n there. each n (or_right (eqb n first) (list_any (eqb n) changes) there))) where
  by : (had : Option Change) → finite.get desk.changes first ≡ had → All P (filter_map (head_on desk) changes)
      → All P (cons_option (option_map (λ (x : Change). record { change = first; head = x.head }) had) (filter_map (head_on desk) changes))
  by None is others = others
  by (Some c) is others = All-cons P _ (filter_map (head_on desk) changes) (each first (or_left _ _ ((Decides-eqb first first).1 refl)) c is) others

-- THE FIRST WAITING BATCH of a branch is ordered rightly; and on `Staging` it is tested from then on.
module _ (s : State) (is : Holds s) (batch : Batch) (waiting : List Batch) (idle : IsNext s.queue.staging batch waiting) where
  -- a change of it is approved, and has its priority
  its_changes : (c : ℕ) → 1 ≤ occurs c batch.changes → (approved_on s.desk c ≡ true) × (priority_on s.desk c ≡ batch.priority)
  its_changes c some =
      let held_first = λ (test : ℤ → Bool). ap (λ (l : Lane). held test c l) idle ∙ sum_by-cons (held_by test c) batch waiting in
      let all = held_first of_any_priority in
      let others = held_first (λ (p : ℤ). not (int_eq p (priority_on s.desk c))) in
      let none_lands : in_landing of_any_priority c s.queue.staging ≡ 0 = ap (λ (l : Lane). in_landing of_any_priority c l) idle in
      let queued = queued_held s is c (omega (arith, all, some)) in
      let landing = is.queue.staging.landing c in
      let priorities = is.queue.staging.priorities c in
      (grind arith, sym ((signed_Decides batch.priority (priority_on s.desk c)).0 (grind arith)))

  heads_right : (events : List Event) → look s.desk ≡ look_back events → All (IsStandingAt events batch.priority) (filter_map (head_on s.desk) batch.changes)
  heads_right events same = all_heads (IsStandingAt events batch.priority) s.desk batch.changes (λ n there c at.
      let its = its_changes n (some_there n batch.changes there) in
      let known = known_as events s.desk same n c at in
      let said = standing_approved events n in
      grind arith)

  -- at its head
  heads_at : (events : List Event) → look s.desk ≡ look_back events → All (IsAt events batch) (filter_map (head_on s.desk) batch.changes)
  heads_at events same = all_heads (IsAt events batch) s.desk batch.changes (λ n there c at. let known = known_as events s.desk same n c at in (there, grind arith))

-- a try has one change, which is tried
try_heads : (events : List Event) (desk : DeskView) (changes : List ℕ) → look desk ≡ look_back events → length changes ≡ 1
    → ((c : ℕ) → 1 ≤ occurs c changes → trying_on desk c ≡ true) → AreRightHeads events Trying (filter_map (head_on desk) changes)
try_heads events desk [] same alone tried = cc alone
try_heads events desk (first ∷ second ∷ changes) same alone tried = absurd (omega (arith, alone))
try_heads events desk (first ∷ []) same alone tried = by (finite.get desk.changes first) refl (tried first (omega (arith, some_there first (first ∷ []) (or_left _ _ ((Decides-eqb first first).1 refl))))) where
  by : (had : Option Change) → finite.get desk.changes first ≡ had → option_map_or (λ (x : Change). x.trying) had false ≡ true
      → AreRightHeads events Trying (cons_option (option_map (λ (x : Change). record { change = first; head = x.head }) had) [])
  by None here trying = cc trying
  by (Some c) here trying =
      let known = known_as events desk same first c here in
      (record { change = first; head = c.head }, refl, grind arith)

first_heads : (branch : Branch) (s : State) → Holds s → (batch : Batch) (waiting : List Batch) → IsNext (lane_of branch s.queue) batch waiting
    → (events : List Event) → look s.desk ≡ look_back events → AreRightHeads events branch (filter_map (head_on s.desk) batch.changes)
first_heads Staging s is batch waiting idle events same = (batch.priority, heads_right s is batch waiting idle events same)
first_heads Trying s is batch waiting idle events same =
    try_heads events s.desk batch.changes same
    (All-head IsAlone batch waiting (subst (λ (l : Lane). All IsAlone l.waiting) idle is.queue.alone.waiting))
    (λ c some. tried_held s is c
    (omega (arith, ap (λ (l : Lane). held of_any_priority c l) idle, sum_by-cons (held_by of_any_priority c) batch waiting, some)))

starting_right : (now : ℕ) (branch : Branch) (events : List Event) (s : State) (act : Act) → Holds s → look s.desk ≡ look_back events
    → All (IsRightOrder events act) (starting now branch s).orders
starting_right now branch events s act is same =
    by_start now branch s is (All (IsRightOrder events act)) (λ still. All-nil (IsRightOrder events act)) (λ batch waiting base at based.
    All-cons (IsRightOrder events act) (stage_on s.desk batch base) [] (
      ap (λ (l : Look). l.base) (sym same) ∙ based,
      first_headed branch s is batch waiting at,
      subst (λ (br : Branch). AreRightHeads events br (filter_map (head_on s.desk) batch.changes)) (sym (first_kind branch s is batch waiting at).branch)
          (first_heads branch s is batch waiting at events same),
    )
    (All-nil (IsRightOrder events act)))

other_way : (a b : ℕ) → eqb a b ≡ false → eqb b a ≡ false
other_way a b differs = grind (arith, nat_tests)

starting_tests : (now : ℕ) (branch : Branch) (events : List Event) (s : State) → Holds s → Kept events s → Tests events s.queue.staging.running
    → Tests (given events (starting now branch s).orders) (starting now branch s).state.queue.staging.running
starting_tests now branch events s is kept tests =
    by_start now branch s is (λ orders. Tests (given events orders) (specs.started branch now s.queue).staging.running) (λ still. subst (Tests events) (sym still) tests) (λ batch waiting base. first_tests batch waiting base branch) where
      first_tests : (batch : Batch) (waiting : List Batch) (base : List ℕ) (b : Branch) → IsNext (lane_of b s.queue) batch waiting → s.desk.base ≡ Some base
          → Tests (gave (stage_on s.desk batch base) ∷ events) (specs.started b now s.queue).staging.running
      first_tests batch waiting base Staging idle based =
          subst (λ (l : Lane). Tests (gave (stage_on s.desk batch base) ∷ events) (lanes.started now l).running) (sym idle)
          (stage_tests events now batch base (filter_map (head_on s.desk) batch.changes) (first_kind Staging s is batch waiting idle).branch
          (ap (λ (l : Look). l.base) (sym kept.same) ∙ based) (heads_at s is batch waiting idle events kept.same))
      first_tests batch waiting base Trying idle based =
          other_tests events batch.number batch.branch base (filter_map (head_on s.desk) batch.changes) s.queue.staging.running
          (λ running runs. other_way batch.number running.number (other_number s is batch.number (first_used s.queue.trying batch waiting idle).1 running runs)) tests

-- A STATUS, after the open changes were told of it whose head its commit is
module _ (events : List Event) (s : State) (commit name : List ℕ) (is : Holds s) (tests : Tests events s.queue.staging.running) (accepted : s.desk.settings ≡ settings_back events) where
  abbrev as_told : StatusState → List Event
  as_told state = did (Other (Status commit name state)) ∷ events

  -- the orders are right, and stay so after notices that end no approval
  abbrev IsTold : StatusState → Outcome → List Order → Type 0
  IsTold state told later =
      Tests (given (as_told state) told.orders) told.state.queue.staging.running
      × All (IsRightOrder (given (given (as_told state) told.orders) later) (Other (Status commit name state))) told.orders

  told_of_whole : (state : StatusState) (later : List Order) → EndNone later → is_required s.desk.settings name ≡ true → has_staged commit s.queue.staging ≡ true
      → look s.desk ≡ look_back (as_told state) → IsTold state (told_of Staging name state s) later
  told_of_whole state later none required there same = of state same where
    goes : (r : Report) → look s.desk ≡ look_back (as_told (report_of r)) → IsTold (report_of r) (goes_on Staging name r s) later
    goes r same = on s.queue.staging.running refl there tests where
      on : (running : Option Batch) → s.queue.staging.running ≡ running → option_map_or (λ (batch : Batch). is_staged_with commit batch.stage) running false ≡ true → Tests events running
          → IsTold (report_of r) (goes_on Staging name r s) later
      on None runs so tests = cc so
      on (Some batch) runs so tests = at batch.stage refl so tests where
        at : (l : StageOf) → batch.stage ≡ l → is_staged_with commit l ≡ true → TestsAt events batch l → IsTold (report_of r) (goes_on Staging name r s) later
        at (stage.Staged since other reports) stands so tests = (
          goes_on_tests events s commit name r is same batch runs since other reports stands so required tests,
          goes_on_right events s commit name r is same batch runs since other reports stands so required tests later none,
        )
        at other stands so tests = cc so

    failed_whole : (said : StatusState) → IsTold said (failing Staging (why.Failed name) s) later
    failed_whole said =
        let orders = (failing Staging (why.Failed name) s).orders in (
          failed_tests (given (as_told said) orders) s.queue.next s.queue.staging,
          notices_right (given (given (as_told said) orders) later) (Other (Status commit name said)) orders (lone_are (why.Failed name) (lone s.queue.staging.running)),
        )

    of : (said : StatusState) → look s.desk ≡ look_back (as_told said) → IsTold said (told_of Staging name said s) later
    of Success same = goes report.Success same
    of Pending same = goes report.Pending same
    of bad same = failed_whole bad

  told_staging_whole : (state : StatusState) (later : List Order) → EndNone later → is_required s.desk.settings name ≡ true → look s.desk ≡ look_back (as_told state)
      → IsTold state (told_on commit name state Staging s) later
  told_staging_whole state later none required same =
      either_way (λ (o : Outcome). IsTold state o later) (has_staged commit s.queue.staging) (told_of Staging name state s) (quiet s) (λ there. told_of_whole state later none required there same)
      (λ elsewhere. (
        act_tests events (Other (Status commit name state)) [] s.queue.staging.running s
            (λ batch runs. elsewhere_told events commit name state batch.number batch.stage
            (sym (ap (λ (o : Option Batch). option_map_or (λ (b : Batch). is_staged_with commit b.stage) o false) runs) ∙ elsewhere)) tt is same (inl refl) tests,
        All-nil (IsRightOrder (given (as_told state) later) (Other (Status commit name state))),
      ))

  told_whole : (state : StatusState) → look s.desk ≡ look_back (as_told state) → IsTold state (told commit name state s) []
  told_whole state same =
      either_way (λ (o : Outcome). IsTold state o []) (is_required s.desk.settings name) (on_both (told_on commit name state) s) (quiet s) both
      (λ required. (
        act_tests events (Other (Status commit name state)) [] s.queue.staging.running s
            (λ batch runs. unasked events commit name state batch.number batch.stage (ap (λ (o : Option SettingsView). is_required o name) (sym accepted) ∙ required))
            tt is same (inl refl) tests,
        All-nil (IsRightOrder (as_told state) (Other (Status commit name state))),
      )) where
        both : is_required s.desk.settings name ≡ true → IsTold state (on_both (told_on commit name state) s) []
        both required =
            let first = told_on commit name state Staging s in
            let later = told_on commit name state Trying first.state in
            let aside = told_on_aside first.state commit name state in
            let one = told_staging_whole state later.orders aside.orders required same in (
              then_tests (as_told state) first (told_on commit name state Trying) (aside_tests (given (as_told state) first.orders) first.state later aside one.0),
              given_both (λ es. All (IsRightOrder es (Other (Status commit name state))) (first.orders ++ later.orders)) (as_told state) first.orders later.orders
                  (All-append (IsRightOrder (given (given (as_told state) first.orders) later.orders) (Other (Status commit name state))) first.orders later.orders one.1
                  (notices_right (given (given (as_told state) first.orders) later.orders) (Other (Status commit name state)) later.orders (end_none_are later.orders aside.orders))),
            )

-- NEW SETTINGS
settings_tests : (events : List Event) (s : State) (text : List ℕ) (read : Result SettingsView SettingsFault) → settings_of text ≡ read → Holds s → Whole events s
    → look (accepted s read).state.desk ≡ look_back (given (did (Other (Settings text)) ∷ events) (accepted s read).orders)
    → Tests (given (did (Other (Settings text)) ∷ events) (accepted s read).orders) (accepted s read).state.queue.staging.running
settings_tests events s text read at is whole = of read at where
  after : List Event
  after = did (Other (Settings text)) ∷ events

  -- that are not read, or the present ones
  same_tests : keeps_order (did (Other (Settings text))) events ≡ true → settings_back after ≡ settings_back events → look s.desk ≡ look_back after → Tests after s.queue.staging.running
  same_tests ordered settings same =
      act_tests events (Other (Settings text)) [] s.queue.staging.running s
      (λ batch runs. grind arith) tt is same (inl refl) whole.tests

  of : (r : Result SettingsView SettingsFault) → settings_of text ≡ r → look (accepted s r).state.desk ≡ look_back (given after (accepted s r).orders) → Tests (given after (accepted s r).orders) (accepted s r).state.queue.staging.running
  of (Err fault) at = same_tests (rw at refl) (rw at refl)
  of (Ok settings) at =
      either_way (λ (o : Outcome). look o.state.desk ≡ look_back (given after o.orders) → Tests (given after o.orders) o.state.queue.staging.running) (are_present s.desk settings) (quiet s) (under settings s)
      (λ present.
      let there = ap (λ (l : Look). option_map_or (λ (p : SettingsView). same_settings p settings) l.settings false) (sym whole.kept.same) ∙ present in
      same_tests (rw at there) (rw at (equal (settings_back events) there)))
      (λ new same. restarted_tests (given after (under settings s).orders) _ _) where
        equal : (present : Option SettingsView) → option_map_or (λ (p : SettingsView). same_settings p settings) present false ≡ true → Some settings ≡ present
        equal None so = cc so
        equal (Some present) so = ap Some (sym (same_settings-is present settings so))

-- a number under which a batch runs is used
runs_used : (number : ℕ) (lane : Lane) → has_ordered number lane ≡ true → 1 ≤ uses number (batches_of lane)
runs_used number lane there = let all = all_uses number lane in grind arith

-- ANY ACT
module _ (events : List Event) (s : State) (is : Holds s) (whole : Whole events s) where
  -- a batch that was ordered is staged, on its branch
  staged_whole : (number : ℕ) (commit : List ℕ) → on_either (has_ordered number) s.queue ≡ true → look s.desk ≡ look_back (did (Other (Staged number commit)) ∷ events) → (b : Bool)
      → has_ordered number s.queue.staging ≡ b → Tests (did (Other (Staged number commit)) ∷ events) (specs.staged (if b then Staging else Trying) s.desk.clock commit s.queue).staging.running
  staged_whole number commit there same false elsewhere =
      act_tests events (Other (Staged number commit)) [] s.queue.staging.running s
      (λ batch runs.
      let other = other_way number batch.number (other_number s is number (runs_used number s.queue.trying on_trying) batch runs) in
      grind arith) tt is same (inl refl) whole.tests where
        on_trying : has_ordered number s.queue.trying ≡ true
        on_trying = ap (λ (b : Bool). b || has_ordered number s.queue.trying) (sym elsewhere) ∙ there
  staged_whole number commit there same true here = by s.queue.staging.running refl here whole.tests where
    by : (running : Option Batch) → s.queue.staging.running ≡ running → option_map_or (λ (batch : Batch). eqb number batch.number && is_ordered batch.stage) running false ≡ true → Tests events running
        → Tests (did (Other (Staged number commit)) ∷ events) (option_map (lanes.staged_at s.desk.clock commit) running)
    by None runs so tests = tt
    by (Some batch) runs so tests = at (eqb number batch.number) refl batch.stage refl so tests where
      at : (b : Bool) → eqb number batch.number ≡ b → (l : StageOf) → batch.stage ≡ l → (b && is_ordered l) ≡ true → TestsAt events batch l
          → Tests (did (Other (Staged number commit)) ∷ events) (Some (lanes.staged_at s.desk.clock commit batch))
      at true same_number (stage.Ordered since) stands so tests =
          staged_tests events s.desk.clock number commit batch (stands_all (did (Other (Staged number commit)) ∷ events) s is same batch runs (ap is_landing stands)) ((Decides-eqb number batch.number).0 same_number) tests
      at b same_number l stands so tests = cc so

  abbrev Comes : Act → Outcome → Type 0
  Comes act to = Tests (given (did act ∷ events) to.orders) to.state.queue.staging.running × All (IsRightOrder (given (did act ∷ events) to.orders) act) to.orders

  abbrev Then : Act → Type 0
  Then act = Comes act (done s act)

  -- a deed on a change, which leaves what runs or stops it
  about_then : (n : ℕ) (deed : Deed) → Holds (about s n deed).state → Kept (given (did (On n deed) ∷ events) (about s n deed).orders) (about s n deed).state → Comes (On n deed) (about s n deed)
  about_then n deed later kept =
      let act = On n deed in (
        act_tests events act (notices s.desk n deed) s.queue.staging.running (about s n deed).state (λ batch runs. grind arith) (about_are s.desk n deed) later kept.same
            (followed_runs s.desk (effect s.desk n deed) n s.queue) whole.tests,
        notices_right (given (did act ∷ events) (about s n deed).orders) act (notices s.desk n deed) (about_are s.desk n deed),
      )

  -- a batch that was ordered can't be staged
  given_up_then : (number : ℕ) (branch : Branch) → broken (look s.desk) (Other (Conflict number)) ≡ None → Comes (Other (Conflict number)) (failing branch why.Conflict s)
  given_up_then number branch holds =
      let act = Other (Conflict number) in
      let same = (fact_kept events s is whole.kept (Conflict number) refl (λ c. refl) (λ other. refl) holds).same in
      let orders : List Order = (failing branch why.Conflict s).orders in (
        ended_tests branch why.Conflict (did act ∷ events) s
            (act_tests events act [] s.queue.staging.running s (λ batch runs. grind arith) tt is same (inl refl) whole.tests),
        notices_right (given (did act ∷ events) orders) act orders (lone_are (told_as branch why.Conflict) (lone_on branch s)),
      )

  tick_then : (now : ℕ) → IsMoment now → broken (look s.desk) (Other (Tick now)) ≡ None → Kept (given (did (Other (Tick now)) ∷ events) (done s (Other (Tick now))).orders) (done s (Other (Tick now))).state → Then (Other (Tick now))
  tick_then now limit holds last =
      let act = Other (Tick now) in
      let t = with_desk s (with_clock s.desk now) in
      let set = clock_holds s now limit (leb-true s.desk.clock now (passed (leb s.desk.clock now) ClockBack [] holds).0) is in
      let first = clock_kept events s is whole.kept now holds in
      let ended = on_both (timed_out now) t in
      let e = ended.state in
      let e_is : IsNow now e = (still_clock now t, timed_out_both_so holding now t set) in
      let one = starting now Staging e in
      let one_is = starting_holds now Staging e e_is in
      let ended_events : List Event = given (did act ∷ events) ended.orders in
      let ended_kept = (timed_out_both_so keeping now t set).1 (did act ∷ events) first in
      let one_kept = starting_kept now Staging ended_events e e_is.1 ended_kept in
      let ticked =
      act_tests events act [] s.queue.staging.running t (λ batch runs. grind arith) tt set first.same (inl refl) whole.tests in
      let both_ended = timed_out_both_ended now (did act ∷ events) t ticked in
      let all_events : List Event = given (did act ∷ events) (done s act).orders in (
        then_tests (did act ∷ events) ended (on_both (starting now))
            (then_tests ended_events one (starting now Trying)
            (starting_tests now Trying (given ended_events one.orders) one.state one_is.1 one_kept (starting_tests now Staging ended_events e e_is.1 ended_kept both_ended.1))),
        All-append (IsRightOrder all_events act) ended.orders (on_both (starting now) e).orders (notices_right all_events act ended.orders both_ended.0)
            (All-append (IsRightOrder all_events act) one.orders (starting now Trying one.state).orders
            (starting_right now Staging all_events e act e_is.1 last.same) (starting_right now Trying all_events one.state act one_is.1 last.same)),
      )

  done_then : (act : Act) → ((now : ℕ) → act ≡ Other (Tick now) → IsMoment now) → missing s act ≡ None → broken (look s.desk) act ≡ None → Holds (done s act).state
      → Kept (given (did act ∷ events) (done s act).orders) (done s act).state → Then act
  done_then (On n deed) limit there holds later kept = about_then n deed later kept
  done_then (Other (Role person role)) limit there holds later kept = (
    act_tests events (Other (Role person role)) [] s.queue.staging.running (done s (Other (Role person role))).state
        (λ batch runs. grind arith) tt later kept.same (inl refl) whole.tests,
    All-nil (IsRightOrder (did (Other (Role person role)) ∷ events) (Other (Role person role))),
  )
  done_then (Other (Settings text)) limit there holds later kept = (
    settings_tests events s text (settings_of text) refl is whole kept.same,
    notices_right (given (did (Other (Settings text)) ∷ events) (accepted s (settings_of text)).orders) (Other (Settings text)) (accepted s (settings_of text)).orders (accepted_are s (settings_of text)),
  )
  done_then (Other (Base base)) limit there holds later kept =
      let back = sent_back (Some base) s in (
        subst (λ (l : Lane). Tests (did (Other (Base base)) ∷ events) l.running) (sym (tries_left_staging (lands_with base s.queue.staging) back.desk back.queue))
            (requeued_tests (did (Other (Base base)) ∷ events) (approved_on back.desk) s.queue.next s.queue.staging),
        All-nil (IsRightOrder (did (Other (Base base)) ∷ events) (Other (Base base))),
      )
  done_then (Other (Staged batch commit)) limit there holds later kept = (
    staged_whole batch commit (unless_so (on_either (has_ordered batch) s.queue) NoSuchBatch there) kept.same (has_ordered batch s.queue.staging) refl,
    All-nil (IsRightOrder (did (Other (Staged batch commit)) ∷ events) (Other (Staged batch commit))),
  )
  done_then (Other (Conflict batch)) limit there holds later kept = given_up_then batch (ordered_on batch s.queue) holds
  done_then (Other (Status commit name state)) limit there holds later kept =
      told_whole events (heads_told commit name state s) commit name (heads_told_holds s commit name state is) whole.tests (ap (λ (l : Look). l.settings) whole.kept.same) state
      (status_kept events s is whole.kept commit name state).same
  done_then (Other (Refused batch)) limit there holds later kept =
      (requeued_tests (did (Other (Refused batch)) ∷ events) _ s.queue.next s.queue.staging, All-nil (IsRightOrder (did (Other (Refused batch)) ∷ events) (Other (Refused batch))))
  done_then (Other (Tick now)) limit there holds later kept = tick_then now (limit now refl) holds kept

-- ENTRIES
empty_look : look empty_desk ≡ look_back []
empty_look = λ i. record {
  role = λ person. unwrap_or (get-empty (slice_cmp nat_cmp) person i) Nobody;
  change = λ change. get-empty nat_cmp change i;
  settings = None;
  base = None;
  clock = 0;
}

-- the reading of a tick that is done is within the limit, as the clock is then
moment_of : (s : State) (act : Act) → Holds (done s act).state → (now : ℕ) → act ≡ Other (Tick now) → IsMoment now
moment_of s act later now at =
    let same : (done s act).state.desk.clock ≡ now = ap (λ (a : Act). (done s a).state.desk.clock) at ∙ still_clock now (with_desk s (with_clock s.desk now)) in
    subst IsMoment same later.desk.clock

whole_by : (events : List Event) (old : State) (act : Act) → IsState old → Whole events old → (rule : Option Rule) → denial old act ≡ rule → IsState (unless_denied rule old (acted old act).state)
    → Whole (happened events act (answered rule (acted old act).orders)) (unless_denied rule old (acted old act).state)
    × All (IsRightOrder (happened events act (answered rule (acted old act).orders)) act) (orders_in (answered rule (acted old act).orders))
whole_by events old act is whole (Some rule) denied later = (whole, All-nil (IsRightOrder events act))
whole_by events old act is whole None holds later =
    let means = meaning (look old.desk) act in
    let both = none_both (missing old means) (broken (look old.desk) means) (meaning_allowed old act holds) in
    let was : Holds old = record { desk = is.desk; queue = is.queue } in
    let will : Holds (done old means).state = record { desk = later.desk; queue = later.queue } in
    let kept = done_kept events old was whole.kept means (moment_of old means will) both.0 both.1 in
    let then_is = done_then events old was whole means (moment_of old means will) both.0 both.1 will kept in
    subst (λ (l : Look). Whole (given (did (meaning l act) ∷ events) (acted old act).orders) (acted old act).state
    × All (IsRightOrder (given (did (meaning l act) ∷ events) (acted old act).orders) act) (acted old act).orders)
    whole.kept.same
    (record { kept = kept; tests = then_is.0 }, meaning_right (given (did means ∷ events) (done old means).orders) (look old.desk) act (done old means).orders then_is.1)

whole_next : (events : List Event) (old : State) (act : Act) → IsState old → IsState (after old act) → Whole events old
    → Whole (happened events act (reply_to old act)) (after old act) × All (IsRightOrder (happened events act (reply_to old act)) act) (orders_in (reply_to old act))
whole_next events old act is later whole = whole_by events old act is whole (denial old act) refl later

-- each state of a legal history is one
legal_state : (history : List Entry) (s : State) → Legal history s → IsState s
legal_state [] s legal = legal.1
legal_state (entry ∷ history) s legal = legal.3

empty_whole : (s : State) → s ≡ empty_state s.queue.next → Whole [] s
empty_whole s empty = subst (Whole []) (sym empty) (record {
  kept = record {
    same = empty_look;
    unseen = nothing_unseen;
    numbered = record { once = λ number. omega arith; lands = λ number. omega arith };
    landing = λ number. refl;
    members = tt;
  };
  tests = tt;
})

keeps : (history : List Entry) (s : State) → Legal history s → Whole (events_of history) s
keeps [] s legal = empty_whole s legal.0
keeps (entry ∷ history) s legal =
    let before = legal.0 in
    let is = legal_state history before legal.1 in
    let later = subst IsState legal.2.1 legal.3 in
    let next = whole_next (events_of history) before entry.act is later (keeps history before legal.1) in
    subst (λ (reply : Reply). Whole (happened (events_of history) entry.act reply) s) (sym legal.2.0)
    (subst (λ (t : State). Whole (happened (events_of history) entry.act (reply_to before entry.act)) t) (sym legal.2.1) next.0)

unchanged : (old done : State) (given_orders : List Order) (broke : Option Rule) (rule : Rule) → answered broke given_orders ≡ Denied rule → unless_denied broke old done ≡ old
unchanged old done given_orders broke rule denied = grind arith

rule_answered : (rule : Option Rule) (given_orders : List Order) → denied_by (answered rule given_orders) ≡ rule
rule_answered rule given_orders = grind arith

-- the approvers of a change that was opened; one that wasn't is never standing
approved_there : (events : List Event) (change : ℕ) → Unseen events change → option_and_then (λ (c : Change). c.approved) (change_back events change) ≡ approvers_back events change
approved_there events change unseen =
    let blank = λ (none : author_back events change ≡ None). blank_phase events change (unseen none) in
    let opened = λ (standing : standing_back events change ≡ true). opened_so (settings_back events) (phase_back events change) (labels_back events change) (reviews_back events change) (standing_fit events change standing) in
    grind arith

-- whether one is landing, or tried
landing_there : (events : List Event) (change : ℕ) → Unseen events change → option_map_or (λ (x : Change). x.landing) (change_back events change) false ≡ landing_back events change
landing_there events change unseen = let blank = λ (is : author_back events change ≡ None). blank_landing events change (unseen is) in grind arith

trying_there : (events : List Event) (change : ℕ) → Unseen events change → option_map_or (λ (x : Change). x.trying) (change_back events change) false ≡ trying_back events change
trying_there events change unseen = let blank = λ (is : author_back events change ≡ None). blank_trying events change (unseen is) in grind arith

stages_once : (events : List Event) (queue : Queue) → Numbered events queue → (number : ℕ) → stages number events ≤ 1
stages_once events queue numbered number = let few = numbered.once number in grind arith

-- the batch that runs on staging, if it is ordered or staged
module _ (events : List Event) (s : State) (is : Holds s) (kept : Kept events s) (batch : Batch) (runs : s.queue.staging.running ≡ Some batch) where
  stayed : (staged : Head) → IsHead events batch staged → HasStayed events batch.number staged
  stayed staged its = record { head = its.head; unmoved = its.unmoved }

  order_told : IsOrdered events batch → OrderTells events batch.number
  order_told was =
      by_option (λ base. base_back events ≡ base → OrderTells events batch.number) (λ none. absurd (cc (none, based))) (λ base present. record {
        base = base;
        present = present;
        ordered = was.ordered base present;
        once = stages_once events s.queue kept.numbered batch.number;
        heads = All-weaker (IsHead events batch) (HasStayed events batch.number) stayed (heads_back events batch.number) was.heads;
      }) (base_back events) refl where
        based : is_some (base_back events) ≡ true
        based = sym (ap (λ (l : Look). is_some l.base) kept.same) ∙ (running_ready s is batch runs).1

  stage_told : (at : StageOf) → TestsAt events batch at → StageTells events batch.number at
  stage_told stage.Waiting tests = tt
  stage_told (stage.Ordered since) tests = order_told tests
  stage_told (stage.Staged since commit reports) tests = (order_told tests.0, tests.1.staged)
  stage_told (stage.Landing commit) tests = tt

running_told : (events : List Event) (s : State) → Holds s → Kept events s → Tests events s.queue.staging.running → RunningTells events s.queue.staging.running
running_told events s is kept = by s.queue.staging.running refl where
  by : (running : Option Batch) → s.queue.staging.running ≡ running → Tests events running → RunningTells events running
  by None runs tests = tt
  by (Some batch) runs tests = stage_told events s is kept batch runs batch.stage tests

-- the state that a legal history led to
state_told : (history : List Entry) (s : State) → IsState s → Whole (events_of history) s → StateTells history s
state_told history s is whole =
    let now = events_of history in
    let kept = whole.kept in
    let same = kept.same in
    let approvers : (change : ℕ) → approvers_on s.desk change ≡ approvers_back now change =
    λ change. ap (λ (l : Look). option_and_then (λ (c : Change). c.approved) (l.change change)) same ∙ approved_there now change (kept.unseen change) in
    let stands : (change : ℕ) → approved_on s.desk change ≡ standing_back now change =
    λ change. let its = approvers change in let said = standing_approved now change in grind arith in
    let landing : (change : ℕ) → landing_on s.desk change ≡ landing_back now change =
    λ change. ap (λ (l : Look). option_map_or (λ (c : Change). c.landing) (l.change change) false) same ∙ landing_there now change (kept.unseen change) in
    let trying : (change : ℕ) → trying_on s.desk change ≡ trying_back now change =
    λ change. ap (λ (l : Look). option_map_or (λ (c : Change). c.trying) (l.change change) false) same ∙ trying_there now change (kept.unseen change) in
    record {
      roles = λ person. ap (λ (l : Look). l.role person) same;
      settings = ap (λ (l : Look). l.settings) same;
      base = ap (λ (l : Look). l.base) same;
      clock = ap (λ (l : Look). l.clock) same;
      changes = λ change. ap (λ (l : Look). l.change change) same;
      approvers = approvers;
      queued = λ change. is.queue.staging.places change ∙ (λ i. if stands change i || landing change i then 1 else 0);
      landing = λ change. is.queue.staging.landing change ∙ ap {B = ℕ} (λ (b : Bool). if b then 1 else 0) (landing change);
      to_land = kept.landing;
      running = running_told now s (record { desk = is.desk; queue = is.queue }) kept whole.tests;
      tried = λ change. is.queue.trying.places change ∙ ap {B = ℕ} (λ (b : Bool). if b then 1 else 0) (or-false (trying_on s.desk change) ∙ trying change);
    }

pub histories_law : (history : List Entry) (s : State) → Legal history s → StateTells history s
histories_law history s legal = state_told history s (legal_state history s legal) (keeps history s legal)

-- one more entry, after every legal history
pub tells : (history : List Entry) (old : State) (act : Act) → IsState (after old act) → Legal history old → EntryTells history old (entry_of act (reply_to old act)) (after old act)
tells history old act is legal =
    let new = after old act in
    let entry = entry_of act (reply_to old act) in
    let now = events_of (entry ∷ history) in
    let whole = keeps history old legal in
    let next = whole_next (events_of history) old act (legal_state history old legal) is whole in
    let numbered = next.0.kept.numbered in
    let once = stages_once now new.queue numbered in
    record {
      state = state_told (entry ∷ history) new is next.0;
      staged_once = once;
      landed_once = λ number. omega (arith, numbered.lands number, once number);
      ordered_rightly = next.1;
      by_rule =
          rule_answered (denial old act) (acted old act).orders
          ∙ ap (λ (s : Look). option_or (missing old act) (broken s act)) whole.kept.same;
      denied = λ rule denied. unchanged old _ (acted old act).orders (denial old act) rule denied;
      legal = (old, legal, (refl, refl), is);
    }

pub entries_law : (history : List Entry) (old : State) (act : Act) → Legal history old → HasRoom old.queue → ActKeepsLimits act
    → EntryTells history old (entry_of act (reply_to old act)) (after old act)
entries_law history old act legal room limits = tells history old act (still_state old (legal_state history old legal) room act limits) legal
