-- The first in service comes onto the main branch.
use Rattle.std.proofs.Common.{◌≡◌, ◌≤◌, ◌&&◌, ◌||◌, not, ℕ, Bool, true, false, List, [], ◌∷◌, ◌++◌, Option, Some, None, is_some, refl, sym, ◌∙◌, ap, subst, append-nil, nat_cmp, unwrap_or, arith}
use Rattle.std.proofs.lemmas.List.Elements.{All-head, Contains-append_left, Contains-append_right}
use Rattle.std.specs.Cmp.Lexicographic.{slice_cmp}
use Rattle.std.specs.FinMap as finite
use Rattle.std.specs.List.{All, Contains, filter_map, flat_map}
use Rattle.std.specs.Option.{option_map_or}
use Rattle.std.specs.Str.{bytes_eq}
use Rattle.gate_text.specs.Limits.{KeepsLimits}
use Rattle.gate_text.specs.Reading.{comment_says}
use Rattle.gate_deliveries.specs.declared.delivery.Delivery.{Delivery}
use Rattle.gate_deliveries.specs.declared.delivery.Event.TheVariants as telling
use Rattle.gate_guard.specs.Duties.{duties_of, duty_of}
use Rattle.gate_guard.specs.Knowing.{events_after, unless_full}
use Rattle.gate_guard.specs.Due.{LawOfDuties}
use Rattle.gate_guard.specs.Moves.{LawOfDelivering}
use Rattle.gate_guard.specs.World.{Checking, KeepsPremise, Merging, Step, main_after, told, told_in}
use Rattle.gate_guard.specs.declared.duty.Duty.TheVariants as duty
use Rattle.gate_guard_progress.specs.Arriving.{Arrives, Course, IsCourse, LawOfArriving, after_landing, after_staging, after_success, after_tick, before_landing, before_staging, before_success, success}
use Rattle.gate_guard_progress.specs.Standing.{acts_after, acts_told, state_after}
use Rattle.gate_progress.specs.Courses.{LawOfSuccesses, all_succeed}
use Rattle.gate_queue.proofs.Progress.{firsts_law, landings_law, passing_law, stagings_law}
use Rattle.gate_queue.specs.History.{gave, orders_in}
use Rattle.gate_queue.specs.Machine.{after, head_on, is_base, reply_to}
use Rattle.gate_queue.specs.Progress.{GivesOrder, after_all, passes_with}
use Rattle.gate_queue.specs.Vocabulary.{Act, Base, Batch, Branch, DeskView, Fact, Head, Lane, Order, Other, Reply, Stage, Staged, Staging, State, Status, Success, Tick, is_landed, is_required, look}
use Rattle.gate_rules.specs.Rules.{is_approved}
use Rattle.gate_state.specs.Counts.{occurs}
use Rattle.gate_state.specs.Lanes.{ordered_at, staged_at}
use Rattle.gate_state.specs.Room.{is_full}
use Rattle.gate_state.specs.State.{IsWaiting}
use Rattle.gate_state.specs.declared.batch.Stage.TheVariants as stage
use Rattle.gate_store.specs.Run.{Records, is_known, meets_full, replies_to}
use Rattle.gate_guard_progress.proofs.Lasting.{RunsOn, all_the_while, due, due_later, duty_now, lasted_over, later_over, to_land_so, to_merge_so, to_test_so}
use Rattle.gate_guard_progress.proofs.Standing.{acts_told-append, is_state, keeps_before, main_told, one_act, state_told, told_room}

-- one fact that is told, if numbers are left
told_one : (before : List Step) (this : Fact) → is_full (state_after before).queue ≡ false → state_after (told (telling.Other this) ∷ before) ≡ after (state_after before) (Other this)
told_one before this room = ap (after_all (state_after before)) (one_act (state_after before) (Other this) room)

-- a commit that isn't the base
no_base : (s : State) (base commit : List ℕ) → s.desk.base ≡ Some base → bytes_eq base commit ≡ false → is_base (look s.desk) commit ≡ false
no_base s base commit based differs = ap (λ (b : Option (List ℕ)). option_map_or (λ base. bytes_eq base commit) b false) based ∙ differs

-- AN ORDER THAT IS GIVEN has come, when what it answers was told.
order_among : (s : State) (act : Act) (order : Order) → GivesOrder act s order → Contains (flat_map orders_in (reply_to s act ∷ [])) order
order_among s act order (front, back, gives) =
    subst (λ (reply : Reply). Contains (flat_map orders_in (reply ∷ [])) order) (sym gives)
    (subst (λ (orders : List Order). Contains orders order) (sym (append-nil (front ++ order ∷ back)))
    (Contains-append_right front (order ∷ back) order (Contains-append_left (order ∷ []) back order (0, omega arith, refl))))

order_comes : LawOfDelivering → (before : List Step) (this : Fact) (order : Order) → is_full (state_after before).queue ≡ false → GivesOrder (Other this) (state_after before) order
    → Contains (events_after (told_in (told (telling.Other this) ∷ before))) (gave order)
order_comes delivering before this order room gives =
    let s = state_after before in
    let records : Records = record { state = s; kept = finite.empty } in
    let delivery : Delivery = record { id = []; event = telling.Other this } in
    let none = finite.get-empty (slice_cmp nat_cmp) [] in
    let new : is_known records [] ≡ false = ap is_some none in
    let met : meets_full records delivery ≡ false = ap (λ (known : Bool). not known && (is_full s.queue || false)) new ∙ ap (λ (full : Bool). full || false) room in
    let came = (delivering records (told_in before) delivery refl new met).come in
    came order (subst (λ (answer : List Reply). Contains (flat_map orders_in answer) order)
    (sym (ap (λ (kept : Option (List Reply)). unwrap_or kept (replies_to s (Other this ∷ []))) none)) (order_among s (Other this) order gives))

-- A COURSE
module _ (delivering : LawOfDelivering) (duties : LawOfDuties) (successes : LawOfSuccesses) (limits : (text : List ℕ) → All KeepsLimits (comment_says text))
    (joins : Merging) (says : Checking) (first : List ℕ) (before : List Step) (course : Course) (is : IsCourse joins says first before course) where
  abbrev number : ℕ
  number = course.batch.number

  abbrev base : List ℕ
  base = course.base

  abbrev commit : List ℕ
  commit = course.commit

  abbrev tick : Fact
  tick = Tick course.now

  abbrev staging : Fact
  staging = Staged number commit

  abbrev passing : Fact
  passing = Status commit course.name Success

  -- NUMBERS ARE LEFT at each of its moments.
  room_success : is_full (state_after (before_success before course)).queue ≡ false
  room_success = told_room (before_success before course) (telling.Other passing ∷ course.until_landed) is.room

  room_staging : is_full (state_after (before_staging before course)).queue ≡ false
  room_staging = told_room (before_staging before course) (telling.Other staging ∷ course.until_passed) room_success

  room_first : is_full (state_after before).queue ≡ false
  room_first = told_room before (telling.Other tick ∷ course.until_staged) room_staging

  -- What was told before it is true.
  keeps_first : KeepsPremise joins says first before
  keeps_first =
      keeps_before joins says first before (telling.Other tick ∷ course.until_staged)
      (keeps_before joins says first (before_staging before course) (telling.Other staging ∷ course.until_passed)
      (keeps_before joins says first (before_success before course) (telling.Other passing ∷ course.until_landed) is.keeps))

  -- IT IS ORDERED.
  abbrev ordered : Batch
  ordered = ordered_at course.now course.batch

  abbrev heads : List Head
  heads = filter_map (head_on (state_after before).desk) course.batch.changes

  on_staging : course.batch.branch ≡ Staging
  on_staging =
      let waits = ap (λ (lane : Lane). lane.waiting) is.waits in
      let each = subst (All (IsWaiting Staging)) waits (is_state limits joins says first before keeps_first).queue.staging.waiting in
      (All-head (IsWaiting Staging) course.batch is.others each).branch

  firsts : GivesOrder (Other tick) (state_after before) (Stage number course.batch.branch base heads)
      × ((after (state_after before) (Other tick)).queue.staging.running ≡ Some ordered)
      × ((after (state_after before) (Other tick)).desk.base ≡ Some base)
  firsts = firsts_law (state_after before) Staging course.batch is.others base course.now is.based is.waits is.clock

  order_came : Contains (events_after (told_in (after_tick before course))) (gave (Stage number Staging base heads))
  order_came =
      subst (λ (branch : Branch). Contains (events_after (told_in (after_tick before course))) (gave (Stage number branch base heads))) on_staging
      (order_comes delivering before tick (Stage number course.batch.branch base heads) room_first firsts.0)

  runs_ordered : RunsOn base ordered (state_after (after_tick before course))
  runs_ordered = subst (RunsOn base ordered) (sym (told_one before tick room_first)) (record { running = firsts.1; base_is = firsts.2 })

  -- IT IS STAGED.
  abbrev awaited : Batch
  awaited = later_over (after_tick before course) course.until_staged ordered

  abbrev at_staging : State
  at_staging = state_after (before_staging before course)

  runs_awaited : RunsOn base awaited at_staging
  runs_awaited = lasted_over (after_tick before course) course.until_staged base ordered runs_ordered is.lasts_ordered

  abbrev staged : Batch
  staged = staged_at at_staging.desk.clock commit awaited

  stagings : ((after at_staging (Other staging)).queue.staging.running ≡ Some staged) × ((after at_staging (Other staging)).desk ≡ at_staging.desk)
  stagings =
      let stood = to_merge_so base number awaited.stage (due_later (after_tick before course) course.until_staged base ordered) in
      let law = stagings_law at_staging awaited stood.0 commit runs_awaited.running stood.1 (no_base at_staging base commit runs_awaited.base_is is.differs) in
      (law.1, law.2)

  at_staged : state_after (after_staging before course) ≡ after at_staging (Other staging)
  at_staged = told_one (before_staging before course) staging room_staging

  runs_staged : RunsOn base staged (state_after (after_staging before course))
  runs_staged =
      subst (RunsOn base staged) (sym at_staged) (record { running = stagings.0; base_is = ap (λ (desk : DeskView). desk.base) stagings.1 ∙ runs_awaited.base_is })

  -- IT PASSES.
  abbrev since_staging : List Act
  since_staging = acts_after (after_staging before course) course.until_passed

  abbrev tested : Batch
  tested = later_over (after_staging before course) course.until_passed staged

  abbrev at_success : State
  at_success = state_after (before_success before course)

  runs_tested : RunsOn base tested at_success
  runs_tested = lasted_over (after_staging before course) course.until_passed base staged runs_staged is.lasts_staged

  -- the acts since the staging, with the success
  with_success : acts_after (after_staging before course) (course.until_passed ++ success course ∷ []) ≡ since_staging ++ Other passing ∷ []
  with_success =
      let s = state_after (after_staging before course) in
      acts_told-append s course.until_passed (success course ∷ [])
      ∙ ap (λ (t : State). since_staging ++ acts_told t (success course ∷ [])) (sym (state_told (after_staging before course) course.until_passed))
      ∙ ap (λ (acts : List Act). since_staging ++ acts) (append-nil (unless_full at_success (Other passing ∷ [])) ∙ one_act at_success (Other passing) room_success)

  succeeds : (is_required at_success.desk.settings course.name ≡ true) × (passes_with at_success (Other passing) ≡ true)
  succeeds =
      let s = state_after (after_staging before course) in
      let set = ap (λ (t : State). t.desk.settings) at_staged ∙ ap (λ (desk : DeskView). desk.settings) stagings.1 ∙ is.set in
      let all = ap (all_succeed is.settings commit) (sym with_success) ∙ is.succeeds in
      let law = successes s staged is.settings at_staging.desk.clock commit course.name since_staging runs_staged.running refl set is.lasts_staged is.required all in
      let at = state_told (after_staging before course) course.until_passed in
      (ap (λ (t : State). is_required t.desk.settings course.name) at ∙ law.0, ap (λ (t : State). passes_with t (Other passing)) at ∙ law.1)

  abbrev passed : Batch
  passed = record tested { stage = stage.Landing commit }

  passes : ((after at_success (Other passing)).queue.staging.running ≡ Some passed) × ((after at_success (Other passing)).desk.base ≡ Some base)
  passes =
      let stood = to_test_so base number commit tested.stage (due_later (after_staging before course) course.until_passed base staged) in
      let law = passing_law at_success tested stood.0 base commit course.name stood.1 runs_tested.running stood.2 runs_tested.base_is succeeds.0 succeeds.1 in
      (law.1, law.2)

  runs_passed : RunsOn base passed (state_after (after_success before course))
  runs_passed = subst (RunsOn base passed) (sym (told_one (before_success before course) passing room_success)) (record { running = passes.0; base_is = passes.1 })

  -- IT LANDS.
  abbrev landing : Batch
  landing = later_over (after_success before course) course.until_landed passed

  abbrev at_landing : State
  at_landing = state_after (before_landing before course)

  runs_landing : RunsOn base landing at_landing
  runs_landing = lasted_over (after_success before course) course.until_landed base passed runs_passed is.lasts_landing

  lands_next : due base landing ≡ Some (duty.Land number base commit)
  lands_next = due_later (after_success before course) course.until_landed base passed

  main_landing : main_after first (before_landing before course) ≡ base
  main_landing =
      main_told first (after_success before course) course.until_landed ∙ main_told first (after_staging before course) course.until_passed
      ∙ main_told first (after_tick before course) course.until_staged ∙ is.main

  keeps_on : KeepsPremise joins says first (after_landing before course)
  keeps_on =
      let told_so = duties joins says first (before_landing before course) is.keeps in
      let land = told_so.land number base commit (duty_now at_landing base landing runs_landing ∙ lands_next) in
      (tt, ((land.ordered, main_landing), is.keeps))

  at_landed : state_after (after_landing before course) ≡ after at_landing (Other (Base commit))
  at_landed = ap (after_all at_landing) (one_act at_landing (Other (Base commit)) is.room)

  landings : ((change : ℕ) → 1 ≤ occurs change course.batch.changes
      → (is_landed (look (after at_landing (Other (Base commit))).desk) change ≡ true) × (is_approved (look (after at_landing (Other (Base commit))).desk) change ≡ false))
      × ((after at_landing (Other (Base commit))).queue.staging.running ≡ None)
  landings =
      let stood = to_land_so base number commit landing.stage lands_next in
      let law =
      landings_law at_landing landing commit (is_state limits joins says first (before_landing before course) is.keeps) runs_landing.running stood
      (no_base at_landing base commit runs_landing.base_is is.differs)
      in
      (law.1, law.2)

  pub arrives : Arrives joins says first before course
  arrives = record {
    ordered = order_came;
    to_merge = all_the_while base ordered (after_tick before course) course.until_staged runs_ordered is.lasts_ordered;
    to_test = all_the_while base staged (after_staging before course) course.until_passed runs_staged is.lasts_staged;
    to_land = all_the_while base passed (after_success before course) course.until_landed runs_passed is.lasts_landing;
    no_more = ap (λ (s : State). (duties_of s).staging) at_landed ∙ ap (duty_of (after at_landing (Other (Base commit))).desk.base) landings.1;
    keeps = keeps_on;
    main = refl;
    landed = λ change within.
        let law = landings.0 change within in
        (ap (λ (s : State). is_landed (look s.desk) change) at_landed ∙ law.0, ap (λ (s : State). is_approved (look s.desk) change) at_landed ∙ law.1);
  }

pub arriving_law : LawOfDelivering → LawOfDuties → LawOfSuccesses → ((text : List ℕ) → All KeepsLimits (comment_says text)) → LawOfArriving
arriving_law delivering duties successes limits joins says first before course is = arrives delivering duties successes limits joins says first before course is
