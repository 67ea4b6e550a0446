-- The running batch while it is tested, after any act; and the orders of an act, which are right.
use Rattle.std.proofs.Common.{◌≡◌, ◌⊎◌, ℕ, Bool, true, false, not, ◌&&◌, cond, List, [], ◌∷◌, Option, Some, None, is_some, refl, sym, ◌∙◌, ap, subst, inl, inr, arith}
use Rattle.std.proofs.lemmas.List.Elements.{All-nil, All-cons}
use Rattle.std.proofs.lemmas.Slice.Eq.{bytes_eq-Decides}
use Rattle.std.proofs.lemmas.Map.Text.{is_eq-slice_cmp}
use Rattle.std.specs.Cmp.{second_so}
use Rattle.std.specs.Cmp.Lexicographic.{slice_cmp, nat_list_cmp_total}
use Rattle.std.specs.FinMap as finite
use Rattle.std.specs.FinMap.{FinMap, get-insert}
use Rattle.std.specs.Ordering.{nat_cmp}
use Rattle.std.specs.List.{All, list_all, list_any}
use Rattle.std.specs.Option.{option_map, option_map_or}
use Rattle.std.specs.Str.{bytes_eq}
use Rattle.gate_queue.specs.Vocabulary.{SettingsView, Look, look, is_required, Act, Other, Status, StatusState, Success, Pending, Order, Land, Notice, Batch, Staging, Report, StageOf, Lane, State, Outcome}
use Rattle.gate_rules.specs.Rules.{is_approved}
use Rattle.gate_state.specs.Counts.{of_any_priority}
use Rattle.gate_queue.specs.History.{Event, did, gave, given, last_of, said_on, is_bad, settings_back, base_back, fit_back, approval_said, ends, standing_back, approvers_back, look_back, IsRightOrder, IsRightLanding}
use Rattle.gate_state.specs.Lanes.{is_landing, with_report, reported_on, to_land as lanes_to_land, restarted, requeued, failed, has_succeeded}
use Rattle.gate_queue.specs.Machine.{quiet, with_queue, accepted, has_passed, land_order, to_land, if_passed, goes_on, passing}
use Rattle.gate_state.specs.Queue as specs
use Rattle.gate_state.specs.declared.batch.Report.TheVariants as report
use Rattle.gate_state.specs.declared.batch.Stage.TheVariants as stage
use Rattle.gate_queue.proofs.Keeping.{lands, none_landing}
use Rattle.gate_queue.proofs.Held.{Holds}
use Rattle.gate_queue.proofs.States.{queued_there}
use Rattle.gate_queue.proofs.Steps.{AreNotices, Runs}
use Rattle.gate_queue.proofs.Tested.{Tests, TestsAt, IsOrdered, IsReported, AllStand, Leaves, EndNone, tests_next, still_at, notice_tests, as_reported, ordered_here, reported_here, is_tested, are_ready, still_right}
use Rattle.gate_queue.proofs.Choosing.{either_way}

-- STANDING. A change that stands was approved, so it has approvers.
standing_said : (events : List Event) (change : ℕ) → standing_back events change ≡ true → is_some (last_of (said_on change approval_said) events) ≡ true
standing_said [] change is = cc is
standing_said (event ∷ events) change is = grind (arith, standing_said events change)

pub standing_approved : (events : List Event) (change : ℕ) → is_some (approvers_back events change) ≡ standing_back events change
standing_approved events change = let said = standing_said events change in grind arith

standing_of : (events : List Event) (c : ℕ) → is_approved (look_back events) c ≡ true → standing_back events c ≡ true
standing_of events c is = let said = standing_approved events c in grind arith

-- The changes of a running batch stand, unless it is landing.
pub stands_all : (events : List Event) (s : State) → Holds s → look s.desk ≡ look_back events → (batch : Batch) → s.queue.staging.running ≡ Some batch → is_landing batch.stage ≡ false → AllStand events batch
stands_all events s is same batch runs not_so c there =
    let none = none_landing of_any_priority c s.queue.staging.running s.queue.staging.waiting (ap lands runs ∙ not_so) in
    let lands = is.queue.staging.landing c in
    let queued = queued_there s is batch runs c there in
    standing_of events c (ap (λ (l : Look). is_approved l c) (sym same) ∙ grind arith)

given_stand : (orders : List Order) (events : List Event) (batch : Batch) → AreNotices orders → AllStand (given events orders) batch → AllStand events batch
given_stand [] events batch are stand = stand
given_stand (Notice change why ∷ orders) events batch are stand =
    λ c there. second_so (not (ends c (gave (Notice change why)) events) && fit_back (gave (Notice change why) ∷ events) c) (standing_back events c)
    (given_stand orders (gave (Notice change why) ∷ events) batch are stand c there)
given_stand (other ∷ orders) events batch are stand = absurd are

-- nothing is said of a batch that is landing
landing_tests : (events : List Event) (batch : Batch) (at : StageOf) → is_landing at ≡ true → TestsAt events batch at
landing_tests events batch (stage.Landing commit) so = tt
landing_tests events batch at so = cc so

pub notices_tests : (orders : List Order) (events : List Event) (running : Option Batch) → AreNotices orders → Tests events running → Tests (given events orders) running
notices_tests [] events running are is = is
notices_tests (Notice change why ∷ orders) events running are is = notices_tests orders (gave (Notice change why) ∷ events) running are (notice_tests events change why running is)
notices_tests (other ∷ orders) events running are is = absurd are

-- AN ACT that has nothing to do with it, and gives notices
pub act_tests : (events : List Event) (act : Act) (orders : List Order) (old : Option Batch) (t : State) → ((batch : Batch) → old ≡ Some batch → Leaves events (did act) batch.number batch.stage)
    → AreNotices orders → Holds t
    → look t.desk ≡ look_back (given (did act ∷ events) orders) → Runs old t.queue.staging.running → Tests events old → Tests (given (did act ∷ events) orders) t.queue.staging.running
act_tests events act orders old t leaves are is same runs tests = by t.queue.staging.running refl runs where
  by : (running : Option Batch) → t.queue.staging.running ≡ running → Runs old running → Tests (given (did act ∷ events) orders) running
  by None at runs = tt
  by (Some batch) at (inr none) = cc none.0
  by (Some batch) at (inl as_before) = on (is_landing batch.stage) refl where
    on : (b : Bool) → is_landing batch.stage ≡ b → Tests (given (did act ∷ events) orders) (Some batch)
    on true so = landing_tests (given (did act ∷ events) orders) batch batch.stage so
    on false so =
        notices_tests orders (did act ∷ events) (Some batch) are
        (tests_next events (did act) batch (still_at events act batch (given_stand orders (did act ∷ events) batch are (stands_all (given (did act ∷ events) orders) t is same batch at so)))
        (leaves batch (sym as_before)) (subst (Tests events) (sym as_before) tests))

-- none runs, or one that is landing
untested : (events : List Event) (running : Option Batch) → (running ≡ None) ⊎ (lands running ≡ true) → Tests events running
untested events None so = tt
untested events (Some batch) (inl none) = cc none
untested events (Some batch) (inr so) = landing_tests events batch batch.stage so

pub restarted_tests : (events : List Event) (number : ℕ) (lane : Lane) → Tests events (restarted number lane).running
restarted_tests events number lane = untested events (restarted number lane).running (grind arith)

pub failed_tests : (events : List Event) (number : ℕ) (lane : Lane) → Tests events (failed number lane).running
failed_tests events number lane = untested events (failed number lane).running (grind arith)

pub requeued_tests : (events : List Event) (stays : ℕ → Bool) (number : ℕ) (lane : Lane) → Tests events (requeued stays number lane).running
requeued_tests events stays number lane = untested events (requeued stays number lane).running (grind arith)

-- a name among those that have all succeeded
among : (reports : FinMap (slice_cmp nat_cmp) Report) (name : List ℕ) (names : List (List ℕ)) → list_any (bytes_eq name) names ≡ true → list_all (has_succeeded reports) names ≡ true → has_succeeded reports name ≡ true
among reports name [] there all = cc there
among reports name (n ∷ names) there all =
    let same = (bytes_eq-Decides name n).0 in
    grind (arith, among reports name names)

-- A STATUS that isn't bad, of the batch that is tested
abbrev pub report_of : Report → StatusState
report_of report.Success = Success
report_of report.Pending = Pending

module _ (events : List Event) (s : State) (commit name : List ℕ) (r : Report) (is : Holds s) (same : look s.desk ≡ look_back (did (Other (Status commit name (report_of r))) ∷ events))
    (batch : Batch) (runs : s.queue.staging.running ≡ Some batch) (since : ℕ) (staged_as : List ℕ) (reports : FinMap (slice_cmp nat_cmp) Report) (at : batch.stage ≡ stage.Staged since staged_as reports) (of : bytes_eq commit staged_as ≡ true)
    (required : is_required s.desk.settings name ≡ true) (tests : IsOrdered events batch × IsReported events batch.number staged_as reports) where
  abbrev after_it : List Event
  after_it = did (Other (Status commit name (report_of r))) ∷ events

  stand : AllStand after_it batch
  stand = stands_all after_it s is same batch runs (ap is_landing at)

  not_bad : (r : Report) → is_bad (report_of r) ≡ false
  not_bad r = grind arith

  means : (r : Report) → r ≡ report.Success → report_of r ≡ Success
  means r so = ap report_of so

  as_staged : staged_as ≡ commit
  as_staged = sym ((bytes_eq-Decides commit staged_as).0 of)

  both_after : IsOrdered after_it batch × IsReported after_it batch.number staged_as (finite.insert reports name r)
  both_after = (
    ordered_here events batch staged_as commit name (report_of r) (not_bad r) as_staged stand tests.0,
    reported_here events batch staged_as commit name (report_of r) (not_bad r) as_staged stand reports r (means r) tests.1,
  )

  abbrev told_state : State
  told_state = with_queue s (specs.reported Staging name r s.queue)

  -- its stage then
  told_stage : (reported_on name r batch).stage ≡ stage.Staged since staged_as (finite.insert reports name r)
  told_stage = ap (with_report name r) at

  kept_on : Tests after_it told_state.queue.staging.running
  kept_on =
      subst (λ (o : Option Batch). Tests after_it (option_map (reported_on name r) o)) (sym runs)
      (subst (λ (l : StageOf). TestsAt after_it (reported_on name r batch) l) (sym told_stage)
      (rebuilt both_after)) where
        rebuilt : IsOrdered after_it batch × IsReported after_it batch.number staged_as (finite.insert reports name r)
            → IsOrdered after_it (reported_on name r batch) × IsReported after_it batch.number staged_as (finite.insert reports name r)
        rebuilt b = (as_reported after_it batch (reported_on name r batch).stage b.0, b.1)

  told_running : told_state.queue.staging.running ≡ Some (reported_on name r batch)
  told_running = ap (option_map (reported_on name r)) runs

  pub goes_on_tests : Tests (given after_it (goes_on Staging name r s).orders) (goes_on Staging name r s).state.queue.staging.running
  goes_on_tests =
      let later = reported_on name r batch in
      let landing : (es : List Event) → Tests es (option_map lanes_to_land told_state.queue.staging.running) = λ es. rw told_running (rw at tt) in
      subst (λ (running : Option Batch). Tests (given after_it (if_passed Staging told_state running).orders) (if_passed Staging told_state running).state.queue.staging.running) (sym told_running)
      (either_way (λ (o : Outcome). Tests (given after_it o.orders) o.state.queue.staging.running) (has_passed s.desk.settings later.stage) (passing Staging later told_state) (quiet told_state)
      (λ passes. landing (given after_it (to_land later told_state).orders)) (λ fails. kept_on))

  -- THE ORDER TO LAND, if all required statuses have succeeded: this one was a success, and the batch is tested.
  only_success : (reports_then : FinMap (slice_cmp nat_cmp) Report) → finite.get reports_then name ≡ Some r → has_passed s.desk.settings (stage.Staged since staged_as reports_then) ≡ true → r ≡ report.Success
  only_success reports_then here passes = by s.desk.settings required passes where
    by : (settings : Option SettingsView) → is_required settings name ≡ true → has_passed settings (stage.Staged since staged_as reports_then) ≡ true → r ≡ report.Success
    by None required passes = cc required
    by (Some settings) required passes = grind (arith, here, among reports_then name settings.status required passes)

  name_is : finite.get (finite.insert reports name r) name ≡ Some r
  name_is = get-insert nat_list_cmp_total reports name r name ∙ ap (λ (b : Bool). cond b (Some r) (finite.get reports name)) (is_eq-slice_cmp name name ∙ (bytes_eq-Decides name name).1 refl)

  lands_rightly : (base : List ℕ) (settings : SettingsView) → s.desk.base ≡ Some base → s.desk.settings ≡ Some settings → list_all (has_succeeded (finite.insert reports name r)) settings.status ≡ true → r ≡ report.Success
      → IsRightLanding (gave (Land batch.number base staged_as) ∷ after_it) (Other (Status commit name (report_of r))) batch.number base staged_as
  lands_rightly base settings based accepted all success =
      let present : base_back after_it ≡ Some base = ap (λ (l : Look). l.base) (sym same) ∙ based in
      let under_them : settings_back after_it ≡ Some settings = ap (λ (l : Look). l.settings) (sym same) ∙ accepted in
      record {
        name = name;
        success = λ i. Other (Status ((sym as_staged) i) name (means r success i));
        tested = is_tested after_it batch since base staged_as (finite.insert reports name r) settings both_after under_them present all stand;
        ready = are_ready after_it batch since base staged_as (finite.insert reports name r) settings both_after under_them present all stand;
      }

  -- whatever notices that end no approval come after it
  module _ (later : List Order) (none : EndNone later) where
    abbrev AreRight : List Order → Type 0
    AreRight orders = All (IsRightOrder (given (given after_it orders) later) (Other (Status commit name (report_of r)))) orders

    land_right : has_passed s.desk.settings (reported_on name r batch).stage ≡ true → AreRight (land_order s.desk batch.number (reported_on name r batch).stage)
    land_right passes =
        subst (λ (l : StageOf). AreRight (land_order s.desk batch.number l)) (sym told_stage)
        (by s.desk.base refl s.desk.settings refl (ap (has_passed s.desk.settings) (sym told_stage) ∙ passes)) where
          by : (base : Option (List ℕ)) → s.desk.base ≡ base → (settings : Option SettingsView) → s.desk.settings ≡ settings → has_passed s.desk.settings (stage.Staged since staged_as (finite.insert reports name r)) ≡ true
              → AreRight (option_map_or (λ b. Land batch.number b staged_as ∷ []) base [])
          by None based settings accepted passed = All-nil _
          by (Some base) based None accepted passed =
              cc (sym (ap (λ (o : Option SettingsView). has_passed o (stage.Staged since staged_as (finite.insert reports name r))) accepted) ∙ passed)
          by (Some base) based (Some settings) accepted passed =
              All-cons (IsRightOrder (given (gave (Land batch.number base staged_as) ∷ after_it) later) (Other (Status commit name (report_of r)))) (Land batch.number base staged_as) []
              (still_right later (gave (Land batch.number base staged_as) ∷ after_it) (Other (Status commit name (report_of r))) batch.number base staged_as none
              (lands_rightly base settings based accepted
              (sym (ap (λ (o : Option SettingsView). has_passed o (stage.Staged since staged_as (finite.insert reports name r))) accepted) ∙ passed)
              (only_success (finite.insert reports name r) name_is passed)))
              (All-nil (IsRightOrder (given (gave (Land batch.number base staged_as) ∷ after_it) later) (Other (Status commit name (report_of r)))))

    pub goes_on_right : AreRight (goes_on Staging name r s).orders
    goes_on_right =
        let reported = reported_on name r batch in
        subst (λ (running : Option Batch). AreRight (if_passed Staging told_state running).orders) (sym told_running)
        (either_way (λ (o : Outcome). AreRight o.orders) (has_passed s.desk.settings reported.stage) (passing Staging reported told_state) (quiet told_state) land_right
        (λ fails. All-nil (IsRightOrder (given after_it later) (Other (Status commit name (report_of r))))))
