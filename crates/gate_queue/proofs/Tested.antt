-- What the history says of the running batch while it is tested, step by step, until it is to land.
use Rattle.std.proofs.Common.{◌≡◌, ℕ, eqb, Bool, true, false, not, ◌&&◌, ◌||◌, List, [], ◌∷◌, Option, Some, None, is_some, refl, sym, ◌∙◌, ap, subst, arith, get_or}
use Rattle.std.proofs.lemmas.Bool.Decides.{Decides-eqb}
use Rattle.std.proofs.lemmas.List.Elements.{All-nil, All-cons, All-weaker}
use Rattle.std.proofs.lemmas.Map.Text.{is_eq-slice_cmp}
use Rattle.std.proofs.lemmas.Slice.Eq.{bytes_eq-Decides}
use Rattle.std.specs.Bool.{⊤, then_some}
use Rattle.std.specs.Cmp.Lexicographic.{slice_cmp, nat_list_cmp_total}
use Rattle.std.specs.FinMap as finite
use Rattle.std.specs.FinMap.{FinMap, get-empty, get-insert}
use Rattle.std.specs.List.{All, list_all, list_any}
use Rattle.std.specs.Option.{option_and_then, option_map_or, option_or, unwrap_or}
use Rattle.std.specs.Ordering.{nat_cmp}
use Rattle.std.specs.Str.{bytes_eq}
use Rattle.std.proofs.lemmas.Bool.{or_left, or_right}
use Rattle.std.specs.Cmp.Derive.{both_true}
use Rattle.std.proofs.lemmas.List.Sums.{AllPass-from_list_all}
use Rattle.gate_queue.specs.Vocabulary.{SettingsView, Act, Other, Opened, Pushed, Deed, Happened, Staged, Status, StatusState, Success, Head, Order, Stage, Land, Notice, Why, is_required, Batch, Branch, Staging, Report, StageOf}
use Rattle.gate_state.specs.Acts.{on}
use Rattle.gate_queue.specs.History.{Event, did, gave, last_of, since, said_by, said_on, settings_back, base_back, head_said, head_back, moves_head, fit_back, approval_said, ends_it, standing_back, heads_said, heads_back, is_order_on, keeps_order, is_ordered_on, keeps_staged, is_staged_as, is_staged_back, state_said, is_bad, keeps_clean, is_clean, passes, keeps_passed, has_passed, is_order_at, keeps_head, is_unmoved, given, ends_why, IsTested, IsReadyToLand, IsRightLanding}
use Rattle.gate_state.specs.Lanes.{has_succeeded}
use Rattle.gate_queue.specs.Machine.{is_staged_with}
use Rattle.gate_state.specs.declared.batch.Report.TheVariants as report
use Rattle.gate_state.specs.declared.batch.Stage.TheVariants as stage
use Rattle.gate_queue.proofs.After.{standing_fit}

-- THE RUNNING BATCH, ordered or staged: it was ordered on the present base under the present settings, its heads are those of
-- now and haven't moved; and if it is staged, its reports are the last ones, and none before them was bad.
pub record IsHead (events : List Event) (batch : Batch) (staged : Head) : Type 0 where
  pub there : list_any (eqb staged.change) batch.changes ≡ true
  pub head : head_back events staged.change ≡ staged.head
  pub unmoved : is_unmoved events batch.number staged ≡ true

pub record IsOrdered (events : List Event) (batch : Batch) : Type 0 where
  pub ordered : (base : List ℕ) → base_back events ≡ Some base → is_ordered_on events batch.number base ≡ true
  pub heads : All (IsHead events batch) (heads_back events batch.number)

pub record IsReported (events : List Event) (number : ℕ) (commit : List ℕ) (reports : FinMap (slice_cmp nat_cmp) Report) : Type 0 where
  pub staged : is_staged_back events number commit ≡ true
  pub clean : (name : List ℕ) → is_required (settings_back events) name ≡ true → is_clean events number commit name ≡ true
  pub passed : (name : List ℕ) → is_required (settings_back events) name ≡ true → finite.get reports name ≡ Some report.Success → has_passed events number commit name ≡ true

abbrev pub TestsAt : List Event → Batch → StageOf → Type 0
TestsAt events batch stage.Waiting = ⊤
TestsAt events batch (stage.Ordered since) = IsOrdered events batch
TestsAt events batch (stage.Staged since commit reports) = IsOrdered events batch × IsReported events batch.number commit reports
TestsAt events batch (stage.Landing commit) = ⊤

abbrev pub Tests : List Event → Option Batch → Type 0
Tests events None = ⊤
Tests events (Some batch) = TestsAt events batch batch.stage

-- each of a list is among them
all_among : {X : Type 0} (same : X → X → Bool) → ((x : X) → same x x ≡ true) → (xs : List X) → All (λ x. list_any (same x) xs ≡ true) xs
all_among same itself [] = All-nil (λ x. list_any (same x) [] ≡ true)
all_among same itself (first ∷ xs) =
    All-cons (λ x. list_any (same x) (first ∷ xs) ≡ true) first xs (or_left _ _ (itself first))
    (All-weaker (λ x. list_any (same x) xs ≡ true) (λ x. list_any (same x) (first ∷ xs) ≡ true) (λ x there. or_right (same x first) (list_any (same x) xs) there) xs (all_among same itself xs))

-- ONE MORE EVENT that has nothing to do with it
goes : (starts keeps went : Bool) → keeps ≡ true → went ≡ true → (starts || (keeps && went)) ≡ true
goes starts keeps went kept is = grind arith

-- for a batch of this number, at this stage
pub record Leaves (events : List Event) (event : Event) (number : ℕ) (at : StageOf) : Type 0 where
  pub ordered : keeps_order event events ≡ true
  pub base : base_back (event ∷ events) ≡ base_back events
  pub settings : settings_back (event ∷ events) ≡ settings_back events
  pub heads : heads_said number event events ≡ None
  pub staged : keeps_staged number event events ≡ true
  pub said : (commit name : List ℕ) → is_staged_with commit at ≡ true → is_required (settings_back events) name ≡ true → said_by (state_said commit name) event events ≡ None

-- and has its heads stay
abbrev StaysAt : List Event → Event → Batch → Type 0
StaysAt events event batch = (c : ℕ) → list_any (eqb c) batch.changes ≡ true → (keeps_head c event events ≡ true) × (head_back (event ∷ events) c ≡ head_back events c)

module _ (events : List Event) (event : Event) (batch : Batch) (stays : StaysAt events event batch) where
  head_next : (head : Head) → IsHead events batch head → IsHead (event ∷ events) batch head
  head_next head is =
      let same = stays head.change is.there in
      record {
        there = is.there;
        head = same.1 ∙ is.head;
        unmoved = goes (is_order_at batch.number head event events) (keeps_head head.change event events) (is_unmoved events batch.number head) same.0 is.unmoved;
      }

  ordered_next : keeps_order event events ≡ true → base_back (event ∷ events) ≡ base_back events → heads_said batch.number event events ≡ None → IsOrdered events batch → IsOrdered (event ∷ events) batch
  ordered_next keeps base heads is = record {
    ordered = λ b at. goes (is_order_on batch.number b event events) (keeps_order event events) (is_ordered_on events batch.number b) keeps (is.ordered b (sym base ∙ at));
    heads = subst (λ (o : Option (List Head)). All (IsHead (event ∷ events) batch) (unwrap_or (option_or o (last_of (heads_said batch.number) events)) [])) (sym heads)
        (All-weaker (IsHead events batch) (IsHead (event ∷ events) batch) head_next (heads_back events batch.number) is.heads);
  }

  reported_next : (number : ℕ) (commit : List ℕ) (reports : FinMap (slice_cmp nat_cmp) Report) → keeps_staged number event events ≡ true
      → ((name : List ℕ) → is_required (settings_back events) name ≡ true → said_by (state_said commit name) event events ≡ None) → settings_back (event ∷ events) ≡ settings_back events
      → IsReported events number commit reports → IsReported (event ∷ events) number commit reports
  reported_next number commit reports staged said same is = record {
    staged = goes (is_staged_as number commit event events) (keeps_staged number event events) (is_staged_back events number commit) staged is.staged;
    clean = λ name required. goes (is_staged_as number commit event events) (keeps_clean number commit name event events) (is_clean events number commit name)
        (λ i. staged i && not (option_map_or is_bad (said name (before name required) i) false)) (is.clean name (before name required));
    passed = λ name required so. goes (passes number commit name event events) (keeps_passed number commit name event events) (has_passed events number commit name)
        (λ i. staged i && not (is_some (said name (before name required) i))) (is.passed name (before name required) so);
  } where
    before : (name : List ℕ) → is_required (settings_back (event ∷ events)) name ≡ true → is_required (settings_back events) name ≡ true
    before name required = ap (λ (o : Option SettingsView). is_required o name) (sym same) ∙ required

  pub tests_next : Leaves events event batch.number batch.stage → Tests events (Some batch) → Tests (event ∷ events) (Some batch)
  tests_next = by batch.stage where
    by : (at : StageOf) → Leaves events event batch.number at → TestsAt events batch at → TestsAt (event ∷ events) batch at
    by (stage.Ordered since) leaves is = ordered_next leaves.ordered leaves.base leaves.heads is
    by (stage.Staged since commit reports) leaves is = (
      ordered_next leaves.ordered leaves.base leaves.heads is.0,
      reported_next batch.number commit reports leaves.staged (λ name required. leaves.said commit name ((bytes_eq-Decides commit commit).1 refl) required) leaves.settings is.1,
    )
    by other leaves is = tt

-- NOTICES
pub notice_tests : (events : List Event) (change : ℕ) (why : Why) (running : Option Batch) → Tests events running → Tests (gave (Notice change why) ∷ events) running
notice_tests events change why None is = tt
notice_tests events change why (Some batch) is =
    tests_next events (gave (Notice change why)) batch (λ c there. (refl, refl)) (grind arith) is

-- AN ORDER TO STAGE another batch
pub other_tests : (events : List Event) (number : ℕ) (branch : Branch) (base : List ℕ) (heads : List Head) (running : Option Batch)
    → ((batch : Batch) → running ≡ Some batch → eqb batch.number number ≡ false) → Tests events running → Tests (gave (Stage number branch base heads) ∷ events) running
other_tests events number branch base heads None other is = tt
other_tests events number branch base heads (Some batch) other is =
    tests_next events (gave (Stage number branch base heads)) batch (λ c there. (refl, refl)) (let differs = other batch refl in grind arith) is

-- AN ACT. A change that stands after it hasn't moved.
still_by : (c : ℕ) (events : List Event) (fit had : Bool) (done : Option Deed)
    → ((is_some (option_and_then approval_said done) && fit) || ((not (option_map_or (ends_it c events) done false) && fit) && had)) ≡ true
    → (not (option_map_or (moves_head c events) done false) ≡ true) × (unwrap_or (option_or (option_and_then head_said done) (last_of (said_on c head_said) events)) [] ≡ head_back events c)
still_by c events fit had (Some (Happened (Opened author head))) is = cc is
still_by c events fit had (Some (Happened (Pushed head))) is =
    let same = (bytes_eq-Decides (head_back events c) head).0 in
    let moves : bytes_eq (head_back events c) head ≡ true = grind arith in
    (ap (λ (b : Bool). not (not b)) moves, sym (same moves))
still_by c events fit had other is = (refl, refl)

-- whether each of its changes stands
abbrev pub AllStand : List Event → Batch → Type 0
AllStand events batch = (c : ℕ) → list_any (eqb c) batch.changes ≡ true → standing_back events c ≡ true

pub still_at : (events : List Event) (act : Act) (batch : Batch) → AllStand (did act ∷ events) batch → StaysAt events (did act) batch
still_at events act batch stand c there = still_by c events (fit_back (did act ∷ events) c) (standing_back events c) (on c act) (stand c there)

-- IT IS ORDERED
all_named : (heads : List Head) → All (λ head. list_any (λ (other : Head). eqb head.change other.change && bytes_eq head.head other.head) heads ≡ true) heads
all_named = all_among (λ one other. eqb one.change other.change && bytes_eq one.head other.head) (λ head. both_true ((Decides-eqb head.change head.change).1 refl) ((bytes_eq-Decides head.head head.head).1 refl))

abbrev pub IsAt : List Event → Batch → Head → Type 0
IsAt events batch head = (list_any (eqb head.change) batch.changes ≡ true) × (head_back events head.change ≡ head.head)

pub stage_tests : (events : List Event) (now : ℕ) (batch : Batch) (base : List ℕ) (heads : List Head) → batch.branch ≡ Staging → base_back events ≡ Some base
    → All (IsAt events batch) heads
    → Tests (gave (Stage batch.number batch.branch base heads) ∷ events) (Some (record batch { stage = stage.Ordered now }))
stage_tests events now batch base heads branch based all = record {
  ordered = λ b at.
      ap (λ br. is_ordered_on (gave (Stage batch.number br base heads) ∷ events) batch.number b) branch
      ∙ or_left (eqb batch.number batch.number && bytes_eq b base) (true && is_ordered_on events batch.number b)
      (both_true ((Decides-eqb batch.number batch.number).1 refl) ((bytes_eq-Decides b base).1 (cc (sym at ∙ based))));
  heads = subst (λ (b : Bool). All (IsHead (gave (Stage batch.number batch.branch base heads) ∷ events) (record batch { stage = stage.Ordered now }))
      (unwrap_or (option_or (then_some b heads) (last_of (heads_said batch.number) events)) [])) (sym ((Decides-eqb batch.number batch.number).1 refl))
      (λ place any within.
      let its = all place any within in
      record { there = its.0; head = its.1; unmoved = or_left _ _ (both_true ((Decides-eqb batch.number batch.number).1 refl) (all_named heads place any within)) });
}

-- and is so at another stage
pub as_reported : (events : List Event) (batch : Batch) (at : StageOf) → IsOrdered events batch → IsOrdered events (record batch { stage = at })
as_reported events batch at is = record {
  ordered = is.ordered;
  heads = All-weaker (IsHead events batch) (IsHead events (record batch { stage = at })) (λ head h. record { there = h.there; head = h.head; unmoved = h.unmoved }) (heads_back events batch.number) is.heads;
}

-- IT IS STAGED
pub staged_tests : (events : List Event) (now number : ℕ) (commit : List ℕ) (batch : Batch) → AllStand (did (Other (Staged number commit)) ∷ events) batch → number ≡ batch.number
    → IsOrdered events batch → Tests (did (Other (Staged number commit)) ∷ events) (Some (record batch { stage = stage.Staged now commit finite.empty }))
staged_tests events now number commit batch stand same is = (
  as_reported (did (Other (Staged number commit)) ∷ events) batch (stage.Staged now commit finite.empty) next,
  record {
    staged = starts (keeps_staged batch.number (did (Other (Staged number commit))) events && is_staged_back events batch.number commit);
    clean = λ name required. starts (keeps_clean batch.number commit name (did (Other (Staged number commit))) events && is_clean events batch.number commit name);
    passed = λ name required so. cc (sym (get-empty (slice_cmp nat_cmp) name) ∙ so);
  },
) where
  next : IsOrdered (did (Other (Staged number commit)) ∷ events) batch
  next = ordered_next events (did (Other (Staged number commit))) batch (still_at events (Other (Staged number commit)) batch stand) refl refl refl is

  starts : (rest : Bool) → ((eqb batch.number number && bytes_eq commit commit) || rest) ≡ true
  starts rest = λ i. ((Decides-eqb batch.number number).1 (sym same) i && (bytes_eq-Decides commit commit).1 refl i) || rest

-- A STATUS that isn't bad is reported.
module _ (events : List Event) (batch : Batch) (commit other name : List ℕ) (state : StatusState) (good : is_bad state ≡ false) (same : commit ≡ other) (stand : AllStand (did (Other (Status other name state)) ∷ events) batch) where
  abbrev event : Event
  event = did (Other (Status other name state))

  pub reported_here : (reports : FinMap (slice_cmp nat_cmp) Report) (r : Report) → (r ≡ report.Success → state ≡ Success) → IsReported events batch.number commit reports
      → IsReported (event ∷ events) batch.number commit (finite.insert reports name r)
  reported_here reports r means is =
      let of_it = (bytes_eq-Decides commit other).1 same in
      record {
        staged = is.staged;
        clean = λ n required. let was = is.clean n required in grind arith;
        passed = λ n required so.
            let clean = is.clean n required in
            let was = is.passed n required in
            let last = get-insert nat_list_cmp_total reports name r n in
            let named = is_eq-slice_cmp n name in
            grind (arith, means);
      }

  pub ordered_here : IsOrdered events batch → IsOrdered (event ∷ events) batch
  ordered_here is = ordered_next events event batch (still_at events (Other (Status other name state)) batch stand) refl refl refl is

-- A STATUS that isn't required, or of another commit than the one that is tested
pub unasked : (events : List Event) (commit name : List ℕ) (state : StatusState) (number : ℕ) (at : StageOf) → is_required (settings_back events) name ≡ false
    → Leaves events (did (Other (Status commit name state))) number at
unasked events commit name state number at none =
    let same = λ (n : List ℕ). (bytes_eq-Decides n name).0 in
    grind (arith, same)

pub elsewhere_told : (events : List Event) (commit name : List ℕ) (state : StatusState) (number : ℕ) (at : StageOf) → is_staged_with commit at ≡ false
    → Leaves events (did (Other (Status commit name state))) number at
elsewhere_told events commit name state number at none =
    let same = λ (other : List ℕ). (bytes_eq-Decides other commit).0 in
    grind (arith, same)

-- THE ORDER TO LAND
module _ (events : List Event) (batch : Batch) (since : ℕ) (base commit : List ℕ) (reports : FinMap (slice_cmp nat_cmp) Report) (settings : SettingsView) (is : IsOrdered events batch × IsReported events batch.number commit reports)
    (accepted : settings_back events ≡ Some settings) (based : base_back events ≡ Some base) (all : list_all (has_succeeded reports) settings.status ≡ true) (stand : AllStand events batch) where
  abbrev order : Event
  order = gave (Land batch.number base commit)

  abbrev landed : List Event
  landed = gave (Land batch.number base commit) ∷ events

  succeeded : (name : List ℕ) → has_succeeded reports name ≡ true → finite.get reports name ≡ Some report.Success
  succeeded name so = grind arith

  all_passed : All (λ name. has_passed landed batch.number commit name ≡ true) settings.status
  all_passed place any within =
      let name = get_or settings.status place any in
      let required = ap (λ (o : Option SettingsView). is_required o name) accepted ∙ all_among bytes_eq (λ n. (bytes_eq-Decides n n).1 refl) settings.status place any within in
      goes (passes batch.number commit name order events) (keeps_passed batch.number commit name order events) (has_passed events batch.number commit name) refl
      (is.1.passed name required (succeeded name (AllPass-from_list_all (has_succeeded reports) settings.status all place any within)))

  pub is_tested : IsTested landed batch.number base commit
  is_tested = record {
    ordered = is.0.ordered base based;
    present = based;
    staged = is.1.staged;
    settings = settings;
    accepted = accepted;
    passed = all_passed;
  }

  pub are_ready : All (IsReadyToLand landed batch.number) (heads_back landed batch.number)
  are_ready = All-weaker (IsHead events batch) (IsReadyToLand landed batch.number) ready_at (heads_back events batch.number) is.0.heads where
    ready_at : (head : Head) → IsHead events batch head → IsReadyToLand landed batch.number head
    ready_at head h =
        let stands = stand head.change h.there in
        let fit = standing_fit events head.change stands in
        record { standing = λ i. fit i && stands i; fit = fit; head = h.head; unmoved = h.unmoved }

-- stays right after notices that end no approval
abbrev pub EndNone : List Order → Type 0
EndNone [] = ⊤
EndNone (Notice change why ∷ orders) = (ends_why why ≡ false) × EndNone orders
EndNone (other ∷ orders) = ⊥

module _ (events : List Event) (change : ℕ) (why : Why) (goes_on : ends_why why ≡ false) where
  abbrev noticed : List Event
  noticed = gave (Notice change why) ∷ events

  ready_noticed : (number : ℕ) (head : Head) → IsReadyToLand events number head → IsReadyToLand noticed number head
  ready_noticed number head is = record {
    standing = λ i. (not (goes_on i && eqb head.change change) && is.fit i) && is.standing i;
    fit = is.fit;
    head = is.head;
    unmoved = is.unmoved;
  }

  passed_noticed : (number : ℕ) (commit name : List ℕ) → has_passed events number commit name ≡ true → has_passed noticed number commit name ≡ true
  passed_noticed number commit name is =
      goes (passes number commit name (gave (Notice change why)) events) (keeps_passed number commit name (gave (Notice change why)) events) (has_passed events number commit name) refl is

  landing_noticed : (act : Act) (number : ℕ) (base commit : List ℕ) → IsRightLanding events act number base commit → IsRightLanding noticed act number base commit
  landing_noticed act number base commit is = record {
    name = is.name;
    success = is.success;
    tested = record {
      ordered = is.tested.ordered;
      present = is.tested.present;
      staged = is.tested.staged;
      settings = is.tested.settings;
      accepted = is.tested.accepted;
      passed = All-weaker (λ name. has_passed events number commit name ≡ true) (λ name. has_passed noticed number commit name ≡ true) (passed_noticed number commit) is.tested.settings.status is.tested.passed;
    };
    ready = All-weaker (IsReadyToLand events number) (IsReadyToLand noticed number) (ready_noticed number) (heads_back events number) is.ready;
  }

pub still_right : (orders : List Order) (events : List Event) (act : Act) (number : ℕ) (base commit : List ℕ) → EndNone orders → IsRightLanding events act number base commit
    → IsRightLanding (given events orders) act number base commit
still_right [] events act number base commit none is = is
still_right (Notice change why ∷ orders) events act number base commit none is =
    still_right orders (gave (Notice change why) ∷ events) act number base commit none.1 (landing_noticed events change why none.0 act number base commit is)
still_right (other ∷ orders) events act number base commit none is = absurd none
