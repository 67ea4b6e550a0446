-- What is due was ordered, and fits what is known now.
use Rattle.std.proofs.Common.{◌≡◌, ◌≢◌, ℕ, Bool, true, false, not, cond, if◌then◌else◌, eqb, length, List, [], ◌∷◌, ◌++◌, Option, None, Some, refl, sym, ◌∙◌, ap, subst, inl, inr, arith}
use Rattle.std.proofs.lemmas.Bool.Decides.{Decides-eqb}
use Rattle.std.proofs.lemmas.Slice.Eq.{bytes_eq-Decides}
use Rattle.std.specs.Bool.{then_some}
use Rattle.std.specs.List.{All, Contains}
use Rattle.std.specs.Option.{option_flatten, option_map_or, option_or}
use Rattle.std.specs.Prelude.{IfSome}
use Rattle.gate_deliveries.specs.declared.delivery.Event.{Event as Telling}
use Rattle.gate_deliveries.specs.declared.delivery.Event.TheVariants as telling
use Rattle.gate_guard.specs.Due.{IsOrderedNow, IsStagedNow, LawOfDuties}
use Rattle.gate_guard.specs.Duties.{duties_of, duty_at, duty_of}
use Rattle.gate_guard.specs.Knowing.{events_after, known_after}
use Rattle.gate_guard.specs.World.{Checking, IsMergeFor, Merging, told_in}
use Rattle.gate_guard.specs.declared.duty.Duty.{Duty}
use Rattle.gate_guard.specs.declared.duty.Duty.TheVariants as duty
use Rattle.gate_queue.specs.History.{Entry, Event, HasStayed, LawOfHistories, Legal, OrderTells, RunningTells, StageTells, base_back, commit_of, did, events_of, gave, is_order_on, is_staged_as, is_staged_back, keeps_order, keeps_staged, landing_of, landing_said, landing_with, last_of}
use Rattle.gate_queue.specs.Machine.{empty_state}
use Rattle.gate_queue.specs.Vocabulary.{Batch, Head, Land, Notice, On, Order, Other, Stage, Staged, StageOf, Staging, State, Trying}
use Rattle.gate_queue.specs.Words.{AllKept, LawOfSince, LawOfTests}
use Rattle.gate_state.specs.Counts.{held_by, occurs, of_any_priority}
use Rattle.gate_state.specs.Lanes.{is_landing}
use Rattle.gate_state.specs.State.{IsRunning, IsState}
use Rattle.gate_state.specs.declared.act.Fact.TheVariants as fact
use Rattle.gate_state.specs.declared.batch.Stage.TheVariants as stage
use Rattle.gate_store.specs.Headline.{LawOfTelling}
use Rattle.gate_guard.proofs.Lists.{EachOf, contains_at, contains_cases, contains_first, contains_more, count_one, each_at, each_found}
use Rattle.gate_guard.proofs.Moving.{TrueThen, all_traced, all_true, heads_so, same_number}
use Rattle.gate_guard.proofs.Tracing.{CameOf, Traced}

-- WHERE IT BEGAN
order_at : (number : ℕ) (base : List ℕ) (event : Event) (before : List Event) → is_order_on number base event before ≡ true → (heads : List Head) × (event ≡ gave (Stage number Staging base heads))
order_at number base (gave (Stage batch Staging other heads)) before is =
    let numbers : number ≡ batch = (Decides-eqb number batch).0 (grind (arith, is)) in
    let bases : base ≡ other = (bytes_eq-Decides base other).0 (grind (arith, is)) in
    (heads, ap (λ n. gave (Stage n Staging other heads)) (sym numbers) ∙ ap (λ b. gave (Stage number Staging b heads)) (sym bases))
order_at number base (gave (Stage batch Trying other heads)) before is = absurd (cc is)
order_at number base (gave (Land batch from to)) before is = absurd (cc is)
order_at number base (gave (Notice change why)) before is = absurd (cc is)
order_at number base (did act) before is = absurd (cc is)

staging_at : (number : ℕ) (commit : List ℕ) (event : Event) (before : List Event) → is_staged_as number commit event before ≡ true → event ≡ did (Other (Staged number commit))
staging_at number commit (did (Other (fact.Staged batch other))) before is =
    let numbers : number ≡ batch = (Decides-eqb number batch).0 (grind (arith, is)) in
    let commits : commit ≡ other = (bytes_eq-Decides commit other).0 (grind (arith, is)) in
    ap (λ n. did (Other (Staged n other))) (sym numbers) ∙ ap (λ c. did (Other (Staged number c))) (sym commits)
staging_at number commit (did (Other (fact.Role person role))) before is = absurd (cc is)
staging_at number commit (did (Other (fact.Settings text))) before is = absurd (cc is)
staging_at number commit (did (Other (fact.Base other))) before is = absurd (cc is)
staging_at number commit (did (Other (fact.Conflict batch))) before is = absurd (cc is)
staging_at number commit (did (Other (fact.Status other name state))) before is = absurd (cc is)
staging_at number commit (did (Other (fact.Refused batch))) before is = absurd (cc is)
staging_at number commit (did (Other (fact.Tick now))) before is = absurd (cc is)
staging_at number commit (did (On change deed)) before is = absurd (cc is)
staging_at number commit (gave order) before is = absurd (cc is)

-- An order that came, and not since the batch was staged, came before that.
module _ (number : ℕ) (base : List ℕ) (heads : List Head) (commit : List ℕ) (before : List Event) where
  abbrev order : Event
  order = gave (Stage number Staging base heads)

  abbrev staged : Event
  staged = did (Other (Staged number commit))

  came_before : (later : List Event) → AllKept (keeps_staged number) later (staged ∷ before) → Contains (later ++ staged ∷ before) order → Contains before order
  came_before [] kept among = elim (contains_cases staged order before among) [
    | inl same ↦ absurd (cc same)
    | inr behind ↦ behind
  ]
  came_before (event ∷ later) kept among = elim (contains_cases event order (later ++ staged ∷ before) among) [
    | inl same ↦
        let keeps : keeps_staged number order (later ++ staged ∷ before) ≡ true = subst (λ (this : Event). keeps_staged number this (later ++ staged ∷ before) ≡ true) same kept.0 in
        absurd (cc (same_number number, keeps))
    | inr behind ↦ came_before later kept.1 behind
  ]

-- WHAT IS TO BE MERGED, by what the history tells of the batch that runs
module _ (law : LawOfSince) (all : List Telling) (events : List Event) (traced : EachOf (Traced all) events) (batch : ℕ) (tells : OrderTells events batch) where
  ordered_here : (heads : List Head) × Contains events (gave (Stage batch Staging tells.base heads))
  ordered_here =
      let (later, before, event, cut, starts, kept) = (law (is_order_on batch tells.base) keeps_order events).0 tells.ordered in
      let (heads, is) = order_at batch tells.base event before starts in
      let order = gave (Stage batch Staging tells.base heads) in
      let at : events ≡ later ++ order ∷ before = cut ∙ ap (λ (this : Event). later ++ this ∷ before) is in
      (heads, subst (λ (these : List Event). Contains these order) (sym at) (contains_at later order before))

  ordered_now : IsOrderedNow events batch
  ordered_now =
      let (heads, among) = ordered_here in
      let (before, some) = each_found (Traced all) events (gave (Stage batch Staging tells.base heads)) among traced in
      record {
        base = tells.base;
        present = tells.present;
        heads = heads;
        ordered = among;
        once = tells.once;
        some = some;
        stayed = subst (All (HasStayed events batch)) (heads_so batch Staging tells.base heads events tells.once among) tells.heads;
      }

-- WHAT IS TO BE TESTED
module _ (law : LawOfSince) (joins : Merging) (says : Checking) (all : List Telling) (each : EachOf (TrueThen joins says) all) (traced : EachOf (Traced all) (events_after all)) (batch : ℕ) (commit : List ℕ)
    (order : IsOrderedNow (events_after all) batch) (last : is_staged_back (events_after all) batch commit ≡ true) where
  staged_now : IsStagedNow joins all batch commit
  staged_now =
      let (later, before, event, cut, starts, kept) = (law (is_staged_as batch commit) (keeps_staged batch) (events_after all)).0 last in
      let staged = did (Other (Staged batch commit)) in
      let is : event ≡ staged = staging_at batch commit event before starts in
      let at : events_after all ≡ later ++ staged ∷ before = cut ∙ ap (λ (this : Event). later ++ this ∷ before) is in
      let came : CameOf all (Staged batch commit) before = each_at (Traced all) later before staged (subst (EachOf (Traced all)) at traced) in
      let ordered = gave (Stage batch Staging order.base order.heads) in
      let kept_then : AllKept (keeps_staged batch) later (staged ∷ before) = subst (λ (this : Event). AllKept (keeps_staged batch) later (this ∷ before)) is kept in
      let among = came_before batch order.base order.heads commit before later kept_then (subst (λ (these : List Event). Contains these ordered) at order.ordered) in
      let was = came.was in
      let right : IsMergeFor joins (events_after was.earlier) batch commit =
      each_at (TrueThen joins says) was.later was.earlier (telling.Other (Staged batch commit)) (subst (EachOf (TrueThen joins says)) was.cut each) in
      record {
        order = order;
        staged = was;
        last = last;
        merged = subst (λ (then_events : List Event). IsMergeFor joins then_events batch commit) came.at right Staging order.base order.heads among;
      }

-- what a duty on staging says of the batch that runs there
merge_tells : (events : List Event) (running : Option Batch) (base : Option (List ℕ)) (batch : ℕ) → RunningTells events running → duty_of base running ≡ Some (duty.Merge batch) → OrderTells events batch
merge_tells events None base batch tells is = absurd (cc is)
merge_tells events (Some one) base batch tells is = at one.stage base tells is where
  at : (stood : StageOf) (base : Option (List ℕ)) → StageTells events one.number stood → duty_at base one.number stood ≡ Some (duty.Merge batch) → OrderTells events batch
  at stage.Waiting base tells is = absurd (cc is)
  at (stage.Ordered since) base tells is = let numbers : one.number ≡ batch = cc is in subst (OrderTells events) numbers tells
  at (stage.Staged since commit reports) base tells is = absurd (cc is)
  at (stage.Landing commit) None tells is = absurd (cc is)
  at (stage.Landing commit) (Some from) tells is = absurd (cc is)

test_tells : (events : List Event) (running : Option Batch) (base : Option (List ℕ)) (batch : ℕ) (commit : List ℕ) → RunningTells events running → duty_of base running ≡ Some (duty.Test batch commit)
    → OrderTells events batch × (is_staged_back events batch commit ≡ true)
test_tells events None base batch commit tells is = absurd (cc is)
test_tells events (Some one) base batch commit tells is = at one.stage base tells is where
  at : (stood : StageOf) (base : Option (List ℕ)) → StageTells events one.number stood → duty_at base one.number stood ≡ Some (duty.Test batch commit)
      → OrderTells events batch × (is_staged_back events batch commit ≡ true)
  at stage.Waiting base tells is = absurd (cc is)
  at (stage.Ordered since) base tells is = absurd (cc is)
  at (stage.Staged since told reports) base tells is =
      let numbers : one.number ≡ batch = cc is in
      let commits : told ≡ commit = cc is in
      (subst (OrderTells events) numbers tells.0, sym (ap (λ n. is_staged_back events n commit) numbers) ∙ sym (ap (is_staged_back events one.number) commits) ∙ tells.1)
  at (stage.Landing other) None tells is = absurd (cc is)
  at (stage.Landing other) (Some from) tells is = absurd (cc is)

-- NOTHING ON TRYING is to land, since no batch there lands.
some_occurs : (changes : List ℕ) → not (eqb (length changes) 0) ≡ true → ((change : ℕ) → occurs change changes ≡ 0) → ⊥
some_occurs [] some none = cc some
some_occurs (first ∷ rest) some none = let one = count_one (eqb first) first rest (same_number first) in omega (arith, none first, one)

no_try_lands : (s : State) → IsState s → (batch : ℕ) (from to : List ℕ) → (duties_of s).trying ≢ Some (duty.Land batch from to)
no_try_lands s is batch from to = of s.queue.trying.running s.desk.base is.queue.trying.running is.queue.trying.landing where
  of : (running : Option Batch) (base : Option (List ℕ)) → IfSome running (IsRunning Trying s.desk.clock s.desk.settings)
      → ((change : ℕ) → option_map_or (λ (one : Batch). if is_landing one.stage then held_by of_any_priority change one else 0) running 0 ≡ 0) → duty_of base running ≢ Some (duty.Land batch from to)
  of None base runs none lands = cc lands
  of (Some one) base runs none lands = at one.stage base refl lands where
    at : (stood : StageOf) (base : Option (List ℕ)) → one.stage ≡ stood → duty_at base one.number stood ≢ Some (duty.Land batch from to)
    at stage.Waiting base stands lands = cc lands
    at (stage.Ordered since) base stands lands = cc lands
    at (stage.Staged since commit reports) base stands lands = cc lands
    at (stage.Landing commit) base stands lands =
        some_occurs one.changes runs.changes (λ change. ap (λ (it : StageOf). if is_landing it then held_by of_any_priority change one else 0) (sym stands) ∙ none change)

-- WHAT IS TO LAND
-- An order to land that nothing has ended is on the base.
abbrev IsBased : List Event → ℕ → List ℕ → Type 0
IsBased happened batch to = (from : List ℕ) × (base_back happened ≡ Some from) × Contains happened (gave (Land batch from to))

module _ (event : Event) (happened : List Event) (batch : ℕ) (to : List ℕ) (before : landing_with happened batch ≡ Some to → IsBased happened batch to) where
  -- after an event that says nothing of it, nor of the base
  behind : base_back (event ∷ happened) ≡ base_back happened → landing_with happened batch ≡ Some to → IsBased (event ∷ happened) batch to
  behind same lands = let (from, at, among) = before lands in (from, same ∙ at, contains_more event (gave (Land batch from to)) happened among)

of_refusal : (number : ℕ) (happened : List Event) (batch : ℕ) (to : List ℕ) → (landing_with happened batch ≡ Some to → IsBased happened batch to)
    → landing_with (did (Other (fact.Refused number)) ∷ happened) batch ≡ Some to → IsBased (did (Other (fact.Refused number)) ∷ happened) batch to
of_refusal number happened batch to before = by (eqb batch number) where
  by : (same : Bool) → option_flatten (option_or (then_some same None) (last_of (landing_said batch) happened)) ≡ Some to → IsBased (did (Other (fact.Refused number)) ∷ happened) batch to
  by true lands = absurd (cc lands)
  by false lands = behind (did (Other (fact.Refused number))) happened batch to before refl lands

of_order : (number : ℕ) (from commit : List ℕ) (happened : List Event) (batch : ℕ) (to : List ℕ) → base_back happened ≡ Some from
    → (landing_with happened batch ≡ Some to → IsBased happened batch to) → landing_with (gave (Land number from commit) ∷ happened) batch ≡ Some to → IsBased (gave (Land number from commit) ∷ happened) batch to
of_order number from commit happened batch to based before = by (eqb batch number) refl where
  by : (same : Bool) → eqb batch number ≡ same → option_flatten (option_or (then_some same (Some commit)) (last_of (landing_said batch) happened)) ≡ Some to
      → IsBased (gave (Land number from commit) ∷ happened) batch to
  by true same lands =
      let numbers : batch ≡ number = (Decides-eqb batch number).0 same in
      let commits : commit ≡ to = cc lands in (
        from,
        based,
        subst (λ (order : Order). Contains (gave (Land number from commit) ∷ happened) (gave order)) (ap (λ n. Land n from commit) (sym numbers) ∙ ap (Land batch from) commits)
            (contains_first (gave (Land number from commit)) happened),
      )
  by false same lands = behind (gave (Land number from commit)) happened batch to before refl lands

of_event : (all : List Telling) (event : Event) (happened : List Event) (batch : ℕ) (to : List ℕ) → Traced all event happened → (landing_with happened batch ≡ Some to → IsBased happened batch to)
    → landing_with (event ∷ happened) batch ≡ Some to → IsBased (event ∷ happened) batch to
of_event all (did (On change deed)) happened batch to this before lands = behind (did (On change deed)) happened batch to before refl lands
of_event all (did (Other (fact.Base commit))) happened batch to this before lands = absurd (cc lands)
of_event all (did (Other (fact.Refused number))) happened batch to this before lands = of_refusal number happened batch to before lands
of_event all (did (Other (fact.Role person role))) happened batch to this before lands = behind (did (Other (fact.Role person role))) happened batch to before refl lands
of_event all (did (Other (fact.Settings text))) happened batch to this before lands = behind (did (Other (fact.Settings text))) happened batch to before refl lands
of_event all (did (Other (fact.Staged number commit))) happened batch to this before lands = behind (did (Other (fact.Staged number commit))) happened batch to before refl lands
of_event all (did (Other (fact.Conflict number))) happened batch to this before lands = behind (did (Other (fact.Conflict number))) happened batch to before refl lands
of_event all (did (Other (fact.Status commit name state))) happened batch to this before lands = behind (did (Other (fact.Status commit name state))) happened batch to before refl lands
of_event all (did (Other (fact.Tick now))) happened batch to this before lands = behind (did (Other (fact.Tick now))) happened batch to before refl lands
of_event all (gave (Stage number branch base heads)) happened batch to this before lands = behind (gave (Stage number branch base heads)) happened batch to before refl lands
of_event all (gave (Notice change why)) happened batch to this before lands = behind (gave (Notice change why)) happened batch to before refl lands
of_event all (gave (Land number from commit)) happened batch to (came, based) before lands = of_order number from commit happened batch to based before lands

landing_based : (all : List Telling) (happened : List Event) → EachOf (Traced all) happened → (batch : ℕ) (to : List ℕ) → landing_with happened batch ≡ Some to → IsBased happened batch to
landing_based all [] each batch to lands = absurd (cc lands)
landing_based all (event ∷ happened) (this, rest) batch to lands = of_event all event happened batch to this (landing_based all happened rest batch to) lands

-- what a duty to land says of the state
land_of : (s : State) (batch : ℕ) (from to : List ℕ) → (duties_of s).staging ≡ Some (duty.Land batch from to) → (landing_of batch s.queue.staging.running ≡ Some to) × (s.desk.base ≡ Some from)
land_of s batch from to is = of s.queue.staging.running s.desk.base is where
  of : (running : Option Batch) (base : Option (List ℕ)) → duty_of base running ≡ Some (duty.Land batch from to) → (landing_of batch running ≡ Some to) × (base ≡ Some from)
  of None base is = absurd (cc is)
  of (Some one) base is = at one.stage base refl is where
    at : (stood : StageOf) (base : Option (List ℕ)) → one.stage ≡ stood → duty_at base one.number stood ≡ Some (duty.Land batch from to) → (landing_of batch (Some one) ≡ Some to) × (base ≡ Some from)
    at stage.Waiting base stands is = absurd (cc is)
    at (stage.Ordered since) base stands is = absurd (cc is)
    at (stage.Staged since commit reports) base stands is = absurd (cc is)
    at (stage.Landing commit) None stands is = absurd (cc is)
    at (stage.Landing commit) (Some found) stands is =
        let numbers : one.number ≡ batch = cc is in
        let commits : commit ≡ to = cc is in
        let bases : found ≡ from = cc is in
        (ap (λ b. cond b (commit_of one.stage) None) ((Decides-eqb batch one.number).1 (sym numbers)) ∙ ap commit_of stands ∙ ap Some commits, ap Some bases)

-- and the other way round
duty_for : (running : Option Batch) (base : Option (List ℕ)) (batch : ℕ) (from to : List ℕ) → landing_of batch running ≡ Some to → base ≡ Some from → duty_of base running ≡ Some (duty.Land batch from to)
duty_for None base batch from to lands based = absurd (cc lands)
duty_for (Some one) base batch from to lands based = by (eqb batch one.number) refl lands where
  at : (stood : StageOf) → batch ≡ one.number → commit_of stood ≡ Some to → duty_at base one.number stood ≡ Some (duty.Land batch from to)
  at stage.Waiting number commit = absurd (cc commit)
  at (stage.Ordered since) number commit = absurd (cc commit)
  at (stage.Staged since told_with reports) number commit = absurd (cc commit)
  at (stage.Landing commit) number same =
      let commits : commit ≡ to = cc same in
      ap (duty_at' one.number commit) based ∙ ap (λ n. Some (duty.Land n from commit)) (sym number) ∙ ap (λ c. Some (duty.Land batch from c)) commits where
        duty_at' : ℕ → List ℕ → Option (List ℕ) → Option Duty
        duty_at' n c b = duty_at b n (stage.Landing c)

  by : (same : Bool) → eqb batch one.number ≡ same → cond same (commit_of one.stage) None ≡ Some to → duty_at base one.number one.stage ≡ Some (duty.Land batch from to)
  by true same commit = at one.stage ((Decides-eqb batch one.number).0 same) commit
  by false same commit = absurd (cc commit)

-- each state of a legal history is one
legal_state : (history : List Entry) (s : State) → Legal history s → IsState s
legal_state [] s legal = legal.1
legal_state (entry ∷ history) s legal = legal.3

pub duties_law : LawOfTelling → LawOfHistories → LawOfTests → LawOfSince → Legal [] (empty_state 1) → LawOfDuties
duties_law law histories tests since empty joins says first steps keeps =
    let all = told_in steps in
    let known = known_after all in
    let each = all_true joins says first steps keeps in
    let traced = all_traced law tests empty joins says all each in
    let tells = histories known.history known.state traced.legal in
    let running = known.state.queue.staging.running in
    record {
      merge = λ batch is. ordered_now since all (events_of known.history) traced.traced batch (merge_tells (events_of known.history) running known.state.desk.base batch tells.running is);
      test = λ batch commit is.
          let (order, last) = test_tells (events_of known.history) running known.state.desk.base batch commit tells.running is in
          staged_now since joins says all each traced.traced batch commit (ordered_now since all (events_of known.history) traced.traced batch order) last;
      land = λ batch from to is.
          let (lands, based) = land_of known.state batch from to is in
          let landing = tells.to_land batch ∙ lands in
          let (found, at, among) = landing_based all (events_of known.history) traced.traced batch to landing in
          record {
            present = sym tells.base ∙ based;
            ordered = subst (λ (base : List ℕ). Contains (events_of known.history) (gave (Land batch base to))) (some_same (sym at ∙ sym tells.base ∙ based)) among;
            still = landing;
          };
      every_landing = λ batch to landing.
          let (from, at, among) = landing_based all (events_of known.history) traced.traced batch to landing in
          (from, duty_for running known.state.desk.base batch from to (sym (tells.to_land batch) ∙ landing) (tells.base ∙ at));
      no_try = no_try_lands known.state (legal_state known.history known.state traced.legal);
    } where
      some_same : {one other : List ℕ} → Some one ≡ Some other → one ≡ other
      some_same is = cc is
