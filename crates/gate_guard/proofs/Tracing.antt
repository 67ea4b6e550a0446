-- Each fact of the history was told, and each order to land was right when it came.
use Rattle.std.proofs.Common.{◌≡◌, ◌≢◌, ◌∙◌, ℕ, ◌+◌, ◌≤◌, Bool, List, [], ◌∷◌, ◌++◌, Some, map as list_map, refl, sym, ap, subst, arith}
use Rattle.std.proofs.lemmas.List.Elements.{All-head, All-tail}
use Rattle.std.proofs.lemmas.Bool.Decides.{Decides-eqb}
use Rattle.std.specs.List.{All, Contains, count_by}
use Rattle.gate_deliveries.specs.declared.delivery.Event.{Event as Telling}
use Rattle.gate_deliveries.specs.declared.delivery.Event.TheVariants as telling
use Rattle.gate_guard.specs.Knowing.{WasTold, events_after}
use Rattle.gate_queue.specs.History.{Entry, Event, base_back, IsRightLanding, IsRightOrder, did, events_of, gave, given, happened, is_land_of, is_order, landings, look_back, orders_in, stages}
use Rattle.gate_queue.specs.Machine.{meaning, reply_to}
use Rattle.gate_queue.specs.Vocabulary.{Act, Deed, Denied, Done, Fact, Happened, Known as Meant, Land, Look, Notice, On, Order, Other, Reply, Said, SpokenOf, Stage, StatusState, Success, Unknown}
use Rattle.gate_state.specs.declared.act.Fact.TheVariants as fact
use Rattle.gate_state.specs.declared.act.Fact.TheVariants.{Status}
use Rattle.gate_state.specs.declared.state.State.{State}
use Rattle.gate_store.specs.Headline.{Each, Tells, entry_for, history_after}
use Rattle.gate_guard.proofs.Lists.{EachOf, contains_first, contains_more, count_one, count_rest}

-- WHERE AN EVENT COMES FROM
-- a fact: it was told when this had happened
pub record CameOf (all : List Telling) (fact : Fact) (before : List Event) : Type 0 where
  pub was : WasTold all (telling.Other fact)
  pub at : events_after was.earlier ≡ before

-- an order to land: it was right when it came
pub record CameRightly (all : List Telling) (batch : ℕ) (from to : List ℕ) : Type 0 where
  pub later : List Telling
  pub until : List Telling
  pub cut : all ≡ later ++ until
  pub act : Act
  pub right : IsRightLanding (events_after until) act batch from to
  pub name : List ℕ
  pub earlier : List Telling
  pub last : until ≡ telling.Other (Status to name Success) ∷ earlier
  pub new : landings batch (events_after earlier) ≡ 0
  pub once : stages batch (events_after until) ≤ 1
  pub ordered : Contains (events_after until) (gave (Land batch from to))

-- It is told with what had happened before it.
abbrev pub Traced : List Telling → Event → List Event → Type 0
Traced all (did (Other fact)) before = CameOf all fact before
Traced all (gave (Land batch from to)) before = CameRightly all batch from to × (base_back before ≡ Some from)
Traced all (gave (Stage batch branch base heads)) before = heads ≢ []
Traced all event before = Unit

-- What is told later takes nothing away.
pub still_traced : (telling : Telling) (all : List Telling) (event : Event) (before : List Event) → Traced all event before → Traced (telling ∷ all) event before
still_traced telling all (did (Other fact)) before came = record {
  was = record { later = telling ∷ came.was.later; earlier = came.was.earlier; cut = ap (λ (rest : List Telling). telling ∷ rest) came.was.cut };
  at = came.at;
}
still_traced telling all (gave (Land batch from to)) before (came, based) = (
  record {
    later = telling ∷ came.later;
    until = came.until;
    cut = ap (λ (rest : List Telling). telling ∷ rest) came.cut;
    act = came.act;
    right = came.right;
    name = came.name;
    earlier = came.earlier;
    last = came.last;
    new = came.new;
    once = came.once;
    ordered = came.ordered;
  },
  based,
)
still_traced telling all (gave (Stage batch branch base heads)) before came = came
still_traced telling all event before came = tt

-- ONE ENTRY MORE
pub given_more : (events : List Event) (orders : List Order) (event : Event) → Contains events event → Contains (given events orders) event
given_more events [] event among = among
given_more events (order ∷ orders) event among = given_more (gave order ∷ events) orders event (contains_more (gave order) event events among)

-- Orders that are given take none away, and one to land is one more than before.
given_fewer : (p : Event → Bool) (events : List Event) (orders : List Order) (n : ℕ) → count_by p (given events orders) ≤ n → count_by p events ≤ n
given_fewer p events [] n few = few
given_fewer p events (order ∷ orders) n few = count_rest p (gave order) events n (given_fewer p (gave order ∷ events) orders n few)

-- orders set no base
given_base : (events : List Event) (orders : List Order) → base_back (given events orders) ≡ base_back events
given_base events [] = refl
given_base events (order ∷ orders) = given_base (gave order ∷ events) orders

module _ (told : List Telling) (all old : List Event) (act : Act)
    (lands : (batch : ℕ) (from to : List ℕ) → IsRightLanding all act batch from to → Contains all (gave (Land batch from to)) → 1 + landings batch old ≤ landings batch all → CameRightly told batch from to) where
  abbrev Fewer : List Event → Type 0
  Fewer events = (number : ℕ) → landings number old ≤ landings number events

  order_traced : (order : Order) (orders : List Order) (before : List Event) → given (gave order ∷ before) orders ≡ all → Fewer before → IsRightOrder all act order → Contains all (gave order) → Traced told (gave order) before
  order_traced (Land batch from to) orders before is fewer right among =
      let p : Event → Bool = is_order (is_land_of batch) in
      let land : Event = gave (Land batch from to) in
      let one : landings batch (land ∷ before) ≡ 1 + landings batch before = count_one p land before ((Decides-eqb batch batch).1 refl) in
      let here : landings batch (land ∷ before) ≤ landings batch all = given_fewer p (land ∷ before) orders (landings batch all) (subst (λ (whole : List Event). landings batch whole ≤ landings batch all) (sym is) (omega arith)) in
      let less = fewer batch in
      (lands batch from to right among (omega arith), sym (given_base (land ∷ before) orders) ∙ ap base_back is ∙ right.tested.present)
  order_traced (Stage batch branch base heads) orders before is fewer right among = right.1
  order_traced (Notice change why) orders before is fewer right among = tt

  fewer_next : (event : Event) (events : List Event) → Fewer events → Fewer (event ∷ events)
  fewer_next event events fewer number =
      let less = fewer number in
      let more : landings number events ≤ landings number (event ∷ events) = count_rest (is_order (is_land_of number)) event events (landings number (event ∷ events)) (omega arith) in
      omega arith

  orders_traced : (orders : List Order) (events : List Event) → given events orders ≡ all → Fewer events → All (IsRightOrder all act) orders → EachOf (Traced told) events → EachOf (Traced told) (given events orders)
  orders_traced [] events is fewer right each = each
  orders_traced (order ∷ orders) events is fewer right each =
      let among = subst (λ (whole : List Event). Contains whole (gave order)) is (given_more (gave order ∷ events) orders (gave order) (contains_first (gave order) events)) in
      let this = order_traced order orders events is fewer (All-head (IsRightOrder all act) order orders right) among in
      orders_traced orders (gave order ∷ events) is (fewer_next (gave order) events fewer) (All-tail (IsRightOrder all act) order orders right) (this, each)

  pub reply_traced : (events : List Event) (reply : Reply) → happened events act reply ≡ all → Fewer events → All (IsRightOrder all act) (orders_in reply)
      → Traced told (did (meaning (look_back events) act)) events → EachOf (Traced told) events → EachOf (Traced told) (happened events act reply)
  reply_traced events (Done orders) is fewer right this each =
      orders_traced orders (did (meaning (look_back events) act) ∷ events) is (fewer_next (did (meaning (look_back events) act)) events fewer) right (this, each)
  reply_traced events (Denied rule) is fewer right this each = each

-- a deed on a change, whatever it means
deed_traced : (told : List Telling) (look : Look) (change : ℕ) (deed : Deed) (before : List Event) → Traced told (did (meaning look (On change deed))) before
deed_traced told look change (Said person (Meant command)) before = tt
deed_traced told look change (Said person Unknown) before = tt
deed_traced told look change (Happened fact) before = tt

module _ (told : List Telling) where
  pub deed_entry : (history : List Entry) (s : State) (change : ℕ) (deed : Deed) → Tells history s (On change deed) → EachOf (Traced told) (events_of history)
      → EachOf (Traced told) (events_of (entry_for s (On change deed) ∷ history))
  deed_entry history s change deed now each =
      reply_traced told (events_of (entry_for s (On change deed) ∷ history)) (events_of history) (On change deed) (λ batch from to right among more. absurd (by_status right.success))
      (events_of history) (reply_to s (On change deed)) refl (λ number. omega arith) now.ordered_rightly (deed_traced told (look_back (events_of history)) change deed (events_of history)) each where
        by_status : {commit name : List ℕ} {state : StatusState} → On change deed ≡ Other (fact.Status commit name state) → ⊥
        by_status is = cc is

  pub deeds_traced : (history : List Entry) (s : State) (change : ℕ) (person : List ℕ) (spoken : List SpokenOf) → Each Tells history s (list_map (λ said. On change (Said person said)) spoken)
      → EachOf (Traced told) (events_of history) → EachOf (Traced told) (events_of (history_after history s (list_map (λ said. On change (Said person said)) spoken)))
  deeds_traced history s change person [] all each = each
  deeds_traced history s change person (said ∷ spoken) (now, all) each =
      deeds_traced (entry_for s (On change (Said person said)) ∷ history) _ change person spoken all (deed_entry history s change (Said person said) now each)
