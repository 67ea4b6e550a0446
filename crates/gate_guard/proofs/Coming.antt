-- The orders of replies are among the events after their acts.
use Rattle.std.proofs.Common.{◌≡◌, ◌⊎◌, List, [], ◌∷◌, inl, inr, subst}
use Rattle.std.proofs.lemmas.List.Elements.{Contains-append_cases, Contains-append_left, Contains-append_right}
use Rattle.std.specs.List.{Contains, flat_map}
use Rattle.gate_deliveries.specs.Acts.{acts_of_event}
use Rattle.gate_queue.specs.History.{Entry, Event, did, events_of, gave, given, happened, look_back, orders_in}
use Rattle.gate_queue.specs.Machine.{after, meaning, reply_to}
use Rattle.gate_queue.specs.Vocabulary.{Act, Denied, Done, Order, Reply}
use Rattle.gate_state.specs.declared.state.State.{State}
use Rattle.gate_store.specs.Headline.{entry_for, history_after}
use Rattle.gate_store.specs.Run.{replies_to}
use Rattle.gate_guard.specs.Knowing.{known_after, unless_full}
use Rattle.gate_guard.specs.Moves.{LawOfStaying}
use Rattle.gate_guard.proofs.Lists.{contains_cases, contains_first, contains_more, contains_none}
use Rattle.gate_guard.proofs.Tracing.{given_more}

given_each : (events : List Event) (orders : List Order) (order : Order) → Contains orders order → Contains (given events orders) (gave order)
given_each events [] order among = absurd (contains_none order among)
given_each events (first ∷ orders) order among = elim (contains_cases first order orders among) [
  | inl same ↦ given_more (gave first ∷ events) orders (gave order) (subst (λ (this : Order). Contains (gave first ∷ events) (gave this)) same (contains_first (gave first) events))
  | inr behind ↦ given_each (gave first ∷ events) orders order behind
]

happened_each : (events : List Event) (act : Act) (reply : Reply) (order : Order) → Contains (orders_in reply) order → Contains (happened events act reply) (gave order)
happened_each events act (Done orders) order among = given_each _ orders order among
happened_each events act (Denied rule) order among = absurd (contains_none order among)

happened_more : (events : List Event) (act : Act) (reply : Reply) (event : Event) → Contains events event → Contains (happened events act reply) event
happened_more events act (Done orders) event among = given_more _ orders event (contains_more _ event events among)
happened_more events act (Denied rule) event among = among

history_more : (history : List Entry) (s : State) (acts : List Act) (event : Event) → Contains (events_of history) event → Contains (events_of (history_after history s acts)) event
history_more history s [] event among = among
history_more history s (act ∷ acts) event among =
    history_more (entry_for s act ∷ history) (after s act) acts event (happened_more (events_of history) act (reply_to s act) event among)

pub orders_come : (history : List Entry) (s : State) (acts : List Act) (order : Order) → Contains (flat_map orders_in (replies_to s acts)) order → Contains (events_of (history_after history s acts)) (gave order)
orders_come history s [] order among = absurd (contains_none order among)
orders_come history s (act ∷ acts) order among = elim (Contains-append_cases (orders_in (reply_to s act)) (flat_map orders_in (replies_to (after s act) acts)) order among) [
  | inl now ↦ history_more (entry_for s act ∷ history) (after s act) acts (gave order) (happened_each (events_of history) act (reply_to s act) order now)
  | inr later ↦ orders_come (entry_for s act ∷ history) (after s act) acts order later
]

-- AND THE OTHER WAY ROUND: an order among the events is of these replies, or had come before.
given_from : (events : List Event) (orders : List Order) (order : Order) → Contains (given events orders) (gave order) → Contains orders order ⊎ Contains events (gave order)
given_from events [] order among = inr among
given_from events (first ∷ orders) order among = elim (given_from (gave first ∷ events) orders order among) [
  | inl later ↦ inl (contains_more first order orders later)
  | inr now ↦ elim (contains_cases (gave first) (gave order) events now) [
    | inl same ↦ let this : first ≡ order = cc same in inl (subst (Contains (first ∷ orders)) this (contains_first first orders))
    | inr behind ↦ inr behind
  ]
]

happened_from : (events : List Event) (act : Act) (reply : Reply) (order : Order) → Contains (happened events act reply) (gave order) → Contains (orders_in reply) order ⊎ Contains events (gave order)
happened_from events act (Done orders) order among =
    let meant = did (meaning (look_back events) act) in
    elim (given_from (meant ∷ events) orders order among) [
      | inl now ↦ inl now
      | inr before ↦ elim (contains_cases meant (gave order) events before) [
        | inl same ↦ absurd (cc same)
        | inr behind ↦ inr behind
      ]
    ]
happened_from events act (Denied rule) order among = inr among

pub orders_from : (history : List Entry) (s : State) (acts : List Act) (order : Order) → Contains (events_of (history_after history s acts)) (gave order)
    → Contains (flat_map orders_in (replies_to s acts)) order ⊎ Contains (events_of history) (gave order)
orders_from history s [] order among = inr among
orders_from history s (act ∷ acts) order among =
    let reply = reply_to s act in
    let others = flat_map orders_in (replies_to (after s act) acts) in
    elim (orders_from (entry_for s act ∷ history) (after s act) acts order among) [
      | inl later ↦ inl (Contains-append_right (orders_in reply) others order later)
      | inr came ↦ elim (happened_from (events_of history) act reply order came) [
        | inl now ↦ inl (Contains-append_left (orders_in reply) others order now)
        | inr before ↦ inr before
      ]
    ]

-- ONE THING MORE
pub stays_law : LawOfStaying
stays_law telling all event among =
    let known = known_after all in
    history_more known.history known.state (unless_full known.state (acts_of_event telling)) event among
