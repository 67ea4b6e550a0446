-- What holds of each act in order, after all acts before it.
use Rattle.std.proofs.Common.{◌≡◌, ◌<◌, ◌+◌, ℕ, false, List, [], ◌∷◌, ◌++◌, length, take, get_or, Option, Some, None, Result, Ok, Err, IfOk, OnOk, refl, sym, ◌∙◌, ap, subst}
use Rattle.std.proofs.lemmas.List.Elements.{All-weaker}
use Rattle.gate_rules.specs.declared.rule.Rule.{Rule}
use Rattle.gate_state.specs.declared.act.Act.{Act}
use Rattle.gate_state.specs.declared.reply.Head.{Head}
use Rattle.gate_state.specs.declared.reply.Order.{Order}
use Rattle.gate_state.specs.declared.reply.Order.TheVariants.{Stage, Land, Notice}
use Rattle.gate_state.specs.declared.reply.Reply.{Reply}
use Rattle.gate_state.specs.declared.reply.Reply.TheVariants.{Done, Denied}
use Rattle.gate_queue.specs.History.{Entry, Event, Legal, IsReadyToLand, IsRightOrder, denied_by, events_of, orders_in}
use Rattle.gate_queue.specs.Machine.{reply_to, after}
use Rattle.gate_queue.specs.declared.fault.Fault.{Fault}
use Rattle.gate_state.specs.declared.state.State.{State}
use Rattle.gate_store.specs.Headline.{ActsByRule, Each, Headline, HistoryTells, IsAnswered, IsReady, IsRight, LandsRightly, Tells, acts_of_all, entry_for, failing, first_in, history_after}
use Rattle.gate_store.specs.Run.{NoneMeetsFull, Records, after_all, after_deliveries, after_delivery, answer_to, answers_to, meets_full, new_acts}
use Rattle.gate_deliveries.specs.declared.delivery.Delivery.{Delivery}
use Rattle.gate_store.proofs.Firsts.{acts_of_one, acts_push, answered_kept, kept_after, run_kept, state_after}
use Rattle.gate_answers.proofs.Places.{up_to}
use Rattle.gate_store.proofs.Telling.{still_legal}

pub each_append : (P : List Entry → State → Act → Type 0) (history : List Entry) (s : State) (acts others : List Act)
    → Each P history s acts → Each P (history_after history s acts) (after_all s acts) others → Each P history s (acts ++ others)
each_append P history s [] others each rest = rest
each_append P history s (act ∷ acts) others (now, each) rest = (now, each_append P (entry_for s act ∷ history) (after s act) acts others each rest)

each_so : (P Q : List Entry → State → Act → Type 0) → ((history : List Entry) (s : State) (act : Act) → P history s act → Q history s act)
    → (history : List Entry) (s : State) (acts : List Act) → Each P history s acts → Each Q history s acts
each_so P Q so history s [] each = tt
each_so P Q so history s (act ∷ acts) (now, each) = (so history s act now, each_so P Q so (entry_for s act ∷ history) (after s act) acts each)

-- BY RULE
answered_so : (history : List Entry) (s : State) (act : Act) → Tells history s act → ActsByRule history s act
answered_so history s act tells = by (failing history s act) (reply_to s act) refl tells.by_rule where
  by : (fails : Option Rule) (reply : Reply) → reply_to s act ≡ reply → denied_by reply ≡ fails → IsAnswered fails s act
  by None (Done orders) is by_rule = (orders, is)
  by (Some rule) (Done orders) is by_rule = cc by_rule
  by None (Denied rule) is by_rule = cc by_rule
  by (Some rule) (Denied other) is by_rule = let same : other ≡ rule = cc by_rule in (is ∙ ap Denied same, tells.denied other is)

-- LANDING
lands_so : (history : List Entry) (s : State) (act : Act) → Tells history s act → LandsRightly history s act
lands_so history s act tells = All-weaker (IsRightOrder now act) (IsRight now) right (orders_in (reply_to s act)) tells.ordered_rightly where
  now : List Event
  now = events_of (entry_for s act ∷ history)

  ready : (number : ℕ) (staged : Head) → IsReadyToLand now number staged → IsReady now number staged
  ready number staged is = record { standing = is.standing; fit = is.fit; head = is.head; unmoved = is.unmoved }

  right : (order : Order) → IsRightOrder now act order → IsRight now order
  right (Land number base commit) is = (is.tested, All-weaker _ _ (ready number) _ is.ready)
  right (Stage number branch base heads) is = tt
  right (Notice change why) is = tt

-- THE HEADLINE, and what else the history tells, of a run of which each act tells
abbrev pub TellAll : Records → List Delivery → Type 0
TellAll old deliveries = (history : List Entry) → Legal history old.state → Each Tells history old.state (acts_of_all (first_in old deliveries))

pub headline_so : (old : Records) (deliveries : List Delivery) → TellAll old deliveries → Headline old deliveries (answers_to old deliveries) (after_deliveries old deliveries)
headline_so old deliveries tell = record {
  answered = answered_kept old deliveries;
  run = run_kept old deliveries;
  state = state_after old deliveries;
  kept = kept_after old deliveries;
  by_rule = λ history legal. each_so Tells ActsByRule answered_so history old.state _ (tell history legal);
  lands = λ history legal. each_so Tells LandsRightly lands_so history old.state _ (tell history legal);
}

module _ (old new : Records) (deliveries : List Delivery) (led : new ≡ after_deliveries old deliveries) (tell : TellAll old deliveries) where
  pub headline_is : (answers : List (List Reply)) → answers ≡ answers_to old deliveries → Headline old deliveries answers new
  headline_is answers are = subst (λ (a : List (List Reply)). Headline old deliveries a new) (sym are) (subst (Headline old deliveries (answers_to old deliveries)) (sym led) (headline_so old deliveries tell))

  pub tells_is : (history : List Entry) → Legal history old.state → HistoryTells old deliveries new history
  tells_is history legal = record {
    entries = tell history legal;
    legal =
        subst (Legal (history_after history old.state (acts_of_all (first_in old deliveries)))) (sym (ap (λ (records : Records). records.state) led ∙ state_after old deliveries))
        (still_legal history old.state (acts_of_all (first_in old deliveries)) legal (tell history legal));
  }

-- ONE DELIVERY, if it was answered
module _ (old new : Records) (delivery : Delivery) where
  abbrev pub AreTold : Type 0
  AreTold = (history : List Entry) → Legal history old.state → Each Tells history old.state (new_acts old delivery)

  tell_one : AreTold → TellAll old (delivery ∷ [])
  tell_one tell history legal = subst (Each Tells history old.state) (sym (acts_of_one old delivery)) (tell history legal)

  pub headline_one : (result : Result (List Reply) Fault) → IfOk result (λ answer. answer ≡ answer_to old delivery) → OnOk result (new ≡ after_delivery old delivery) → OnOk result AreTold
      → IfOk result (λ answer. Headline old (delivery ∷ []) (answer ∷ []) new)
  headline_one (Ok answer) is led tell = headline_is old new (delivery ∷ []) led (tell_one tell) (answer ∷ []) (ap (λ (a : List Reply). a ∷ []) is)
  headline_one (Err fault) is led tell = tt

  -- by the answer that is due, whatever was handed back for it
  pub headline_due : {X : Type 0} (result : Result X Fault) → OnOk result (new ≡ after_delivery old delivery) → OnOk result AreTold
      → OnOk result (Headline old (delivery ∷ []) (answer_to old delivery ∷ []) new)
  headline_due (Ok done) led tell = headline_is old new (delivery ∷ []) led (tell_one tell) (answer_to old delivery ∷ []) refl
  headline_due (Err fault) led tell = tt

  pub tells_one : {X : Type 0} (result : Result X Fault) → OnOk result (new ≡ after_delivery old delivery) → OnOk result AreTold
      → OnOk result ((history : List Entry) → Legal history old.state → HistoryTells old (delivery ∷ []) new history)
  tells_one (Ok done) led tell = tells_is old new (delivery ∷ []) led (tell_one tell)
  tells_one (Err fault) led tell = tt

-- ONE DELIVERY MORE, the one at a place, after all before it
answers_push : (records : Records) (deliveries : List Delivery) (delivery : Delivery)
    → answers_to records (deliveries ++ delivery ∷ []) ≡ answers_to records deliveries ++ answer_to (after_deliveries records deliveries) delivery ∷ []
answers_push records [] delivery = refl
answers_push records (first ∷ deliveries) delivery = ap (λ (answers : List (List Reply)). answer_to records first ∷ answers) (answers_push (after_delivery records first) deliveries delivery)

records_push : (records : Records) (deliveries : List Delivery) (delivery : Delivery)
    → after_deliveries records (deliveries ++ delivery ∷ []) ≡ after_delivery (after_deliveries records deliveries) delivery
records_push records [] delivery = refl
records_push records (first ∷ deliveries) delivery = records_push (after_delivery records first) deliveries delivery

room_push : (records : Records) (deliveries : List Delivery) (delivery : Delivery)
    → NoneMeetsFull records deliveries → meets_full (after_deliveries records deliveries) delivery ≡ false → NoneMeetsFull records (deliveries ++ delivery ∷ [])
room_push records [] delivery none room = (room, tt)
room_push records (first ∷ deliveries) delivery (here, none) room = (here, room_push (after_delivery records first) deliveries delivery none room)

module _ (old now : Records) (deliveries : List Delivery) (place : ℕ) (delivery : Delivery) (at : delivery ≡ get_or deliveries place delivery) (within : place < length deliveries)
    (led : now ≡ after_deliveries old (take place deliveries)) where
  pub answers_more : (answers : List (List Reply)) (answer : List Reply) → answers ≡ answers_to old (take place deliveries) → answer ≡ answer_to now delivery
      → answers ++ answer ∷ [] ≡ answers_to old (take (place + 1) deliveries)
  answers_more answers answer are is =
      (λ i. are i ++ (is ∙ ap (λ (records : Records). answer_to records delivery) led) i ∷ [])
      ∙ sym (ap (answers_to old) (up_to deliveries place delivery at within) ∙ answers_push old (take place deliveries) delivery)

  pub led_more : (next : Records) → next ≡ after_delivery now delivery → next ≡ after_deliveries old (take (place + 1) deliveries)
  led_more next is =
      is ∙ ap (λ (records : Records). after_delivery records delivery) led ∙ sym (ap (after_deliveries old) (up_to deliveries place delivery at within) ∙ records_push old (take place deliveries) delivery)

  pub room_more : NoneMeetsFull old (take place deliveries) → meets_full now delivery ≡ false → NoneMeetsFull old (take (place + 1) deliveries)
  room_more none room =
      rw (up_to deliveries place delivery at within) (room_push old (take place deliveries) delivery none (subst (λ (records : Records). meets_full records delivery ≡ false) led room))

  pub tell_more : TellAll old (take place deliveries) → ((history : List Entry) → Legal history now.state → Each Tells history now.state (new_acts now delivery))
      → TellAll old (take (place + 1) deliveries)
  tell_more tell tells history legal =
      let acts = acts_of_all (first_in old (take place deliveries)) in
      let at_now : now.state ≡ after_all old.state acts = ap (λ (records : Records). records.state) led ∙ state_after old (take place deliveries) in
      let told = tell history legal in
      let still = subst (Legal (history_after history old.state acts)) (sym at_now) (still_legal history old.state acts legal told) in
      let here = subst (λ (records : Records). Each Tells (history_after history old.state acts) now.state (new_acts records delivery)) led (tells _ still) in
      let there = subst (λ (s : State). Each Tells (history_after history old.state acts) s (new_acts (after_deliveries old (take place deliveries)) delivery)) at_now here in
      subst (Each Tells history old.state) (sym (ap (λ (all : List Delivery). acts_of_all (first_in old all)) (up_to deliveries place delivery at within) ∙ acts_push old (take place deliveries) delivery))
      (each_append Tells history old.state acts _ told there)
