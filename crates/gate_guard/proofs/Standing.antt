-- Where the records of a keeper stand after one delivery more.
use Rattle.std.proofs.Common.{◌≡◌, ◌⊎◌, false, not, ◌&&◌, cond, List, [], ◌∷◌, Option, None, Some, is_some, refl, sym, ◌∙◌, ap, subst, unwrap_or}
use Rattle.std.specs.List.{Contains, flat_map}
use Rattle.gate_deliveries.specs.Acts.{acts_of_event}
use Rattle.gate_deliveries.specs.declared.delivery.Delivery.{Delivery}
use Rattle.gate_deliveries.specs.declared.delivery.Event.{Event as Telling}
use Rattle.gate_guard.specs.Knowing.{HaveCome, Known, events_after, known_after, unless_full}
use Rattle.gate_guard.specs.Moves.{LawOfDelivering}
use Rattle.gate_queue.specs.History.{events_of, gave, orders_in}
use Rattle.gate_state.specs.declared.act.Act.{Act}
use Rattle.gate_state.specs.declared.reply.Order.{Order}
use Rattle.gate_state.specs.declared.reply.Reply.{Reply}
use Rattle.gate_state.specs.declared.state.State.{State}
use Rattle.gate_store.specs.Headline.{history_after}
use Rattle.gate_store.specs.Run.{Records, acts_meet_full, after_all, after_delivery, answer_to, is_known, kept_under, meets_full, replies_to, stepped}
use Rattle.gate_guard.proofs.Coming.{orders_come, orders_from}

-- over records that stand where all that was told before leads
module _ (records : Records) (told : List Telling) (at : records.state ≡ (known_after told).state) (delivery : Delivery) (unknown : is_known records delivery.id ≡ false)
    (room : meets_full records delivery ≡ false) where
  abbrev acts : List Act
  acts = acts_of_event delivery.event

  abbrev known : Known
  known = known_after told

  none_or : (kept : Option (List Reply)) (replies : List Reply) → is_some kept ≡ false → unwrap_or kept replies ≡ replies
  none_or None replies is = refl
  none_or (Some answer) replies is = cc is

  answer_is : answer_to records delivery ≡ replies_to known.state acts
  answer_is = none_or (kept_under records delivery.id) (replies_to records.state acts) unknown ∙ ap (λ (s : State). replies_to s acts) at

  taken : unless_full known.state acts ≡ acts
  taken =
      let met : acts_meet_full records.state acts ≡ false = ap (λ b. not b && acts_meet_full records.state acts) (sym unknown) ∙ room in
      ap (λ b. cond b [] acts) (ap (λ (s : State). acts_meet_full s acts) (sym at) ∙ met)

  next_state : (after_delivery records delivery).state ≡ (known_after (delivery.event ∷ told)).state
  next_state =
      ap (λ b. (cond b records (stepped records delivery)).state) unknown
      ∙ ap (λ (s : State). after_all s acts) at
      ∙ ap (after_all known.state) (sym taken)

  next_orders : HaveCome (delivery.event ∷ told) (answer_to records delivery)
  next_orders order among =
      subst (λ (these : List Act). Contains (events_of (history_after known.history known.state these)) (gave order)) (sym taken)
      (orders_come known.history known.state acts order (subst (λ (replies : List Reply). Contains (flat_map orders_in replies) order) answer_is among))

  -- what has come is of its answer, or had come before
  next_answered : (order : Order) → Contains (events_after (delivery.event ∷ told)) (gave order) → Contains (flat_map orders_in (answer_to records delivery)) order ⊎ Contains (events_after told) (gave order)
  next_answered order among =
      subst (λ (replies : List Reply). Contains (flat_map orders_in replies) order ⊎ Contains (events_after told) (gave order)) (sym answer_is)
      (orders_from known.history known.state acts order (subst (λ (these : List Act). Contains (events_of (history_after known.history known.state these)) (gave order)) taken among))

pub delivering_law : LawOfDelivering
delivering_law records told delivery at unknown room = record {
  state = next_state records told at delivery unknown room;
  come = next_orders records told at delivery unknown room;
  answered = next_answered records told at delivery unknown room;
}
