-- What is known after one thing more was told: it is legal, and each event comes of what was told.
use Rattle.std.proofs.Common.{◌≡◌, ℕ, ◌+◌, ◌≤◌, Bool, true, false, not, ◌&&◌, cond, is_some, List, [], ◌∷◌, refl, sym, ◌∙◌, ap, subst, append-nil, nat_cmp, arith}
use Rattle.std.proofs.lemmas.List.Elements.{All-cons, All-nil}
use Rattle.std.specs.Cmp.Lexicographic.{slice_cmp}
use Rattle.std.specs.FinMap as finite
use Rattle.std.specs.List.{Contains}
use Rattle.gate_deliveries.specs.Acts.{EventKeepsLimits, acts_of_event}
use Rattle.gate_deliveries.specs.declared.delivery.Delivery.{Delivery}
use Rattle.gate_deliveries.specs.declared.delivery.Event.{Event as Telling}
use Rattle.gate_deliveries.specs.declared.delivery.Event.TheVariants as telling
use Rattle.gate_text.specs.Reading.{comment_says}
use Rattle.gate_guard.specs.Knowing.{Known, after_acts, events_after, known_after}
use Rattle.gate_guard.specs.World.{Checking, TellsTruly, Merging}
use Rattle.gate_queue.specs.History.{Entry, Event, IsRightLanding, Legal, events_of, gave, landings, stages}
use Rattle.gate_queue.specs.Machine.{reply_to}
use Rattle.gate_queue.specs.Vocabulary.{Fact, Happened, Land, Other}
use Rattle.gate_state.specs.declared.act.Fact.TheVariants as fact
use Rattle.gate_state.specs.declared.state.State.{State}
use Rattle.gate_store.specs.Headline.{Each, KeepLimits, LawOfTelling, Tells, acts_of_all, entry_for, first_in, history_after}
use Rattle.gate_store.specs.Run.{Records, acts_meet_full, after_all, is_known}
use Rattle.gate_store.proofs.Telling.{still_legal}
use Rattle.gate_guard.proofs.Lists.{EachOf, each_so}
use Rattle.gate_guard.proofs.Tracing.{CameOf, CameRightly, Traced, deed_entry, deeds_traced, reply_traced, still_traced}

-- BY THE LAW OF DELIVERIES: what one new delivery tells, after a legal history
module _ (law : LawOfTelling) where
  told_so : (history : List Entry) (s : State) (event : Telling) → Legal history s → EventKeepsLimits event → acts_meet_full s (acts_of_event event) ≡ false
      → Each Tells history s (acts_of_event event) × Legal (history_after history s (acts_of_event event)) (after_all s (acts_of_event event))
  told_so history s event legal keeps room =
      let delivery : Delivery = record { id = []; event = event } in
      let old : Records = record { state = s; kept = finite.empty } in
      let new : is_known old [] ≡ false = ap is_some (finite.get-empty (slice_cmp nat_cmp) []) in
      let keep : KeepLimits (delivery ∷ []) = All-cons (λ (other : Delivery). EventKeepsLimits other.event) delivery [] keeps (All-nil (λ (other : Delivery). EventKeepsLimits other.event)) in
      let told = law old (delivery ∷ []) keep (ap (λ known. not known && acts_meet_full s (acts_of_event event)) new ∙ room, tt) history legal in
      let acts : acts_of_all (first_in old (delivery ∷ [])) ≡ acts_of_event event = ap (λ known. acts_of_all (cond known [] (delivery ∷ []))) new ∙ append-nil (acts_of_event event) in
      let each = subst (Each Tells history s) acts told.entries in
      (each, still_legal history s (acts_of_event event) legal each)

-- what a reading of the clock keeps
keeps : (joins : Merging) (says : Checking) (earlier : List Telling) (event : Telling) → TellsTruly joins says earlier event → EventKeepsLimits event
keeps joins says earlier (telling.Other (fact.Tick now)) so = so
keeps joins says earlier (telling.Other fact) so = tt
keeps joins says earlier (telling.On change changed) so = tt
keeps joins says earlier (telling.Comment change person text) so = tt

-- ALL THAT IS KNOWN: the history is legal, and each of its events comes of what was told.
pub record IsTraced (told : List Telling) (known : Known) : Type 0 where
  pub legal : Legal known.history known.state
  pub traced : EachOf (Traced told) (events_of known.history)

module _ (law : LawOfTelling) (joins : Merging) (says : Checking) (told : List Telling) (event : Telling) (was : IsTraced told (known_after told)) where
  abbrev known : Known
  known = known_after told

  abbrev events : List Event
  events = events_after told

  abbrev now : List Telling
  now = event ∷ told

  -- what was known comes of all this too
  before : EachOf (Traced now) events
  before = each_so (Traced told) (Traced now) (still_traced event told) events was.traced

  unchanged : IsTraced now known
  unchanged = record { legal = was.legal; traced = before }

  by_telling : (this : Telling) → event ≡ this → acts_meet_full known.state (acts_of_event this) ≡ false → EventKeepsLimits this
      → known_after now ≡ after_acts known (acts_of_event this) → IsTraced now (after_acts known (acts_of_event this))
  by_telling (telling.Comment change person text) is room limits so =
      let tells = told_so law known.history known.state (telling.Comment change person text) was.legal limits room in
      record { legal = tells.1; traced = deeds_traced now known.history known.state change person (comment_says text) tells.0 before }
  by_telling (telling.On change changed) is room limits so =
      let tells = told_so law known.history known.state (telling.On change changed) was.legal limits room in
      record { legal = tells.1; traced = deed_entry now known.history known.state change (Happened changed) tells.0.0 before }
  by_telling (telling.Other fact) is room limits so =
      let tells = told_so law known.history known.state (telling.Other fact) was.legal limits room in
      record {
        legal = tells.1;
        traced =
            reply_traced now all events (Other fact) (lands tells.0.0.staged_once tells.0.0.landed_once) events (reply_to known.state (Other fact)) refl (λ number. omega arith) tells.0.0.ordered_rightly came before;
      } where
        all : List Event
        all = events_of (entry_for known.state (Other fact) ∷ known.history)

        came : CameOf now fact events
        came = record { was = record { later = []; earlier = told; cut = ap (λ (this : Telling). this ∷ told) is }; at = refl }

        same_fact : {other : Fact} → Other fact ≡ Other other → fact ≡ other
        same_fact same = cc same

        lands : ((number : ℕ) → stages number all ≤ 1) → ((number : ℕ) → landings number all ≤ 1) → (batch : ℕ) (from to : List ℕ) → IsRightLanding all (Other fact) batch from to → Contains all (gave (Land batch from to))
            → 1 + landings batch events ≤ landings batch all → CameRightly now batch from to
        lands once landed batch from to right among more =
            let few = landed batch in
            let here : events_after now ≡ all = ap (λ (k : Known). events_of k.history) so in
            record {
              later = [];
              until = now;
              cut = refl;
              act = Other fact;
              right = subst (λ (these : List Event). IsRightLanding these (Other fact) batch from to) (sym here) right;
              name = right.name;
              earlier = told;
              last = ap (λ (this : Telling). this ∷ told) is ∙ ap (λ (this : Fact). telling.Other this ∷ told) (same_fact right.success);
              new = omega arith;
              once = subst (λ (these : List Event). stages batch these ≤ 1) (sym here) (once batch);
              ordered = subst (λ (these : List Event). Contains these (gave (Land batch from to))) (sym here) among;
            }

  by_room : (full : Bool) → acts_meet_full known.state (acts_of_event event) ≡ full → TellsTruly joins says told event
      → known_after now ≡ after_acts known (cond full [] (acts_of_event event)) → IsTraced now (after_acts known (cond full [] (acts_of_event event)))
  by_room true room true_so so = unchanged
  by_room false room true_so so = by_telling event refl room (keeps joins says told event true_so) so

  pub traced_next : TellsTruly joins says told event → IsTraced now (known_after now)
  traced_next true_so = by_room (acts_meet_full known.state (acts_of_event event)) refl true_so refl
