-- What every list of deliveries tells of which none meets a full gate, by the law of entries and that of comments.
use Rattle.std.proofs.Common.{◌+◌, ◌≡◌, ◌≤◌, ℕ, nat_lt, Bool, true, false, not, ◌||◌, ◌&&◌, cond, List, [], ◌∷◌, ◌++◌, refl, ◌∙◌, ap, subst, arith}
use Rattle.std.proofs.lemmas.Bool.Decides.{nat_tests}
use Rattle.std.proofs.lemmas.List.Elements.{All-nil, All-append, All-head, All-tail}
use Rattle.std.specs.List.{All}
use Rattle.gate_text.specs.Limits.{KeepsLimits}
use Rattle.gate_text.specs.Reading.{comment_says}
use Rattle.gate_state.specs.declared.state.State.{State}
use Rattle.gate_state.specs.Acts.{ActKeepsLimits}
use Rattle.gate_state.specs.Room.{is_full}
use Rattle.gate_state.specs.declared.act.Act.{Act}
use Rattle.gate_state.specs.declared.act.Act.TheVariants as act
use Rattle.gate_state.specs.declared.act.Deed.TheVariants.{Happened}
use Rattle.gate_queue.specs.History.{Entry, Legal, LawOfEntries}
use Rattle.gate_queue.specs.Machine.{after}
use Rattle.gate_deliveries.specs.Acts.{EventKeepsLimits, acts_of_event}
use Rattle.gate_store.specs.Headline.{Each, KeepLimits, LawOfHeadlines, LawOfTelling, Tells, acts_of_all, entry_for, first_in, firsts, or_same}
use Rattle.gate_store.specs.Run.{NoneMeetsFull, Records, acts_in, acts_meet_full, after_all, after_deliveries, after_delivery, is_known, meets_full, new_acts}
use Rattle.gate_deliveries.specs.declared.delivery.Delivery.{Delivery}
use Rattle.gate_deliveries.specs.declared.delivery.Event.{Event}
use Rattle.gate_deliveries.specs.declared.delivery.Event.TheVariants.{Comment, On, Other}
use Rattle.gate_deliveries.proofs.ActLimits.{all_keep, one_keeps}
use Rattle.gate_store.proofs.Firsts.{first_step, one_state}
use Rattle.gate_store.proofs.Runs.{TellAll, headline_so, tells_is}

neither : (a b : Bool) → (a || b) ≡ false → (a ≡ false) × (b ≡ false)
neither false b none = (refl, none)
neither true b none = cc none

-- NO ACT of the first deliveries meets a full gate.
still_room : (s : State) (acts others : List Act) → acts_meet_full s acts ≡ false → acts_meet_full (after_all s acts) others ≡ false → acts_meet_full s (acts ++ others) ≡ false
still_room s [] others room later = later
still_room s (act ∷ acts) others room later =
    let rooms = neither (is_full s.queue) (acts_meet_full (after s act) acts) room in
    ap (λ (b : Bool). b || acts_meet_full (after s act) (acts ++ others)) rooms.0 ∙ still_room (after s act) acts others rooms.1 later

new_room : (records : Records) (delivery : Delivery) → meets_full records delivery ≡ false → acts_meet_full records.state (new_acts records delivery) ≡ false
new_room records delivery room = by (is_known records delivery.id) room where
  by : (known : Bool) → (not known && acts_meet_full records.state (acts_in delivery)) ≡ false → acts_meet_full records.state (cond known [] (acts_in delivery)) ≡ false
  by true room = refl
  by false room = room

all_room : (records : Records) (deliveries : List Delivery) → NoneMeetsFull records deliveries → acts_meet_full records.state (acts_of_all (first_in records deliveries)) ≡ false
all_room records [] none = refl
all_room records (delivery ∷ deliveries) (room, none) =
    let others = acts_of_all (first_in (after_delivery records delivery) deliveries) in
    let later = subst (λ (s : State). acts_meet_full s others ≡ false) (one_state records delivery) (all_room (after_delivery records delivery) deliveries none) in
    ap (acts_meet_full records.state) (first_step records delivery deliveries)
    ∙ still_room records.state (new_acts records delivery) others (new_room records delivery room) later

-- EACH ACT KEEPS ITS LIMITS, if all that comments say does.
module _ (limits : (text : List ℕ) → All KeepsLimits (comment_says text)) where
  event_keeps : (event : Event) → EventKeepsLimits event → All ActKeepsLimits (acts_of_event event)
  event_keeps (Comment change person text) keeps = all_keep change person (comment_says text) (limits text)
  event_keeps (On change fact) keeps = one_keeps (act.On change (Happened fact)) tt
  event_keeps (Other fact) keeps = one_keeps (act.Other fact) keeps

  firsts_keep : (known : List ℕ → Bool) (deliveries : List Delivery) → KeepLimits deliveries → All ActKeepsLimits (acts_of_all (firsts known deliveries))
  firsts_keep known [] keep = All-nil ActKeepsLimits
  firsts_keep known (delivery ∷ deliveries) keep = by (known delivery.id) (firsts_keep known deliveries later) (firsts_keep (or_same delivery.id known) deliveries later) where
    keeps : Delivery → Type 0
    keeps other = EventKeepsLimits other.event

    later : KeepLimits deliveries
    later = All-tail keeps delivery deliveries keep

    by : (repeated : Bool) → All ActKeepsLimits (acts_of_all (firsts known deliveries)) → All ActKeepsLimits (acts_of_all (firsts (or_same delivery.id known) deliveries))
        → All ActKeepsLimits (acts_of_all (cond repeated (firsts known deliveries) (delivery ∷ firsts (or_same delivery.id known) deliveries)))
    by true same next = same
    by false same next =
        All-append ActKeepsLimits (acts_in delivery) (acts_of_all (firsts (or_same delivery.id known) deliveries)) (event_keeps delivery.event (All-head keeps delivery deliveries keep)) next

-- EACH ACT TELLS.
room_for : (n : ℕ) → nat_lt 9_000_000_000_000_000 (n + 4) ≡ false → n + 4 ≤ 9_000_000_000_000_000
room_for n room = grind (arith, nat_tests)

module _ (entries : LawOfEntries) where
  each_tells : (history : List Entry) (s : State) (acts : List Act) → Legal history s → acts_meet_full s acts ≡ false → All ActKeepsLimits acts → Each Tells history s acts
  each_tells history s [] legal room keep = tt
  each_tells history s (act ∷ acts) legal room keep =
      let rooms = neither (is_full s.queue) (acts_meet_full (after s act) acts) room in
      let now : Tells history s act = entries history s act legal (room_for s.queue.next rooms.0) (All-head ActKeepsLimits act acts keep) in
      (now, each_tells (entry_for s act ∷ history) (after s act) acts now.legal rooms.1 (All-tail ActKeepsLimits act acts keep))

  -- THE LIMITS of what comments say
  module _ (limits : (text : List ℕ) → All KeepsLimits (comment_says text)) where
    all_tell : (old : Records) (deliveries : List Delivery) → KeepLimits deliveries → NoneMeetsFull old deliveries → TellAll old deliveries
    all_tell old deliveries keep none history legal =
        each_tells history old.state (acts_of_all (first_in old deliveries)) legal (all_room old deliveries none) (firsts_keep limits (is_known old) deliveries keep)

    pub headline_law : LawOfHeadlines
    headline_law old deliveries keep none = headline_so old deliveries (all_tell old deliveries keep none)

    pub telling_law : LawOfTelling
    telling_law old deliveries keep none = tells_is old (after_deliveries old deliveries) deliveries refl (all_tell old deliveries keep none)
