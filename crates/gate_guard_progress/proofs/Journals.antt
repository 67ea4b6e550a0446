-- Hosts that write down what they do, and may stop at any moment.
use Rattle.std.proofs.Common.{◌≡◌, ◌⊎◌, ◌<◌, ◌==◌, ℕ, nat_lt, Bool, true, false, ◌||◌, ◌&&◌, not, cond, List, [], ◌∷◌, ◌++◌, length, drop, take, Option, Some, None, is_some, map as list_map, refl, sym, ◌∙◌, ap, subst, inl, inr, append_assoc, append-nil, take-append-drop, arith}
use Rattle.std.proofs.lemmas.Bool.Decides.{nat_tests}
use Rattle.std.proofs.lemmas.List.{length_push}
use Rattle.std.proofs.lemmas.List.Elements.{All-append, All-cons, All-nil}
use Rattle.std.specs.Cmp.Lexicographic.{bytes_decides, nat_list_cmp_total, slice_cmp, texts_ties}
use Rattle.std.specs.FinMap as finite
use Rattle.std.specs.List.{All}
use Rattle.std.specs.Option.{unwrap_or}
use Rattle.std.specs.Ordering.{nat_cmp}
use Rattle.std.specs.Str.{bytes_eq}
use Rattle.gate_deliveries.specs.declared.delivery.Delivery.{Delivery}
use Rattle.gate_guard.specs.Moves.{LawOfDelivering}
use Rattle.gate_guard.specs.World.{Step, told as told_step, told_in}
use Rattle.gate_guard_progress.proofs.Standing.{neither}
use Rattle.gate_guard_progress.proofs.Starting.{after_both, answers_to_both, kept_here, starts_law}
use Rattle.gate_guard_progress.specs.Journals.{AreDistinct, Doing, Entry, Host, IsAfter, IsLater, LawOfJournals, LawOfShowing, StandsAfter, after_doings, after_one, answered, answers_in, deliveries_in, first_host, hand_first, handed_in, has_id, hands_in, is_among, keep_answer, keeps, marks, may_be_shown, no_records, notes, other, refills, repeats, shows, stops, with_delivery, with_entry, with_journal, with_mark, with_records, with_shown, writes, written_in}
use Rattle.gate_guard_progress.specs.Standing.{state_after, tell}
use Rattle.gate_state.specs.declared.reply.Reply.{Reply}
use Rattle.gate_store.proofs.Firsts.{kept_after}
use Rattle.gate_store.specs.Run.{NoneMeetsFull, Records, acts_in, acts_meet_full, after_deliveries, after_delivery, answer_to, answers_to, is_known, kept_under, meets_full, replies_to, stepped}

-- ONE ENTRY MORE
deliveries_push : (entries : List Entry) (delivery : Delivery) (answer : List Reply) → deliveries_in (entries ++ answered delivery answer ∷ []) ≡ deliveries_in entries ++ delivery ∷ []
deliveries_push [] delivery answer = refl
deliveries_push (answered first its ∷ entries) delivery answer = ap (λ (more : List Delivery). first ∷ more) (deliveries_push entries delivery answer)
deliveries_push (other ∷ entries) delivery answer = deliveries_push entries delivery answer

answers_push : (entries : List Entry) (delivery : Delivery) (answer : List Reply) → answers_in (entries ++ answered delivery answer ∷ []) ≡ answers_in entries ++ answer ∷ []
answers_push [] delivery answer = refl
answers_push (answered first its ∷ entries) delivery answer = ap (λ (more : List (List Reply)). its ∷ more) (answers_push entries delivery answer)
answers_push (other ∷ entries) delivery answer = answers_push entries delivery answer

deliveries_other : (entries : List Entry) → deliveries_in (entries ++ other ∷ []) ≡ deliveries_in entries
deliveries_other [] = refl
deliveries_other (answered first its ∷ entries) = ap (λ (more : List Delivery). first ∷ more) (deliveries_other entries)
deliveries_other (other ∷ entries) = deliveries_other entries

answers_other : (entries : List Entry) → answers_in (entries ++ other ∷ []) ≡ answers_in entries
answers_other [] = refl
answers_other (answered first its ∷ entries) = ap (λ (more : List (List Reply)). its ∷ more) (answers_other entries)
answers_other (other ∷ entries) = answers_other entries

-- IDENTIFIERS
turned : (one two : List ℕ) → bytes_eq one two ≡ false → bytes_eq two one ≡ false
turned one two differ = by (bytes_eq two one) refl where
  by : (same : Bool) → bytes_eq two one ≡ same → same ≡ false
  by false is = refl
  by true is = let again : bytes_eq one two ≡ true = (bytes_decides one two).1 (sym ((bytes_decides two one).0 is)) in cc (again, differ)

none_push : (deliveries : List Delivery) (delivery : Delivery) (id : List ℕ) → has_id deliveries id ≡ false → bytes_eq delivery.id id ≡ false
    → has_id (deliveries ++ delivery ∷ []) id ≡ false
none_push [] delivery id none differ = ap (λ (b : Bool). b || false) differ
none_push (first ∷ deliveries) delivery id none differ =
    let both = neither (bytes_eq first.id id) (has_id deliveries id) none in
    ap (λ (b : Bool). b || has_id (deliveries ++ delivery ∷ []) id) both.0 ∙ none_push deliveries delivery id both.1 differ

distinct_push : (deliveries : List Delivery) (delivery : Delivery) → AreDistinct deliveries → has_id deliveries delivery.id ≡ false → AreDistinct (deliveries ++ delivery ∷ [])
distinct_push [] delivery distinct none = (refl, tt)
distinct_push (first ∷ deliveries) delivery (only, rest) none =
    let both = neither (bytes_eq first.id delivery.id) (has_id deliveries delivery.id) none in
    (none_push deliveries delivery first.id only (turned first.id delivery.id both.0), distinct_push deliveries delivery rest both.1)

distinct_front : (deliveries more : List Delivery) → AreDistinct (deliveries ++ more) → AreDistinct deliveries
distinct_front [] more distinct = tt
distinct_front (first ∷ deliveries) more (only, rest) = (none_front deliveries more first.id only, distinct_front deliveries more rest) where
  none_front : (these those : List Delivery) (id : List ℕ) → has_id (these ++ those) id ≡ false → has_id these id ≡ false
  none_front [] those id none = refl
  none_front (this ∷ these) those id none =
      let both = neither (bytes_eq this.id id) (has_id (these ++ those) id) none in
      ap (λ (b : Bool). b || has_id these id) both.0 ∙ none_front these those id both.1

-- WHAT IS NEW to the bot stays so, if a delivery of another identifier is handed in.
kept_so : (records : Records) (delivery : Delivery) (id : List ℕ)
    → kept_under (stepped records delivery) id ≡ cond (bytes_eq id delivery.id) (Some (replies_to records.state (acts_in delivery))) (kept_under records id)
kept_so records delivery id =
    let answer = replies_to records.state (acts_in delivery) in
    finite.get-insert nat_list_cmp_total records.kept delivery.id answer id
    ∙ ap (λ (b : Bool). cond b (Some answer) (kept_under records id)) (sym (texts_ties id delivery.id))

new_still : (records : Records) (delivery : Delivery) (id : List ℕ) → is_known records id ≡ false → bytes_eq id delivery.id ≡ false → is_known (after_delivery records delivery) id ≡ false
new_still records delivery id new differ = by (is_known records delivery.id) where
  by : (known : Bool) → is_known (cond known records (stepped records delivery)) id ≡ false
  by true = new
  by false =
      ap is_some (kept_so records delivery id)
      ∙ ap (λ (b : Bool). is_some (cond b (Some (replies_to records.state (acts_in delivery))) (kept_under records id))) differ
      ∙ new

abbrev AreNew : Records → List Delivery → Type 0
AreNew records [] = Unit
AreNew records (delivery ∷ deliveries) = (is_known records delivery.id ≡ false) × AreNew records deliveries

news_still : (records : Records) (delivery : Delivery) (deliveries : List Delivery) → has_id deliveries delivery.id ≡ false → AreNew records deliveries
    → AreNew (after_delivery records delivery) deliveries
news_still records delivery [] none new = tt
news_still records delivery (first ∷ deliveries) none (new, news) =
    let both = neither (bytes_eq first.id delivery.id) (has_id deliveries delivery.id) none in
    (new_still records delivery first.id new both.0, news_still records delivery deliveries both.1 news)

all_new : (deliveries : List Delivery) → AreNew no_records deliveries
all_new [] = tt
all_new (delivery ∷ deliveries) = (ap is_some (finite.get-empty (slice_cmp nat_cmp) delivery.id), all_new deliveries)

-- WHERE THE BOT STANDS: what comes once, and meets no full gate, leads it where what was told leads.
module _ (delivering : LawOfDelivering) where
  leads : (records : Records) (before : List Step) (deliveries : List Delivery) → records.state ≡ state_after before
      → AreNew records deliveries → AreDistinct deliveries → NoneMeetsFull records deliveries
      → (after_deliveries records deliveries).state ≡ state_after (tell (list_map (λ (delivery : Delivery). delivery.event) deliveries) before)
  leads records before [] stands new distinct room = stands
  leads records before (delivery ∷ deliveries) stands (new, news) (only, rest) (room, rooms) =
      leads (after_delivery records delivery) (told_step delivery.event ∷ before) deliveries
      (delivering records (told_in before) delivery stands new room).state
      (news_still records delivery deliveries only news) rest rooms

-- WHAT IS HANDED IN ONCE MORE
known_same : (records : Records) (delivery : Delivery) → is_known records delivery.id ≡ true → after_delivery records delivery ≡ records
known_same records delivery known = ap (λ (b : Bool). cond b records (stepped records delivery)) known

again_same : (records : Records) (delivery : Delivery) → after_delivery (after_delivery records delivery) delivery ≡ after_delivery records delivery
again_same records delivery = known_same (after_delivery records delivery) delivery (ap is_some (kept_here records delivery))

again_answer : (records : Records) (delivery : Delivery) → answer_to (after_delivery records delivery) delivery ≡ answer_to records delivery
again_answer records delivery =
    let next = after_delivery records delivery in
    ap (λ (had : Option (List Reply)). unwrap_or had (replies_to next.state (acts_in delivery))) (kept_here records delivery)

known_still : (records : Records) (more : List Delivery) (id : List ℕ) → is_known records id ≡ true → is_known (after_deliveries records more) id ≡ true
known_still records more id known = by (kept_under records id) refl where
  by : (had : Option (List Reply)) → kept_under records id ≡ had → is_known (after_deliveries records more) id ≡ true
  by None none = let its : is_some (kept_under records id) ≡ false = ap is_some none in cc (known, its)
  by (Some answer) is = ap is_some (kept_after records more id answer is)

known_among : (records : Records) (deliveries : List Delivery) (id : List ℕ) → has_id deliveries id ≡ true → is_known (after_deliveries records deliveries) id ≡ true
known_among records [] id none = cc none
known_among records (first ∷ deliveries) id has = by (bytes_eq first.id id) refl (known_among (after_delivery records first) deliveries id) where
  next : Records
  next = after_delivery records first

  by : (same : Bool) → bytes_eq first.id id ≡ same → (has_id deliveries id ≡ true → is_known (after_deliveries next deliveries) id ≡ true)
      → is_known (after_deliveries next deliveries) id ≡ true
  by true is among =
      let known : is_known next first.id ≡ true = ap is_some (kept_here records first) in
      known_still next deliveries id (ap (is_known next) (sym ((bytes_decides first.id id).0 is)) ∙ known)
  by false differ among = among (sym (ap (λ (b : Bool). b || has_id deliveries id) differ) ∙ has)

refill : (deliveries : List Delivery) (many : ℕ) → after_deliveries (after_deliveries no_records (take many deliveries)) deliveries ≡ after_deliveries no_records deliveries
refill deliveries many =
    let both : take many deliveries ++ drop many deliveries ≡ deliveries = take-append-drop many deliveries in
    subst (λ (all : List Delivery). after_deliveries (after_deliveries no_records (take many deliveries)) all ≡ after_deliveries no_records all) both
    (starts_law no_records (take many deliveries) (drop many deliveries)).same

-- A delivery that is known meets no full gate.
known_room : (records : Records) (delivery : Delivery) → is_known records delivery.id ≡ true → meets_full records delivery ≡ false
known_room records delivery known = ap (λ (b : Bool). not b && acts_meet_full records.state (acts_in delivery)) known

room_push : (records : Records) (deliveries : List Delivery) (delivery : Delivery) → NoneMeetsFull records deliveries
    → meets_full (after_deliveries records deliveries) delivery ≡ false → NoneMeetsFull records (deliveries ++ delivery ∷ [])
room_push records [] delivery rooms room = (room, tt)
room_push records (first ∷ deliveries) delivery (here, rooms) room = (here, room_push (after_delivery records first) deliveries delivery rooms room)

-- WHERE A HOST STANDS after so many deliveries with these answers: its bot is there, or has acted on the first that waits as well.
record IsIdle (stood records : Records) (heard : Option (List Reply)) : Type 0 where
  at : records ≡ stood
  none : heard ≡ None

record IsHanded (stood records : Records) (heard : Option (List Reply)) (waiting : List Delivery) : Type 0 where
  next : Delivery
  later : List Delivery
  waits : waiting ≡ next ∷ later
  at : records ≡ after_delivery stood next
  room : meets_full stood next ≡ false
  heard_it : (heard ≡ None) ⊎ (heard ≡ Some (answer_to stood next))

record Stands (deliveries : List Delivery) (answers : List (List Reply)) (records : Records) (heard : Option (List Reply)) (waiting : List Delivery) : Type 0 where
  are : answers ≡ answers_to no_records deliveries
  room : NoneMeetsFull no_records deliveries
  place : IsIdle (after_deliveries no_records deliveries) records heard ⊎ IsHanded (after_deliveries no_records deliveries) records heard waiting

abbrev HostStands : Host → Type 0
HostStands host = Stands (deliveries_in host.journal.entries) (answers_in host.journal.entries) host.records host.heard host.journal.waiting

-- It writes a delivery down, or stops.
stands_more : (deliveries waiting : List Delivery) (answers : List (List Reply)) (records : Records) (heard : Option (List Reply)) (delivery : Delivery)
    → Stands deliveries answers records heard waiting → Stands deliveries answers records heard (waiting ++ delivery ∷ [])
stands_more deliveries waiting answers records heard delivery stands = record {
  are = stands.are;
  room = stands.room;
  place = elim stands.place [
    | inl idle ↦ inl idle
    | inr handed ↦ inr record {
      next = handed.next;
      later = handed.later ++ delivery ∷ [];
      waits = ap (λ (those : List Delivery). those ++ delivery ∷ []) handed.waits;
      at = handed.at;
      room = handed.room;
      heard_it = handed.heard_it;
    }
  ];
}

stands_begun : (deliveries waiting : List Delivery) (answers : List (List Reply)) (records : Records) (heard : Option (List Reply))
    → Stands deliveries answers records heard waiting → Stands deliveries answers records None waiting
stands_begun deliveries waiting answers records heard stands = record {
  are = stands.are;
  room = stands.room;
  place = elim stands.place [
    | inl idle ↦ inl record { at = idle.at; none = refl }
    | inr handed ↦ inr record { next = handed.next; later = handed.later; waits = handed.waits; at = handed.at; room = handed.room; heard_it = inl refl }
  ];
}

-- It hands the first in.
module _ (deliveries : List Delivery) (answers : List (List Reply)) (records : Records) (heard : Option (List Reply)) (delivery : Delivery) (later : List Delivery) where
  abbrev stood : Records
  stood = after_deliveries no_records deliveries

  handed_first : IsIdle stood records heard → meets_full records delivery ≡ false
      → IsHanded stood (after_delivery records delivery) (Some (answer_to records delivery)) (delivery ∷ later)
  handed_first idle room = record {
    next = delivery;
    later = later;
    waits = refl;
    at = ap (λ (those : Records). after_delivery those delivery) idle.at;
    room = ap (λ (those : Records). meets_full those delivery) (sym idle.at) ∙ room;
    heard_it = inr (ap (λ (those : Records). Some (answer_to those delivery)) idle.at);
  }

  handed_again : IsHanded stood records heard (delivery ∷ later) → IsHanded stood (after_delivery records delivery) (Some (answer_to records delivery)) (delivery ∷ later)
  handed_again handed =
      let same : delivery ≡ handed.next = cc handed.waits in
      let at : records ≡ after_delivery stood delivery = handed.at ∙ ap (λ (one : Delivery). after_delivery stood one) (sym same) in
      record {
        next = delivery;
        later = later;
        waits = refl;
        at = ap (λ (those : Records). after_delivery those delivery) at ∙ again_same stood delivery;
        room = ap (λ (one : Delivery). meets_full stood one) same ∙ handed.room;
        heard_it = inr (ap (λ (those : Records). Some (answer_to those delivery)) at ∙ ap (λ (answer : List Reply). Some answer) (again_answer stood delivery));
      }

  stands_handed : Stands deliveries answers records heard (delivery ∷ later) → meets_full records delivery ≡ false
      → Stands deliveries answers (after_delivery records delivery) (Some (answer_to records delivery)) (delivery ∷ later)
  stands_handed stands room = record {
    are = stands.are;
    room = stands.room;
    place = elim stands.place [ inl idle ↦ inr (handed_first idle room) | inr handed ↦ inr (handed_again handed) ];
  }

-- It writes the answer down.
module _ (deliveries : List Delivery) (answers : List (List Reply)) (records : Records) (answer : List Reply) (delivery : Delivery) (later : List Delivery) where
  abbrev before : Records
  before = after_deliveries no_records deliveries

  record Heard : Type 0 where
    at : records ≡ after_delivery before delivery
    room : meets_full before delivery ≡ false
    is : answer ≡ answer_to before delivery

  heard_of : IsIdle before records (Some answer) ⊎ IsHanded before records (Some answer) (delivery ∷ later) → Heard
  heard_of (inl idle) = absurd (cc idle.none)
  heard_of (inr handed) =
      let same : delivery ≡ handed.next = cc handed.waits in
      record {
        at = handed.at ∙ ap (λ (one : Delivery). after_delivery before one) (sym same);
        room = ap (λ (one : Delivery). meets_full before one) same ∙ handed.room;
        is = elim handed.heard_it [
          | inl none ↦ absurd (cc none)
          | inr some ↦ let its : answer ≡ answer_to before handed.next = cc some in its ∙ ap (λ (one : Delivery). answer_to before one) (sym same)
        ];
      }

  stands_kept : Stands deliveries answers records (Some answer) (delivery ∷ later)
      → Stands (deliveries ++ delivery ∷ []) (answers ++ answer ∷ []) records None later
  stands_kept stands =
      let heard = heard_of stands.place in
      record {
        are =
            ap (λ (those : List (List Reply)). those ++ answer ∷ []) stands.are
            ∙ ap (λ (its : List Reply). answers_to no_records deliveries ++ its ∷ []) heard.is
            ∙ sym (answers_to_both no_records deliveries (delivery ∷ []));
        room = room_push no_records deliveries delivery stands.room heard.room;
        place = inl record { at = heard.at ∙ sym (after_both no_records deliveries (delivery ∷ [])); none = refl };
      }

-- ALL OF IT
record Holds (host : Host) : Type 0 where
  once : AreDistinct (written_in host.journal)
  stands : HostStands host
  below : All (λ place. place < length host.journal.entries) host.shown

-- What is below stays so if there is one entry more.
below_more : (entries : List Entry) (entry : Entry) (places : List ℕ) → All (λ place. place < length entries) places → All (λ place. place < length (entries ++ entry ∷ [])) places
below_more entries entry places below =
    let long = length_push entries entry in
    λ k none within. let less = below k none within in omega arith

-- Places
both_true : (a b : Bool) → (a && b) ≡ true → (a ≡ true) × (b ≡ true)
both_true true b both = (refl, both)
both_true false b both = cc both

below_of : (place many : ℕ) → nat_lt place many ≡ true → place < many
below_of place many less = grind (arith, nat_tests)

-- What is written down stays, if an answer comes to the first that waits.
still_written : (host : Host) (answer : List Reply) (delivery : Delivery) (later : List Delivery) → host.journal.waiting ≡ delivery ∷ later
    → deliveries_in (host.journal.entries ++ answered delivery answer ∷ []) ++ later ≡ written_in host.journal
still_written host answer delivery later waits =
    let entries = host.journal.entries in
    ap (λ (front : List Delivery). front ++ later) (deliveries_push entries delivery answer)
    ∙ append_assoc (deliveries_in entries) (delivery ∷ []) later
    ∙ ap (λ (behind : List Delivery). deliveries_in entries ++ behind) (sym waits)

module _ (host : Host) (holds : Holds host) where
  abbrev entries : List Entry
  entries = host.journal.entries

  written : (delivery : Delivery) → Holds (after_one host (writes delivery))
  written delivery = by (has_id (written_in host.journal) delivery.id) refl where
    by : (has : Bool) → has_id (written_in host.journal) delivery.id ≡ has → Holds (cond has host (with_journal host (with_delivery host.journal delivery)))
    by true is = holds
    by false none = record {
      once = subst AreDistinct (append_assoc (deliveries_in entries) host.journal.waiting (delivery ∷ [])) (distinct_push (written_in host.journal) delivery holds.once none);
      stands = stands_more (deliveries_in entries) host.journal.waiting (answers_in entries) host.records host.heard delivery holds.stands;
      below = holds.below;
    }

  handed : Holds (after_one host hands_in)
  handed = by host.journal.waiting refl where
    unless_full : (delivery : Delivery) (later : List Delivery) → host.journal.waiting ≡ delivery ∷ later → (full : Bool) → meets_full host.records delivery ≡ full
        → Holds (cond full host (handed_in host delivery))
    unless_full delivery later waits true full = holds
    unless_full delivery later waits false room =
        let first = subst (Stands (deliveries_in entries) (answers_in entries) host.records host.heard) waits holds.stands in
        let next = stands_handed (deliveries_in entries) (answers_in entries) host.records host.heard delivery later first room in
        record {
          once = holds.once;
          stands = subst (Stands (deliveries_in entries) (answers_in entries) (after_delivery host.records delivery) (Some (answer_to host.records delivery))) (sym waits) next;
          below = holds.below;
        }

    by : (waiting : List Delivery) → host.journal.waiting ≡ waiting → Holds (hand_first host waiting)
    by [] none = holds
    by (delivery ∷ later) waits = unless_full delivery later waits (meets_full host.records delivery) refl

  repeated : (delivery : Delivery) → Holds (after_one host (repeats delivery))
  repeated delivery = by (has_id (deliveries_in entries) delivery.id) refl where
    stood_here : Records
    stood_here = after_deliveries no_records (deliveries_in entries)

    known_here : has_id (deliveries_in entries) delivery.id ≡ true → is_known host.records delivery.id ≡ true
    known_here has =
        let known = known_among no_records (deliveries_in entries) delivery.id has in
        elim holds.stands.place [
          | inl idle ↦ ap (λ (those : Records). is_known those delivery.id) idle.at ∙ known
          | inr handed ↦
              ap (λ (those : Records). is_known those delivery.id) handed.at ∙ known_still stood_here (handed.next ∷ []) delivery.id known
        ]

    by : (has : Bool) → has_id (deliveries_in entries) delivery.id ≡ has → Holds (cond has (with_records host (after_delivery host.records delivery)) host)
    by false none = holds
    by true has = record {
      once = holds.once;
      stands =
          subst (λ (those : Records). Stands (deliveries_in entries) (answers_in entries) those host.heard host.journal.waiting)
          (sym (known_same host.records delivery (known_here has))) holds.stands;
      below = holds.below;
    }

  kept : Holds (after_one host keeps)
  kept = by host.heard host.journal.waiting refl refl where
    by : (heard : Option (List Reply)) (waiting : List Delivery) → host.heard ≡ heard → host.journal.waiting ≡ waiting → Holds (keep_answer host heard waiting)
    by None waiting none waits = holds
    by (Some answer) [] is none = holds
    by (Some answer) (delivery ∷ later) is waits =
        let first = subst (λ (heard : Option (List Reply)). Stands (deliveries_in entries) (answers_in entries) host.records heard host.journal.waiting) is holds.stands in
        let next = stands_kept (deliveries_in entries) (answers_in entries) host.records answer delivery later
        (subst (Stands (deliveries_in entries) (answers_in entries) host.records (Some answer)) waits first) in
        let these = deliveries_push entries delivery answer in
        let those = answers_push entries delivery answer in
        record {
          once = subst AreDistinct (sym (still_written host answer delivery later waits)) holds.once;
          stands =
              subst (λ (found : List (List Reply)). Stands (deliveries_in (entries ++ answered delivery answer ∷ [])) found host.records None later) (sym those)
              (subst (λ (found : List Delivery). Stands found (answers_in entries ++ answer ∷ []) host.records None later) (sym these) next);
          below = below_more entries (answered delivery answer) host.shown holds.below;
        }

  noted : Holds (after_one host notes)
  noted =
      let these = deliveries_other entries in
      record {
        once = subst (λ (front : List Delivery). AreDistinct (front ++ host.journal.waiting)) (sym these) holds.once;
        stands =
            subst (λ (found : List (List Reply)). Stands (deliveries_in (entries ++ other ∷ [])) found host.records host.heard host.journal.waiting) (sym (answers_other entries))
            (subst (λ (found : List Delivery). Stands found (answers_in entries) host.records host.heard host.journal.waiting) (sym these) holds.stands);
        below = below_more entries other host.shown holds.below;
      }

  shown : (place : ℕ) → Holds (after_one host (shows place))
  shown place = by (may_be_shown host place) refl where
    by : (may : Bool) → may_be_shown host place ≡ may → Holds (cond may (with_shown host place) host)
    by false is = holds
    by true is =
        let there = both_true (nat_lt place (length entries)) (not (is_among host.journal.marked place)) is in
        record {
          once = holds.once;
          stands = holds.stands;
          below = All-cons (λ place. place < length entries) place host.shown (below_of place (length entries) there.0) holds.below;
        }

  marked : (place : ℕ) → Holds (after_one host (marks place))
  marked place = record { once = holds.once; stands = holds.stands; below = holds.below }

  refilled_so : (many : ℕ) → Holds (after_one host (refills many))
  refilled_so many = record {
    once = holds.once;
    stands = record {
      are = holds.stands.are;
      room = holds.stands.room;
      place = inl record { at = refill (deliveries_in entries) many; none = refl };
    };
    below = holds.below;
  }

  begun : Holds (after_one host stops)
  begun = record {
    once = holds.once;
    stands = stands_begun (deliveries_in entries) host.journal.waiting (answers_in entries) host.records host.heard holds.stands;
    below = holds.below;
  }

  holds_on : (doing : Doing) → Holds (after_one host doing)
  holds_on (writes delivery) = written delivery
  holds_on hands_in = handed
  holds_on (repeats delivery) = repeated delivery
  holds_on keeps = kept
  holds_on notes = noted
  holds_on (shows place) = shown place
  holds_on (marks place) = marked place
  holds_on stops = begun
  holds_on (refills many) = refilled_so many

holds_after : (host : Host) (doings : List Doing) → Holds host → Holds (after_doings host doings)
holds_after host [] holds = holds
holds_after host (doing ∷ later) holds = holds_after (after_one host doing) later (holds_on host holds doing)

at_first : Holds first_host
at_first = record {
  once = tt;
  stands = record { are = refl; room = tt; place = inl record { at = refl; none = refl } };
  below = All-nil (λ place. place < 0);
}

-- WHERE IT IS, and that it goes on
module _ (delivering : LawOfDelivering) where
  stands_after : (records : Records) (deliveries : List Delivery) → records ≡ after_deliveries no_records deliveries → NoneMeetsFull no_records deliveries
      → AreDistinct deliveries → StandsAfter records deliveries
  stands_after records deliveries at room distinct = record {
    at = at;
    room = room;
    told = ap (λ (those : Records). those.state) at ∙ leads delivering no_records [] deliveries refl (all_new deliveries) distinct room;
  }

  is_after : (deliveries waiting : List Delivery) (answers : List (List Reply)) (records : Records) (heard : Option (List Reply)) → AreDistinct (deliveries ++ waiting)
      → Stands deliveries answers records heard waiting → IsAfter records deliveries waiting
  is_after deliveries [] answers records heard once stands = elim stands.place [
    | inl idle ↦ stands_after records deliveries idle.at stands.room (distinct_front deliveries [] once)
    | inr handed ↦ absurd (cc handed.waits)
  ]
  is_after deliveries (delivery ∷ later) answers records heard once stands = elim stands.place [
    | inl idle ↦ inl (stands_after records deliveries idle.at stands.room (distinct_front deliveries (delivery ∷ later) once))
    | inr handed ↦
        let same : delivery ≡ handed.next = cc handed.waits in
        let at = handed.at ∙ ap (λ (one : Delivery). after_delivery (after_deliveries no_records deliveries) one) (sym same)
        ∙ sym (after_both no_records deliveries (delivery ∷ [])) in
        let room = room_push no_records deliveries delivery stands.room
        (ap (λ (one : Delivery). meets_full (after_deliveries no_records deliveries) one) same ∙ handed.room) in
        let front = distinct_front (deliveries ++ delivery ∷ []) later (subst AreDistinct (sym (append_assoc deliveries (delivery ∷ []) later)) once) in
        inr (stands_after records (deliveries ++ delivery ∷ []) at room front)
  ]

module _ (host : Host) (stands : HostStands host) (next : Delivery) (later : List Delivery) (waits : host.journal.waiting ≡ next ∷ later) where
  abbrev stood_at : Records
  stood_at = after_deliveries no_records (deliveries_in host.journal.entries)

  same_next : IsHanded stood_at host.records host.heard host.journal.waiting → (host.records ≡ after_delivery stood_at next)
  same_next handed =
      let both : next ∷ later ≡ handed.next ∷ handed.later = sym waits ∙ handed.waits in
      let same : next ≡ handed.next = cc both in
      handed.at ∙ ap (λ (one : Delivery). after_delivery stood_at one) (sym same)

  room_here : meets_full stood_at next ≡ false → meets_full host.records next ≡ false
  room_here room = elim stands.place [
    | inl idle ↦ ap (λ (those : Records). meets_full those next) idle.at ∙ room
    | inr handed ↦
        ap (λ (those : Records). meets_full those next) (same_next handed) ∙ known_room (after_delivery stood_at next) next (ap is_some (kept_here stood_at next))
  ]

  answer_here : answer_to host.records next ≡ answer_to stood_at next
  answer_here = elim stands.place [
    | inl idle ↦ ap (λ (those : Records). answer_to those next) idle.at
    | inr handed ↦ ap (λ (those : Records). answer_to those next) (same_next handed) ∙ again_answer stood_at next
  ]

  goes_on_so : meets_full stood_at next ≡ false
      → (after_doings host (hands_in ∷ keeps ∷ [])).journal ≡ with_entry host.journal (answered next (answer_to stood_at next)) later
  goes_on_so room =
      let handing : hand_first host host.journal.waiting ≡ handed_in host next =
      ap (hand_first host) waits ∙ ap (λ (full : Bool). cond full host (handed_in host next)) (room_here room) in
      ap (λ (found : Host). (keep_answer found found.heard found.journal.waiting).journal) handing
      ∙ ap (λ (waiting : List Delivery). (keep_answer (handed_in host next) (Some (answer_to host.records next)) waiting).journal) waits
      ∙ ap (λ (answer : List Reply). with_entry host.journal (answered next answer) later) answer_here

pub journals_law : LawOfDelivering → LawOfJournals
journals_law delivering doings =
    let host = after_doings first_host doings in
    let holds = holds_after first_host doings at_first in
    record {
      once = holds.once;
      answers = holds.stands.are;
      records = is_after delivering (deliveries_in host.journal.entries) host.journal.waiting (answers_in host.journal.entries) host.records host.heard holds.once holds.stands;
      goes_on = λ next later waits room. goes_on_so host holds.stands next later waits room;
      shown = holds.below;
    }

-- WHAT COMES LATER
-- The places in one list are among those of another one.
abbrev AreAmong : List ℕ → List ℕ → Type 0
AreAmong these those = (place : ℕ) → is_among these place ≡ true → is_among those place ≡ true

more_among : (place another : ℕ) (places : List ℕ) → is_among places another ≡ true → is_among (place ∷ places) another ≡ true
more_among place another places its = by (place == another) where
  by : (same : Bool) → (same || is_among places another) ≡ true
  by true = refl
  by false = its

abbrev IsOther : Host → ℕ → Type 0
IsOther host place = is_among host.journal.marked place ≡ false

stays : (host next : Host) → next.journal.entries ≡ host.journal.entries → next.shown ≡ host.shown → AreAmong host.journal.marked next.journal.marked
    → (those : List Delivery) → written_in next.journal ≡ written_in host.journal ++ those → IsLater host next
stays host next same shown marked those written = record {
  more = [];
  entries = same ∙ sym (append-nil host.journal.entries);
  those = those;
  written = written;
  marked = marked;
  anew = [];
  shown = shown;
  others = All-nil (IsOther host);
}

one_entry : (host next : Host) (entry : Entry) → next.journal.entries ≡ host.journal.entries ++ entry ∷ [] → next.shown ≡ host.shown
    → next.journal.marked ≡ host.journal.marked → written_in next.journal ≡ written_in host.journal → IsLater host next
one_entry host next entry entries shown same written = record {
  more = entry ∷ [];
  entries = entries;
  those = [];
  written = written ∙ sym (append-nil (written_in host.journal));
  marked = λ place its. ap (λ (places : List ℕ). is_among places place) same ∙ its;
  anew = [];
  shown = shown;
  others = All-nil (IsOther host);
}

module _ (host : Host) where
  abbrev all : List Delivery
  all = written_in host.journal

  here : IsLater host host
  here = stays host host refl refl (λ place its. its) [] (sym (append-nil all))

  -- one whose journal is the same
  as_here : (next : Host) → next.journal ≡ host.journal → next.shown ≡ host.shown → IsLater host next
  as_here next same shown =
      stays host next (ap (λ journal. journal.entries) same) shown (λ place its. ap (λ journal. is_among journal.marked place) same ∙ its) []
      (ap written_in same ∙ sym (append-nil all))

  writes_later : (delivery : Delivery) → IsLater host (after_one host (writes delivery))
  writes_later delivery = by (has_id all delivery.id) where
    by : (has : Bool) → IsLater host (cond has host (with_journal host (with_delivery host.journal delivery)))
    by true = here
    by false =
        stays host (with_journal host (with_delivery host.journal delivery)) refl refl (λ place its. its) (delivery ∷ [])
        (sym (append_assoc (deliveries_in host.journal.entries) host.journal.waiting (delivery ∷ [])))

  hands_later : (waiting : List Delivery) → IsLater host (hand_first host waiting)
  hands_later [] = here
  hands_later (delivery ∷ later) = by (meets_full host.records delivery) where
    by : (full : Bool) → IsLater host (cond full host (handed_in host delivery))
    by true = here
    by false = as_here (handed_in host delivery) refl refl

  repeats_later : (delivery : Delivery) → IsLater host (after_one host (repeats delivery))
  repeats_later delivery = by (has_id (deliveries_in host.journal.entries) delivery.id) where
    by : (has : Bool) → IsLater host (cond has (with_records host (after_delivery host.records delivery)) host)
    by false = here
    by true = as_here (with_records host (after_delivery host.records delivery)) refl refl

  keeps_later : (heard : Option (List Reply)) (waiting : List Delivery) → host.journal.waiting ≡ waiting → IsLater host (keep_answer host heard waiting)
  keeps_later None waiting waits = here
  keeps_later (Some answer) [] waits = here
  keeps_later (Some answer) (delivery ∷ later) waits =
      one_entry host (keep_answer host (Some answer) (delivery ∷ later)) (answered delivery answer) refl refl refl
      (still_written host answer delivery later waits)

  notes_later : IsLater host (after_one host notes)
  notes_later =
      one_entry host (after_one host notes) other refl refl refl
      (ap (λ (front : List Delivery). front ++ host.journal.waiting) (deliveries_other host.journal.entries))

  shows_later : (place : ℕ) → IsLater host (after_one host (shows place))
  shows_later place = by (may_be_shown host place) refl where
    not_so : (b : Bool) → not b ≡ true → b ≡ false
    not_so false is = refl
    not_so true is = cc is

    by : (may : Bool) → may_be_shown host place ≡ may → IsLater host (cond may (with_shown host place) host)
    by false is = here
    by true is =
        let both = both_true (nat_lt place (length host.journal.entries)) (not (is_among host.journal.marked place)) is in
        record {
          more = [];
          entries = sym (append-nil host.journal.entries);
          those = [];
          written = sym (append-nil all);
          marked = λ another its. its;
          anew = place ∷ [];
          shown = refl;
          others = All-cons (IsOther host) place [] (not_so (is_among host.journal.marked place) both.1) (All-nil (IsOther host));
        }

  marks_later : (place : ℕ) → IsLater host (after_one host (marks place))
  marks_later place =
      stays host (with_journal host (with_mark host.journal place)) refl refl (λ another its. more_among place another host.journal.marked its) [] (sym (append-nil all))

  one_later : (doing : Doing) → IsLater host (after_one host doing)
  one_later (writes delivery) = writes_later delivery
  one_later hands_in = hands_later host.journal.waiting
  one_later (repeats delivery) = repeats_later delivery
  one_later keeps = keeps_later host.heard host.journal.waiting refl
  one_later notes = notes_later
  one_later (shows place) = shows_later place
  one_later (marks place) = marks_later place
  one_later stops = as_here (after_one host stops) refl refl
  one_later (refills many) = as_here (after_one host (refills many)) refl refl

-- What isn't marked later wasn't marked before.
unmarked_before : (marked later : List ℕ) (place : ℕ) → AreAmong marked later → is_among later place ≡ false → is_among marked place ≡ false
unmarked_before marked later place stay none = by (is_among marked place) refl where
  by : (its : Bool) → is_among marked place ≡ its → its ≡ false
  by false is = refl
  by true is = let still = stay place is in cc (still, none)

both_later : (host next last : Host) → IsLater host next → IsLater next last → IsLater host last
both_later host next last one two = record {
  more = one.more ++ two.more;
  entries = two.entries ∙ ap (λ (front : List Entry). front ++ two.more) one.entries ∙ append_assoc host.journal.entries one.more two.more;
  those = one.those ++ two.those;
  written = two.written ∙ ap (λ (front : List Delivery). front ++ two.those) one.written ∙ append_assoc (written_in host.journal) one.those two.those;
  marked = λ place its. two.marked place (one.marked place its);
  anew = two.anew ++ one.anew;
  shown = two.shown ∙ ap (λ (behind : List ℕ). two.anew ++ behind) one.shown ∙ sym (append_assoc two.anew one.anew host.shown);
  others = All-append (IsOther host) two.anew one.anew
      (λ k none within. unmarked_before host.journal.marked next.journal.marked _ one.marked (two.others k none within)) one.others;
}

pub showing_law : LawOfShowing
showing_law host [] = here host
showing_law host (doing ∷ later) =
    let next = after_one host doing in
    both_later host next (after_doings next later) (one_later host doing) (showing_law next later)
