-- Deliveries that are handed in again.
use Rattle.std.proofs.Common.{◌≡◌, Bool, true, cond, List, [], ◌∷◌, ◌++◌, Some, is_some, map as list_map, refl, sym, ◌∙◌, ap, subst, append-nil}
use Rattle.std.proofs.lemmas.List.Elements.{All-cons, All-head, All-nil, All-tail}
use Rattle.gate_deliveries.specs.declared.delivery.Delivery.{Delivery}
use Rattle.gate_guard_progress.specs.Starting.{AreKnown, LawOfKnowing, LawOfRepeats, LawOfStarts}
use Rattle.gate_state.specs.declared.reply.Reply.{Reply}
use Rattle.gate_store.proofs.Firsts.{answered_kept, kept_after}
use Rattle.gate_store.specs.Run.{Records, after_deliveries, after_delivery, answer_to, answers_to, is_known, kept_under, stepped}

-- ONE AFTER THE OTHER
pub after_both : (records : Records) (these those : List Delivery) → after_deliveries records (these ++ those) ≡ after_deliveries (after_deliveries records these) those
after_both records [] those = refl
after_both records (delivery ∷ these) those = after_both (after_delivery records delivery) these those

pub answers_to_both : (records : Records) (these those : List Delivery) → answers_to records (these ++ those) ≡ answers_to records these ++ answers_to (after_deliveries records these) those
answers_to_both records [] those = refl
answers_to_both records (delivery ∷ these) those = ap (λ (answers : List (List Reply)). answer_to records delivery ∷ answers) (answers_to_both (after_delivery records delivery) these those)

-- WHAT WAS HANDED IN IS KNOWN.
pub kept_here : (records : Records) (delivery : Delivery) → kept_under (after_delivery records delivery) delivery.id ≡ Some (answer_to records delivery)
kept_here records delivery = let one = answered_kept records (delivery ∷ []) in cc one

abbrev IsKnownTo : Records → Delivery → Type 0
IsKnownTo records delivery = is_known records delivery.id ≡ true

pub knowing_law : LawOfKnowing
knowing_law records [] later = All-nil (IsKnownTo (after_deliveries records later))
knowing_law records (delivery ∷ before) later =
    let next = after_delivery records delivery in
    let kept = kept_after next (before ++ later) delivery.id (answer_to records delivery) (kept_here records delivery) in
    All-cons (IsKnownTo (after_deliveries next (before ++ later))) delivery before (ap is_some kept) (knowing_law next before later)

-- WHAT IS KNOWN CHANGES NOTHING.
unchanged : (records : Records) (again : List Delivery) → AreKnown records again → after_deliveries records again ≡ records
unchanged records [] known = refl
unchanged records (delivery ∷ again) known =
    let here : is_known records delivery.id ≡ true = All-head (IsKnownTo records) delivery again known in
    let one : after_delivery records delivery ≡ records = ap (λ (b : Bool). cond b records (stepped records delivery)) here in
    ap (λ (after : Records). after_deliveries after again) one ∙ unchanged records again (All-tail (IsKnownTo records) delivery again known)

pub repeats_law : LawOfRepeats
repeats_law records again later known =
    let same = unchanged records again known in
    record {
      kept = answered_kept records again ∙ ap (λ (after : Records). list_map (λ (delivery : Delivery). kept_under after delivery.id) again) same;
      answers = answers_to_both records again later ∙ ap (λ (after : Records). answers_to records again ++ answers_to after later) same;
      same = after_both records again later ∙ ap (λ (after : Records). after_deliveries after later) same;
    }

-- A START
one_by_one : (these those : List (List Reply)) → list_map Some these ≡ list_map Some those → these ≡ those
one_by_one [] [] same = refl
one_by_one [] (that ∷ those) same = absurd (cc same)
one_by_one (this ∷ these) [] same = absurd (cc same)
one_by_one (this ∷ these) (that ∷ those) same =
    let head : this ≡ that = cc same in
    let tail : list_map Some these ≡ list_map Some those = cc same in
    let rest = one_by_one these those tail in
    λ i. head i ∷ rest i

pub starts_law : LawOfStarts
starts_law records since later =
    let stood = after_deliveries records since in
    let known = subst (λ (these : List Delivery). AreKnown (after_deliveries records these) since) (append-nil since) (knowing_law records since []) in
    let again = repeats_law stood since later known in
    let answered = one_by_one (answers_to stood since) (answers_to records since) (again.kept ∙ sym (answered_kept records since)) in
    record {
      answers = again.answers ∙ ap (λ (answers : List (List Reply)). answers ++ answers_to stood later) answered ∙ sym (answers_to_both records since later);
      same = again.same ∙ sym (after_both records since later);
    }
