-- The first delivery of each identifier, and what a run over deliveries comes to in these words.
use Rattle.std.proofs.Common.{◌≡◌, ℕ, Bool, true, false, ◌||◌, cond, List, [], ◌∷◌, ◌++◌, Option, Some, None, is_some, map as list_map, refl, sym, ◌∙◌, ap, subst, append_assoc, append-nil}
use Rattle.std.specs.Cmp.Lexicographic.{bytes_decides, nat_list_cmp_total, nat_list_eq_equiv, texts_ties}
use Rattle.std.specs.FinMap as finite
use Rattle.std.specs.Option.{unwrap_or}
use Rattle.std.specs.Str.{bytes_eq}
use Rattle.gate_state.specs.declared.state.State.{State}
use Rattle.gate_state.specs.declared.act.Act.{Act}
use Rattle.gate_state.specs.declared.reply.Reply.{Reply}
use Rattle.gate_store.specs.Headline.{or_same, firsts, first_in, acts_of_all, run_on}
use Rattle.gate_store.specs.Run.{Records, kept_under, is_known, acts_in, replies_to, after_all, answer_to, stepped, after_delivery, new_acts, answers_to, after_deliveries}
use Rattle.gate_deliveries.specs.declared.delivery.Delivery.{Delivery}
use Rattle.gate_store.proofs.Telling.{after_all-append}

-- AFTER A FIRST DELIVERY its identifier is known, and each that was.
some_or : (b : Bool) (answer : List Reply) (had : Option (List Reply)) → is_some (cond b (Some answer) had) ≡ (b || is_some had)
some_or true answer had = refl
some_or false answer had = refl

kept_so : (records : Records) (delivery : Delivery) (id : List ℕ)
    → kept_under (stepped records delivery) id ≡ cond (bytes_eq id delivery.id) (Some (replies_to records.state (acts_in delivery))) (kept_under records id)
kept_so records delivery id =
    let answer = replies_to records.state (acts_in delivery) in
    finite.get-insert nat_list_cmp_total records.kept delivery.id answer id
    ∙ ap (λ (b : Bool). cond b (Some answer) (kept_under records id)) (sym (texts_ties id delivery.id))

known_after : (records : Records) (delivery : Delivery) → is_known (stepped records delivery) ≡ or_same delivery.id (is_known records)
known_after records delivery = λ i id. at id i where
  at : (id : List ℕ) → is_known (stepped records delivery) id ≡ or_same delivery.id (is_known records) id
  at id = ap is_some (kept_so records delivery id) ∙ some_or (bytes_eq id delivery.id) (replies_to records.state (acts_in delivery)) (kept_under records id)

-- ONE DELIVERY, and then others
pub first_step : (records : Records) (delivery : Delivery) (deliveries : List Delivery)
    → acts_of_all (first_in records (delivery ∷ deliveries)) ≡ new_acts records delivery ++ acts_of_all (first_in (after_delivery records delivery) deliveries)
first_step records delivery deliveries = by (is_known records delivery.id) where
  by : (known : Bool) → acts_of_all (cond known (first_in records deliveries) (delivery ∷ firsts (or_same delivery.id (is_known records)) deliveries))
      ≡ cond known [] (acts_in delivery) ++ acts_of_all (first_in (cond known records (stepped records delivery)) deliveries)
  by true = refl
  by false = ap (λ (known : List ℕ → Bool). acts_in delivery ++ acts_of_all (firsts known deliveries)) (sym (known_after records delivery))

pub acts_of_one : (records : Records) (delivery : Delivery) → acts_of_all (first_in records (delivery ∷ [])) ≡ new_acts records delivery
acts_of_one records delivery = first_step records delivery [] ∙ append-nil (new_acts records delivery)

-- THE ACTS of one delivery more
pub acts_push : (records : Records) (deliveries : List Delivery) (delivery : Delivery)
    → acts_of_all (first_in records (deliveries ++ delivery ∷ [])) ≡ acts_of_all (first_in records deliveries) ++ new_acts (after_deliveries records deliveries) delivery
acts_push records [] delivery = acts_of_one records delivery
acts_push records (first ∷ deliveries) delivery =
    let next = after_delivery records first in
    first_step records first (deliveries ++ delivery ∷ [])
    ∙ ap (λ (acts : List Act). new_acts records first ++ acts) (acts_push next deliveries delivery)
    ∙ sym (append_assoc (new_acts records first) (acts_of_all (first_in next deliveries)) (new_acts (after_deliveries next deliveries) delivery))
    ∙ ap (λ (acts : List Act). acts ++ new_acts (after_deliveries next deliveries) delivery) (sym (first_step records first deliveries))

-- THE STATE after deliveries
pub one_state : (records : Records) (delivery : Delivery) → (after_delivery records delivery).state ≡ after_all records.state (new_acts records delivery)
one_state records delivery = by (is_known records delivery.id) where
  by : (known : Bool) → (cond known records (stepped records delivery)).state ≡ after_all records.state (cond known [] (acts_in delivery))
  by true = refl
  by false = refl

pub state_after : (records : Records) (deliveries : List Delivery) → (after_deliveries records deliveries).state ≡ after_all records.state (acts_of_all (first_in records deliveries))
state_after records [] = refl
state_after records (delivery ∷ deliveries) =
    let acts = acts_of_all (first_in (after_delivery records delivery) deliveries) in
    state_after (after_delivery records delivery) deliveries
    ∙ ap (λ (s : State). after_all s acts) (one_state records delivery)
    ∙ sym (after_all-append records.state (new_acts records delivery) acts)
    ∙ ap (after_all records.state) (sym (first_step records delivery deliveries))

-- WHAT IS KEPT stays kept.
kept_on : (records : Records) (delivery : Delivery) (id : List ℕ) (answer : List Reply)
    → kept_under records id ≡ Some answer → kept_under (after_delivery records delivery) id ≡ Some answer
kept_on records delivery id answer is = by (is_known records delivery.id) refl where
  unless : (same : Bool) → bytes_eq id delivery.id ≡ same → is_known records delivery.id ≡ false
      → cond same (Some (replies_to records.state (acts_in delivery))) (kept_under records id) ≡ Some answer
  unless true same new =
      let known : is_known records delivery.id ≡ true = ap (λ (other : List ℕ). is_known records other) (sym ((bytes_decides id delivery.id).0 same)) ∙ ap is_some is in
      cc (known, new)
  unless false same new = is

  by : (known : Bool) → is_known records delivery.id ≡ known → kept_under (cond known records (stepped records delivery)) id ≡ Some answer
  by true known = is
  by false new = kept_so records delivery id ∙ unless (bytes_eq id delivery.id) refl new

pub kept_after : (records : Records) (deliveries : List Delivery) (id : List ℕ) (answer : List Reply)
    → kept_under records id ≡ Some answer → kept_under (after_deliveries records deliveries) id ≡ Some answer
kept_after records [] id answer is = is
kept_after records (delivery ∷ deliveries) id answer is = kept_after (after_delivery records delivery) deliveries id answer (kept_on records delivery id answer is)

-- WHAT IS ANSWERED is kept.
kept_new : (records : Records) (delivery : Delivery) → kept_under (stepped records delivery) delivery.id ≡ Some (replies_to records.state (acts_in delivery))
kept_new records delivery =
    let answer = replies_to records.state (acts_in delivery) in
    kept_so records delivery delivery.id ∙ ap (λ (b : Bool). cond b (Some answer) (kept_under records delivery.id)) (nat_list_eq_equiv.refl delivery.id)

kept_here : (records : Records) (delivery : Delivery) → kept_under (after_delivery records delivery) delivery.id ≡ Some (answer_to records delivery)
kept_here records delivery = by (kept_under records delivery.id) refl where
  by : (had : Option (List Reply)) → kept_under records delivery.id ≡ had
      → kept_under (cond (is_some had) records (stepped records delivery)) delivery.id ≡ Some (unwrap_or had (replies_to records.state (acts_in delivery)))
  by None none = kept_new records delivery
  by (Some answer) is = is

pub answered_kept : (records : Records) (deliveries : List Delivery)
    → list_map Some (answers_to records deliveries) ≡ list_map (λ delivery. kept_under (after_deliveries records deliveries) delivery.id) deliveries
answered_kept records [] = refl
answered_kept records (delivery ∷ deliveries) =
    let next = after_delivery records delivery in
    let first = kept_after next deliveries delivery.id (answer_to records delivery) (kept_here records delivery) in
    λ i. sym first i ∷ answered_kept next deliveries i

-- THE RUN on the first deliveries
abbrev pub IsRun : State → Records → List Delivery → Type 0
IsRun s new first = list_map (λ delivery. kept_under new delivery.id) first ≡ list_map Some (run_on s first)

-- one more in front, of which the answer is kept in the end
run_more : (records : Records) (delivery : Delivery) (deliveries : List Delivery)
    → IsRun (stepped records delivery).state (after_deliveries (stepped records delivery) deliveries) (first_in (stepped records delivery) deliveries)
    → IsRun records.state (after_deliveries (stepped records delivery) deliveries) (delivery ∷ firsts (or_same delivery.id (is_known records)) deliveries)
run_more records delivery deliveries others =
    let next = stepped records delivery in
    let first = kept_after next deliveries delivery.id (replies_to records.state (acts_in delivery)) (kept_new records delivery) in
    let rest = subst (λ (known : List ℕ → Bool). IsRun next.state (after_deliveries next deliveries) (firsts known deliveries)) (known_after records delivery) others in
    λ i. first i ∷ rest i

pub run_kept : (records : Records) (deliveries : List Delivery) → IsRun records.state (after_deliveries records deliveries) (first_in records deliveries)
run_kept records [] = refl
run_kept records (delivery ∷ deliveries) = run_by (is_known records delivery.id) (run_kept records deliveries) (run_kept (stepped records delivery) deliveries) where
  run_by : (known : Bool) → IsRun records.state (after_deliveries records deliveries) (first_in records deliveries)
      → IsRun (stepped records delivery).state (after_deliveries (stepped records delivery) deliveries) (first_in (stepped records delivery) deliveries)
      → IsRun records.state (after_deliveries (cond known records (stepped records delivery)) deliveries) (cond known (first_in records deliveries) (delivery ∷ firsts (or_same delivery.id (is_known records)) deliveries))
  run_by true same next = same
  run_by false same next = run_more records delivery deliveries next
