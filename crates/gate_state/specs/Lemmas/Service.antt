-- The order of service: a batch is put where the order stays, taking changes out keeps it, and so does joining a batch.
use Rattle.std.proofs.Common.{◌≡◌, ℕ, zero, suc, ◌+◌, eqb, ltb, Bool, true, false, cond, not, List, [], ◌∷◌, length, map, take, if◌then◌else◌, Option, Some, None, slice_get, slice_set, refl, sym, ◌∙◌, ap, subst, arith}
use Rattle.std.proofs.lemmas.Bool.Decides.{nat_tests}
use Rattle.std.proofs.lemmas.List.Elements.{All-cons, All-nil, All-head, All-tail, All-append, All-take, All-drop, All-set, All-weaker}
use Rattle.std.proofs.lemmas.List.Kept.{AllPairs-cons, AllPairs-filter}
use Rattle.std.proofs.lemmas.List.Sums.{sum_by-cons, prefix_len-le-length}
use Rattle.std.proofs.lemmas.Option.{slice_get_within, get_or_from_slice_get}
use Rattle.std.specs.Cmp.{signed_Decides}
use Rattle.std.specs.List.{All, insert, position_or_len}
use Rattle.std.specs.Option.{unwrap_or}
use Rattle.gate_state.specs.Counts.{uses}
use Rattle.gate_state.specs.Lanes.{goes_before, placed, with_change, with_joined, only, has_changes, left}
use Rattle.gate_state.specs.Service.{IsInService}
use Rattle.gate_state.specs.declared.batch.Batch.{Batch}

abbrev Goes : Batch → Batch → Type 0
Goes one other = goes_before one other ≡ true

-- THE ORDER is one: a batch that goes before another goes before all behind that one, and of two numbers one goes before.
before_trans : (a b c : Batch) → goes_before a b ≡ true → goes_before b c ≡ true → goes_before a c ≡ true
before_trans a b c h k = grind (arith, nat_tests, signed_Decides)

before_total : (a b : Batch) → goes_before a b ≡ false → eqb a.number b.number ≡ false → goes_before b a ≡ true
before_total a b h k = grind (arith, nat_tests, signed_Decides)

pub behind_first : (first : Batch) (waiting : List Batch) → IsInService (first ∷ waiting) → IsInService waiting
behind_first first waiting h i j d below within = h (suc i) (suc j) d (omega arith) (omega arith)

all_behind : (first : Batch) (waiting : List Batch) → IsInService (first ∷ waiting) → All (Goes first) waiting
all_behind first waiting h j d within = h 0 (suc j) d (omega arith) (omega arith)

-- A PLACE, by taking one batch after the other
module _ (batch : Batch) where
  abbrev place : List Batch → ℕ
  place waiting = position_or_len (goes_before batch) waiting

  at_length : (waiting : List Batch) (within : Bool) → ltb (place waiting) (length waiting) ≡ within
      → unwrap_or (cond within (Some (place waiting)) None) (length waiting) ≡ place waiting
  at_length waiting true is = refl
  at_length waiting false is =
      let most = prefix_len-le-length (λ other. not (goes_before batch other)) waiting in
      let end : length waiting ≡ place waiting = grind (arith, nat_tests) in
      end

  placed_by : (waiting : List Batch) → placed batch waiting ≡ insert waiting (place waiting) batch
  placed_by waiting = ap (λ at. insert waiting at batch) (at_length waiting _ refl)

  -- the place behind a batch that this one doesn't go before
  behind : (first : Batch) (waiting : List Batch) → goes_before first batch ≡ true → All (Goes first) waiting → All (Goes first) (insert waiting (place waiting) batch)
  behind first waiting here all =
      let P = Goes first in
      All-append P (take (place waiting) waiting) _ (All-take P (place waiting) waiting all) (All-cons P batch _ here (All-drop P (place waiting) waiting all))

  in_place : (waiting : List Batch) → IsInService waiting → uses batch.number waiting ≡ 0 → IsInService (insert waiting (place waiting) batch)
  in_place [] h k = AllPairs-cons Goes batch [] (All-nil (Goes batch)) h
  in_place (first ∷ waiting) h k = here (in_place waiting (behind_first first waiting h)) (goes_before batch first) refl where
    all : All (Goes first) waiting
    all = all_behind first waiting h

    count : (if eqb batch.number first.number then 1 else 0) + uses batch.number waiting ≡ 0
    count = sym (sum_by-cons (λ other. if eqb batch.number other.number then 1 else 0) first waiting) ∙ k

    other : eqb batch.number first.number ≡ false
    other = grind (arith, nat_tests, count)

    here : (uses batch.number waiting ≡ 0 → IsInService (insert waiting (place waiting) batch))
        → (goes : Bool) → goes_before batch first ≡ goes → IsInService (insert (first ∷ waiting) (if not goes then 1 + place waiting else 0) batch)
    here others true is =
        let later = All-weaker (Goes first) (Goes batch) (λ later. before_trans batch first later is) waiting all in
        AllPairs-cons Goes batch (first ∷ waiting) (All-cons (Goes batch) first waiting is later) h
    here others false is =
        let next : suc (place waiting) ≡ 1 + place waiting = omega arith in
        let after = behind first waiting (before_total batch first is other) all in
        subst (λ at. IsInService (insert (first ∷ waiting) at batch)) next (AllPairs-cons Goes first (insert waiting (place waiting) batch) after (others (omega (arith, count))))

pub placed_in_service : (batch : Batch) (waiting : List Batch) → IsInService waiting → uses batch.number waiting ≡ 0 → IsInService (placed batch waiting)
placed_in_service batch waiting h k = subst IsInService (sym (placed_by batch waiting)) (in_place batch waiting h k)

-- WHAT IS LEFT: fewer changes in a batch, and fewer batches
only_before : (stays : ℕ → Bool) (first : Batch) (others : List Batch)
    → All (Goes first) others → All (Goes (only stays first)) (map (only stays) others)
only_before stays first [] h = All-nil (Goes (only stays first))
only_before stays first (other ∷ others) h =
    let P = Goes first in
    All-cons (Goes (only stays first)) (only stays other) (map (only stays) others) (All-head P other others h) (only_before stays first others (All-tail P other others h))

only_in_service : (stays : ℕ → Bool) (waiting : List Batch) → IsInService waiting → IsInService (map (only stays) waiting)
only_in_service stays [] h = h
only_in_service stays (first ∷ waiting) h =
    AllPairs-cons Goes (only stays first) (map (only stays) waiting)
    (only_before stays first waiting (all_behind first waiting h))
    (only_in_service stays waiting (behind_first first waiting h))

pub left_in_service : (stays : ℕ → Bool) (waiting : List Batch) → IsInService waiting → IsInService (left stays waiting)
left_in_service stays waiting h = AllPairs-filter Goes has_changes (map (only stays) waiting) (only_in_service stays waiting h)

-- A CHANGE JOINS a batch: the order reads nothing of it that is other than before.
pub joined_in_service : (change : ℕ) (waiting : List Batch) (place : ℕ) → IsInService waiting → IsInService (with_joined change waiting place (slice_get waiting place))
joined_in_service change [] place h = h
joined_in_service change (first ∷ waiting) zero h = AllPairs-cons Goes (with_change change first) waiting (all_behind first waiting h) (behind_first first waiting h)
joined_in_service change (first ∷ waiting) (suc place) h = by (slice_get waiting place) refl (joined_in_service change waiting place (behind_first first waiting h)) where
  by : (found : Option Batch) → slice_get waiting place ≡ found → IsInService (with_joined change waiting place found) → IsInService (with_joined change (first ∷ waiting) (suc place) found)
  by None is others = h
  by (Some old) is others =
      let joined = with_change change old in
      let before = subst (Goes first) (get_or_from_slice_get waiting place old old is) (all_behind first waiting h place old (slice_get_within waiting place old is)) in
      AllPairs-cons Goes first (slice_set waiting place joined) (All-set (Goes first) waiting place joined before (all_behind first waiting h)) others
