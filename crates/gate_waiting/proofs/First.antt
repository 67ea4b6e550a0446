-- The first item that passes a test, by its place.
use Rattle.std.proofs.Common.{arith, ◌⊎◌, inl, inr, ◌≤◌, ◌≡◌, ℕ, suc, ◌+◌, ◌<◌, Bool, true, false, not, cond, List, [], ◌∷◌, length, Some, None, refl, ap, slice_index_or}
use Rattle.std.proofs.lemmas.Bool.{ltb-false}
use Rattle.std.specs.List.{find, position, position_or_len, remove}
use Rattle.std.specs.Option.{unwrap_or}
use Rattle.std.proofs.Math.Dec.{ltb}
use Rattle.gate_waiting.specs.Calls.{without_first}

module _ {X : Type 0} (p : X → Bool) where
  -- it is found there, and the others are left
  at_place : (xs : List X) (n : ℕ) (d : X) → n ≡ position_or_len p xs → n < length xs
      → (find p xs ≡ Some (slice_index_or xs n d)) × (without_first p xs ≡ remove xs n)
  at_place [] n d is within = absurd (omega arith)
  at_place (x ∷ xs) n d is within = by (p x) (λ inside. at_place xs (position_or_len p xs) d refl inside) is
    where
      by : (b : Bool) → (position_or_len p xs < length xs → (find p xs ≡ Some (slice_index_or xs (position_or_len p xs) d)) × (without_first p xs ≡ remove xs (position_or_len p xs)))
          → n ≡ cond (not b) (1 + position_or_len p xs) 0
          → (cond b (Some x) (find p xs) ≡ Some (slice_index_or (x ∷ xs) n d)) × (cond b xs (x ∷ without_first p xs) ≡ remove (x ∷ xs) n)
      by true behind at = rw at (refl, refl)
      by false behind at =
          let e : n ≡ suc (position_or_len p xs) = omega arith in
          let rest = behind (omega arith) in
          rw e (rest.0, ap (λ ys. x ∷ ys) rest.1)

  place_is : (b : Bool) (n k : ℕ) → Some n ≡ cond b (Some k) None → n ≡ k
  place_is true n k is = ap (λ o. unwrap_or o 0) is
  place_is false n k is = cc

  pub first_at : (xs : List X) (n : ℕ) (d : X) → Some n ≡ position p xs → n < length xs
      → (find p xs ≡ Some (slice_index_or xs n d)) × (without_first p xs ≡ remove xs n)
  first_at xs n d is within = at_place xs n d (place_is (ltb (position_or_len p xs) (length xs)) n (position_or_len p xs) is) within

  -- where none does, all are left
  nowhere : (xs : List X) → length xs ≡ position_or_len p xs → (None ≡ find p xs) × (xs ≡ without_first p xs)
  nowhere [] is = (refl, refl)
  nowhere (x ∷ xs) is = by (p x) (nowhere xs) is
    where
      by : (b : Bool) → (length xs ≡ position_or_len p xs → (None ≡ find p xs) × (xs ≡ without_first p xs)) → suc (length xs) ≡ cond (not b) (1 + position_or_len p xs) 0
          → (None ≡ cond b (Some x) (find p xs)) × (x ∷ xs ≡ cond b xs (x ∷ without_first p xs))
      by true behind at = absurd (omega arith)
      by false behind at = let rest = behind (omega arith) in (rest.0, ap (λ ys. x ∷ ys) rest.1)

  within : (xs : List X) → (position_or_len p xs < length xs) ⊎ (length xs ≡ position_or_len p xs)
  within [] = inr refl
  within (x ∷ xs) = by (p x) (within xs)
    where
      by : (b : Bool) → (position_or_len p xs < length xs) ⊎ (length xs ≡ position_or_len p xs)
          → (cond (not b) (1 + position_or_len p xs) 0 < suc (length xs)) ⊎ (suc (length xs) ≡ cond (not b) (1 + position_or_len p xs) 0)
      by true behind = inl (omega arith)
      by false (inl h) = inl (omega arith)
      by false (inr h) = inr (omega arith)

  not_there : (b : Bool) (k : ℕ) → None ≡ cond b (Some k) None → b ≡ false
  not_there true k is = cc
  not_there false k is = refl

  pub none_at : (xs : List X) → None ≡ position p xs → (None ≡ find p xs) × (xs ≡ without_first p xs)
  none_at xs is =
      let out : length xs ≤ position_or_len p xs = ltb-false (position_or_len p xs) (length xs) (not_there (ltb (position_or_len p xs) (length xs)) (position_or_len p xs) is) in
      nowhere xs (elim (within xs) [ inl h ↦ omega arith | inr h ↦ h ])
