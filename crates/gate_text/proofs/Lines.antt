-- A list that is made part by part, as a loop over the parts goes.
use Rattle.std.proofs.Common.{◌≡◌, ℕ, ◌+◌, ◌<◌, List, ◌++◌, length, drop, get_or, refl, sym, ◌∙◌, ap, append_assoc, add-one, arith, append-nil}
use Rattle.std.proofs.Math.Seq.{drop-cons}
use Rattle.std.proofs.lemmas.List.{drop_all}
use Rattle.std.specs.List.{flat_map}

module _ {X Y : Type 0} (f : X → List Y) where
  -- one more part: what it gives is taken from the rest
  pub flat_map-turn : (front : List Y) (parts : List X) (n : ℕ) (x : X) → n < length parts → x ≡ get_or parts n x
      → (front ++ f x) ++ flat_map f (drop (n + 1) parts) ≡ front ++ flat_map f (drop n parts)
  flat_map-turn front parts n x within is =
      append_assoc front (f x) _ ∙ ap (λ (rest : List Y). front ++ rest) (sym (rw (drop-cons parts n x within, ← is, add-one) refl))

  -- the end: nothing is left
  pub flat_map-end : (front : List Y) (parts : List X) (n : ℕ) → n ≡ length parts → front ++ flat_map f (drop n parts) ≡ front
  flat_map-end front parts n is = ap (λ (rest : List X). front ++ flat_map f rest) (drop_all n parts (omega arith)) ∙ append-nil front
