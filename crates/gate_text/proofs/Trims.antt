-- What is left where spaces are dropped from the end of a text, one at a time.
use Rattle.std.proofs.Common.{◌≡◌, ◌≢◌, ℕ, Bool, true, false, cond, ◌&&◌, List, [], ◌∷◌, ◌++◌, length, refl, ◌∙◌, ap, eqb, arith}
use Rattle.std.proofs.lemmas.Bool.Decides.{nat_tests}
use Rattle.gate_text.specs.Spaces.{trim_end}

-- a space at the end is dropped
pub trim_end-push_space : (xs : List ℕ) → trim_end (xs ++ 32 ∷ []) ≡ trim_end xs
trim_end-push_space [] = refl
trim_end-push_space (x ∷ xs) = ap (λ (rest : List ℕ). cond ((eqb x 32) && (eqb (length rest) 0)) [] (x ∷ rest)) (trim_end-push_space xs)

lone : (x : ℕ) (b : Bool) → eqb x 32 ≡ b → x ≢ 32 → cond (b && true) [] (x ∷ []) ≡ x ∷ []
lone x true is other = absurd (other (grind (arith, nat_tests)))
lone x false is other = refl

longer : (x y : ℕ) (ys : List ℕ) (b : Bool) → cond (b && (eqb (length (y ∷ ys)) 0)) [] (x ∷ y ∷ ys) ≡ x ∷ y ∷ ys
longer x y ys true = grind (arith, nat_tests)
longer x y ys false = refl

kept : (x : ℕ) (xs : List ℕ) → ((front : List ℕ) → x ∷ xs ≢ front ++ 32 ∷ []) → cond ((eqb x 32) && (eqb (length xs) 0)) [] (x ∷ xs) ≡ x ∷ xs
kept x [] none = lone x _ refl (λ e. none [] (ap (λ (b : ℕ). b ∷ []) e))
kept x (y ∷ ys) none = longer x y ys _

-- and a text that ends in no space is kept
pub trim_end-kept : (xs : List ℕ) → ((front : List ℕ) → xs ≢ front ++ 32 ∷ []) → trim_end xs ≡ xs
trim_end-kept [] none = refl
trim_end-kept (x ∷ xs) none =
    ap (λ (rest : List ℕ). cond ((eqb x 32) && (eqb (length rest) 0)) [] (x ∷ rest)) (trim_end-kept xs (λ front e. none (x ∷ front) (ap (λ (t : List ℕ). x ∷ t) e)))
    ∙ kept x xs none

-- what was dropped at the end
trimmed : (b : ℕ) (bs rest : List ℕ) (drops : Bool) → bs ≡ trim_end bs ++ rest → (eqb b 32 && eqb (length (trim_end bs)) 0) ≡ drops
    → (end : List ℕ) × (b ∷ bs ≡ cond drops [] (b ∷ trim_end bs) ++ end)
trimmed b bs rest true is drops = (b ∷ bs, refl)
trimmed b bs rest false is drops = (rest, ap (λ (tail : List ℕ). b ∷ tail) is)

pub trim_end-rest : (text : List ℕ) → (end : List ℕ) × (text ≡ trim_end text ++ end)
trim_end-rest [] = ([], refl)
trim_end-rest (b ∷ bs) = let rest = trim_end-rest bs in trimmed b bs rest.0 _ rest.1 refl
