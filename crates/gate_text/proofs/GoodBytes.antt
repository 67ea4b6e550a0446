-- A text with no bad byte has good bytes alone, and then it is ASCII.
use Rattle.std.proofs.Common.{◌≡◌, ℕ, zero, suc, ◌+◌, ◌<◌, Bool, true, false, cond, not, ◌&&◌, ◌⊎◌, inl, inr, List, [], ◌∷◌, length, Option, Some, None, refl, ap, is_some, ltb, arith}
use Rattle.std.proofs.lemmas.Bool.Decides.{nat_tests}
use Rattle.std.specs.List.{list_all, prefix_len}
use Rattle.std.specs.Option.{option_or}
use Rattle.std.specs.Str.{IsAscii}
use Rattle.std.specs.Cmp.{first_so, second_so}
use Rattle.gate_text.specs.SmallTexts.{first_bad}

bad_or_good_step : (b : Bool) (n size : ℕ) (rest : Bool) → (n < size) ⊎ (rest ≡ true)
    → (cond (not (not b)) (1 + n) 0 < suc size) ⊎ (b && rest ≡ true)
bad_or_good_step true n size rest (inl less) = inl (omega arith)
bad_or_good_step true n size rest (inr good) = inr good
bad_or_good_step false n size rest _ = inl (omega arith)

-- the good bytes in front end before the text does, or all are good
bad_or_good : (p : ℕ → Bool) (xs : List ℕ) → (prefix_len (λ x. not (not (p x))) xs < length xs) ⊎ (list_all p xs ≡ true)
bad_or_good p [] = inr refl
bad_or_good p (x ∷ xs) = bad_or_good_step (p x) _ _ _ (bad_or_good p xs)

no_place : (n size i : ℕ) → n < size → cond (ltb n size) (Some i) None ≡ None → ⊥
no_place n size i less none = grind (arith, nat_tests)

-- where no first bad byte is found, all bytes are good
pub all_good : (p : ℕ → Bool) (xs : List ℕ) → first_bad p xs ≡ None → list_all p xs ≡ true
all_good p xs none = elim (bad_or_good p xs) [ inl less ↦ absurd (no_place _ _ _ less none) | inr good ↦ good ]

good_step : (b : Bool) (n size : ℕ) → b ≡ true → n ≡ size → cond (not (not b)) (1 + n) 0 ≡ suc size
good_step true n size good same = omega arith
good_step false n size good same = cc good

all_in_front : (p : ℕ → Bool) (xs : List ℕ) → list_all p xs ≡ true → prefix_len (λ x. not (not (p x))) xs ≡ length xs
all_in_front p [] good = refl
all_in_front p (x ∷ xs) good =
    good_step (p x) _ _ (first_so (p x) (list_all p xs) good) (all_in_front p xs (second_so (p x) (list_all p xs) good))

no_place_behind : (n size : ℕ) → n ≡ size → cond (ltb n size) (Some n) None ≡ None
no_place_behind n size same = grind (arith, nat_tests)

-- where all bytes are good, no first bad byte is found
pub none_bad : (p : ℕ → Bool) (xs : List ℕ) → list_all p xs ≡ true → first_bad p xs ≡ None
none_bad p xs good = no_place_behind _ _ (all_in_front p xs good)

pub ascii : (p : ℕ → Bool) → ((b : ℕ) → p b ≡ true → b < 128) → (xs : List ℕ) → list_all p xs ≡ true → IsAscii xs
ascii p small [] good i = omega arith
ascii p small (x ∷ xs) good zero = small x (first_so (p x) (list_all p xs) good)
ascii p small (x ∷ xs) good (suc i) = ascii p small xs (second_so (p x) (list_all p xs) good) i

-- an option that was mapped to nothing was nothing, and so was one that `or` left at nothing
pub unmapped : (mapped place : Option ℕ) → is_some mapped ≡ is_some place → mapped ≡ None → place ≡ None
unmapped mapped None same none = refl
unmapped mapped (Some n) same none = cc (ap is_some none)

pub neither : {place : Option ℕ} (other : Option ℕ) → option_or place other ≡ None → place ≡ None
neither {place = None} other none = refl
neither {place = Some n} other none = none
