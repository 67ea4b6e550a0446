-- The number that decimal digits write.
use Rattle.std.proofs.Common.{◌≡◌, ℕ, ◌+◌, ◌*◌, ◌^◌, ◌<◌, ◌≤◌, Bool, true, false, ◌&&◌, ◌||◌, nat_lt, List, [], ◌∷◌, length, refl, nat_eq, arith, rules, codes}
use Rattle.std.proofs.lemmas.Bool.Decides.{nat_tests}
use Rattle.std.proofs.lemmas.Str.Parse.{IsNumeralModel, numerals_by_value}
use Rattle.std.specs.Char.{digit_value, is_ascii_digit}
use Rattle.std.specs.Cmp.{first_so}
use Rattle.std.specs.List.{list_all, starts_with}
use Rattle.std.specs.Str.Parse.{digits_value, digits_value_after}

-- the words for `parse`: a text of digits, and its value
pub decimal : IsNumeralModel (λ ds. list_all is_ascii_digit ds ≡ true) (digits_value 10)
decimal = numerals_by_value _ (search rules)

digits_value_after-ge : (n : ℕ) (ds : List ℕ) → n ≤ digits_value_after 10 n ds
digits_value_after-ge n [] = omega arith
digits_value_after-ge n (d ∷ ds) = omega (arith, digits_value_after-ge (n * 10 + digit_value d) ds)

-- a digit other than `0` is worth something
digit_worth : (d : ℕ) → is_ascii_digit d ≡ true → nat_eq 48 d ≡ false → 1 ≤ digit_value d
digit_worth d digit other = grind (arith, nat_tests)

positive : (d n : ℕ) (ds : List ℕ) → is_ascii_digit d ≡ true → nat_eq 48 d ≡ false → 0 + digit_value d ≡ n → 1 ≤ digits_value_after 10 n ds
positive d n ds digit other is = omega (arith, digits_value_after-ge n ds, digit_worth d digit other)

not_zero : (b : Bool) → (b && true ≡ false) → b ≡ false
not_zero true other = other
not_zero false other = refl

pub digits_value-positive : (ds : List ℕ) → 0 < length ds → list_all is_ascii_digit ds ≡ true → starts_with nat_eq ds (codes "0") ≡ false → 1 ≤ digits_value 10 ds
digits_value-positive [] some digits other = absurd (omega arith)
digits_value-positive (d ∷ ds) some digits other =
    positive d _ ds (first_so (is_ascii_digit d) (list_all is_ascii_digit ds) digits) (not_zero (nat_eq 48 d) other) refl

pub too_great : (first : Bool) (n : ℕ) → ¬ (n < 2 ^ 32) → first || nat_lt 4294967295 n ≡ true
too_great true n past = refl
too_great false n past = grind (arith, nat_tests)
