-- Decimal digits as the length of a body.
use Rattle.std.proofs.Common.{◌≡◌, ℕ, ◌<◌, ◌^◌, Bool, true, false, true≢false, ◌&&◌, List, length, Err, refl, sym, rules, arith}
use Rattle.std.proofs.lemmas.Bool.{lt-leb, ltb-true}
use Rattle.std.proofs.lemmas.Bool.Decides.{nat_tests}
use Rattle.std.proofs.lemmas.List.Sums.{AllPass-from_list_all}
use Rattle.std.proofs.lemmas.Str.{IsUtf8-from_ascii}
use Rattle.std.proofs.lemmas.Str.Ascii.{IsAscii-from_all}
use Rattle.std.proofs.lemmas.Str.Parse.{IsNumeralModel, numerals_by_value}
use Rattle.std.specs.Char.{is_ascii_digit}
use Rattle.std.specs.List.{list_all}
use Rattle.std.specs.Str.{IsUtf8}
use Rattle.std.specs.Str.Parse.{digits_value}
use Rattle.gate_http.specs.Heads.{is_numeral, max_body, size_of}
use Rattle.gate_http.specs.declared.refusal.Refusal.TheVariants.{ContentTooLarge}

-- the words for `parse`: a text of digits, and its value
pub decimal : IsNumeralModel (λ ds. list_all is_ascii_digit ds ≡ true) (digits_value 10)
decimal = numerals_by_value _ (search rules)

pub both : (b c : Bool) → b && c ≡ true → (b ≡ true) × (c ≡ true)
both true c holds = (refl, holds)
both false c holds = absurd (true≢false (sym holds))

pub some_digit : (digits : List ℕ) → is_numeral digits ≡ true → 0 < length digits
some_digit digits numeral = ltb-true _ _ (both _ _ numeral).0

pub only_digits : (digits : List ℕ) → is_numeral digits ≡ true → list_all is_ascii_digit digits ≡ true
only_digits digits numeral = (both _ _ numeral).1

past_any : (n : ℕ) → ¬ (n < 2 ^ 64) → 65536 < n
past_any n past = omega (arith, past)

-- a number that no `u64` holds is too great
pub size-great : (digits : List ℕ) → is_numeral digits ≡ true → ¬ (digits_value 10 digits < 2 ^ 64) → size_of digits ≡ Err ContentTooLarge
size-great digits numeral past = rw numeral (rw (lt-leb _ max_body (past_any _ past)) refl)

digit_ascii : (b : ℕ) → is_ascii_digit b ≡ true → b < 128
digit_ascii b digit = grind (arith, nat_tests)

-- digits are a text
pub numeral-text : (digits : List ℕ) → is_numeral digits ≡ true → IsUtf8 digits
numeral-text digits numeral =
    IsUtf8-from_ascii digits (IsAscii-from_all digits (λ k d within. digit_ascii _ (AllPass-from_list_all is_ascii_digit digits (only_digits digits numeral) k d within)))
