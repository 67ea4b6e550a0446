-- The number that one to four digits write is read, and fits.
use Rattle.std.proofs.Common.{◌≡◌, ℕ, ◌<◌, ◌≤◌, ◌^◌, true, List, length, Some, None, Result, Ok, Err, ap, arith}
use Rattle.std.proofs.lemmas.Bool.Decides.{nat_tests}
use Rattle.std.proofs.lemmas.Str.Parse.{parse_digits, digits_value_short}
use Rattle.std.specs.Char.{is_ascii_digit}
use Rattle.std.specs.Cmp.{first_so, second_so}
use Rattle.std.specs.Int.{is_in_range}
use Rattle.std.specs.List.{list_all}
use Rattle.std.specs.Result.{MatchResult, OkIff, result_ok}
use Rattle.std.specs.Str.Parse.{ParsesUnsigned, digits_value}
use Rattle.gate_text.specs.Arguments.{is_magnitude, magnitude_of}
use Rattle.gate_text.proofs.Digits.{decimal}

-- what a result says, where `ok` gave nothing, and where it gave a value
pub refused_so : {X E : Type 0} (P : X → Type 0) (Q : E → Type 0) (r : Result X E) → result_ok r ≡ None → MatchResult r P Q → (e : E) × Q e
refused_so P Q (Ok x) none says = cc none
refused_so P Q (Err e) none says = (e, says)

pub given_so : {X E : Type 0} (P : X → Type 0) (Q : E → Type 0) (r : Result X E) (x : X) → result_ok r ≡ Some x → MatchResult r P Q → P x
given_so P Q (Ok y) x some says = let same : y ≡ x = cc some in rw (← same) says
given_so P Q (Err e) x some says = cc some

pub digits_in : (text : List ℕ) → is_magnitude text ≡ true → list_all is_ascii_digit text ≡ true
digits_in text is = second_so (is_in_range 1 4 (length text)) _ is

pub few : (n : ℕ) → is_in_range 1 4 n ≡ true → (0 < n) × (n ≤ 4)
few n is = grind (arith, nat_tests)

parsed : {E : Type 0} (text : List ℕ) (r : Result ℕ E) → is_magnitude text ≡ true
    → OkIff r ((0 < length text) × (digits_value 10 text < 2 ^ 16)) (digits_value 10 text) → result_ok r ≡ Some (digits_value 10 text)
parsed text (Ok n) is says = ap Some says.1
parsed text (Err e) is says =
    let size = few (length text) (first_so (is_in_range 1 4 (length text)) _ is) in
    let small : digits_value 10 text < 10 ^ 4 = digits_value_short decimal text 4 (digits_in text is) size.1 in
    absurd (says (size.0, omega arith))

pub magnitude_parsed : {E : Type 0} (text : List ℕ) (r : Result ℕ E) → is_magnitude text ≡ true → ParsesUnsigned 16 10 text r → result_ok r ≡ magnitude_of text
magnitude_parsed text r is parses = rw is (parsed text r is (parse_digits decimal 16 text r parses (digits_in text is)))
