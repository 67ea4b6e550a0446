use Rattle.std.proofs.Common.{◌≡◌, ℕ, ◌<◌, true, ◌∙◌, sym, arith, rules}
use Rattle.std.proofs.lemmas.Bool.Decides.{nat_tests}
use Rattle.std.proofs.lemmas.Str.{IsUtf8-from_ascii}
use Rattle.std.specs.Char.{is_ascii_digit}
use Rattle.gate_text.specs.Arguments.{is_magnitude}
use Rattle.gate_text.proofs.GoodBytes.{ascii}
use Rattle.gate_text.proofs.Numbers.{refused_so, given_so, digits_in, magnitude_parsed}
use Rattle.gate_text.proofs.argument.magnitude_of.Goals as goal

digit_below_128 : (b : ℕ) → is_ascii_digit b ≡ true → b < 128
digit_below_128 b digit = grind (arith, nat_tests)

pub returns-in_err-ok : goal.returns-in_err-ok
returns-in_err-ok c =
    let text = c.args.text.now in
    let is : is_magnitude text ≡ true = search rules in
    let refused = refused_so _ _ c.from_utf8.result (sym c.ok.ensures.value ∙ c.in_err-ok.was) c.from_utf8.ensures.cases in
    absurd (refused.1.0 (IsUtf8-from_ascii text (ascii is_ascii_digit digit_below_128 text (digits_in text is))))

pub returns : goal.returns
returns c =
    let text = c.args.text.now in
    let is : is_magnitude text ≡ true = search rules in
    let given = given_so _ _ c.from_utf8.result _ (sym c.ok.ensures.value ∙ c.in_ok-ok.was) c.from_utf8.ensures.cases in
    c.ok-2.ensures.value ∙ magnitude_parsed text c.parse.result is (rw (← given.0) c.parse.ensures.value.0)
