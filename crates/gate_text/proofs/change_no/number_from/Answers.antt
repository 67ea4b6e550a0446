use Rattle.std.proofs.Common.{ℕ, Ok, Err, refl, rules}
use Rattle.std.proofs.lemmas.Str.Parse.{parse_digits}
use Rattle.gate_text.proofs.Digits.{decimal, digits_value-positive, too_great}
use Rattle.gate_text.proofs.change_no.number_from.Goals as goal

pub returns-in-Ok-clause-least : goal.returns-in-Ok-clause-least
returns-in-Ok-clause-least c =
    let digits = c.args.digits.now in
    let read = parse_digits decimal {E = ℕ} 32 digits (Ok c.in-Ok.number) c.in-Ok.ensures.value.0 c.requires.decimal in
    rw read.1 (digits_value-positive digits c.requires.some c.requires.decimal (search rules))

pub returns-in-Err-clause-value : goal.returns-in-Err-clause-value
returns-in-Err-clause-value c =
    let past = parse_digits decimal 32 c.args.digits.now (Err c.in-Err.field-0) c.in-Err.ensures.value.0 c.requires.decimal in
    rw (too_great _ _ (λ less. past (c.requires.some, less))) refl
