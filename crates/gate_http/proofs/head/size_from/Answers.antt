use Rattle.std.proofs.Common.{Err, sym}
use Rattle.std.proofs.lemmas.Str.Parse.{parse_digits}
use Rattle.gate_http.proofs.Numerals.{decimal, only_digits, size-great, some_digit}
use Rattle.gate_http.proofs.head.size_from.Goals as goal

pub returns-in_default : goal.returns-in_default
returns-in_default c =
    let digits = c.args.digits.now in
    let past = parse_digits decimal 64 digits (Err c.in_default.field-0) c.in_default.ensures.value.0 (only_digits digits c.requires) in
    sym (size-great digits c.requires (λ less. past (some_digit digits c.requires, less)))
