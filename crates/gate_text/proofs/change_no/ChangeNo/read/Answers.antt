use Rattle.std.proofs.Common.{◌∙◌, sym}
use Rattle.std.specs.Char.{is_ascii_digit}
use Rattle.gate_text.proofs.GoodBytes.{all_good}
use Rattle.gate_text.proofs.change_no.ChangeNo.read.Goals as goal

pub number_from-requires-clause-decimal : goal.number_from-requires-clause-decimal
number_from-requires-clause-decimal c =
    rw (← c.as_bytes-bytes.ensures.value) (all_good is_ascii_digit c.as_bytes-bytes.result.now (sym c.first_bad_digit.ensures ∙ c.in_default.ensures.passed.0))
