use Rattle.std.proofs.Common.{sym}
use Rattle.gate_http.proofs.Numerals.{numeral-text}
use Rattle.gate_http.proofs.head.size_of.Goals as goal

pub returns-in-Err : goal.returns-in-Err
returns-in-Err c = absurd (c.in-Err.ensures.cases.0 (numeral-text c.args.value.now (sym c.if-not-is_numeral.ensures)))
