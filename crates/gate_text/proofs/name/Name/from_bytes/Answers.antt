use Rattle.std.proofs.Common.{◌∙◌, sym, ◌-◌, length, take, drop}
use Rattle.gate_text.specs.SmallTexts.{is_name_byte}
use Rattle.gate_text.proofs.GoodBytes.{all_good, unmapped}
use Rattle.gate_text.proofs.name.Name.from_bytes.Goals as goal

pub lowercase-requires : goal.lowercase-requires
lowercase-requires c =
    let text = c.args.text.now in
    let body = take (length text - c.from-dropped.result) (drop c.from-dropped.result text) in
    all_good is_name_byte body (sym c.first_bad_byte.ensures ∙ unmapped _ _ c.map-bad.ensures.variant c.in_default.ensures.passed.0)
