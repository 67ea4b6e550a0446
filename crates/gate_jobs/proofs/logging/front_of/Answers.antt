use Rattle.std.proofs.Common.{arith, sym}
use Rattle.std.proofs.lemmas.List.{length-take-le, take_all}
use Rattle.gate_jobs.proofs.logging.front_of.Goals as goal

pub slice_bounds-result-end : goal.slice_bounds-result-end
slice_bounds-result-end c = sym (length-take-le 200 c.args.text.now (omega (arith, c.if-text-gt-MAX_SHOWN.true)))

pub returns-else-text-gt-MAX_SHOWN : goal.returns-else-text-gt-MAX_SHOWN
returns-else-text-gt-MAX_SHOWN c = sym (take_all 200 c.args.text.now (omega (arith, c.if-text-gt-MAX_SHOWN.false)))
