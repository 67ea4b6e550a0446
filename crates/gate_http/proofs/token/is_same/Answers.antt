use Rattle.std.proofs.Common.{arith}
use Rattle.gate_http.proofs.Tokens.{tells-all, tells-more}
use Rattle.gate_http.proofs.token.is_same.Goals as goal

pub loop-place-preserved : goal.loop-place-preserved
loop-place-preserved c =
    tells-more c.args.text.now c.args.other.now c.loop-place.place c.loop-place.difference (omega (arith, c.loop-place-test.true))
    (omega (arith, c.loop-place-test.true, c.requires)) c.loop-place.invariant

pub returns : goal.returns
returns c =
    tells-all c.args.text.now c.args.other.now c.loop-place.place c.loop-place.difference c.requires (omega (arith, c.loop-place-test.false)) c.loop-place.invariant
