use Rattle.std.proofs.Common.{◌++◌, ◌∙◌, inr, ap, length, length-append, arith}
use Rattle.std.proofs.KnownBytes.{Consumes-trans}
use Rattle.gate_hook.proofs.receiving.read_body.Goals as goal

pub returns-in-Err : goal.returns-in-Err
returns-in-Err g c =
    let failed = c.in-Err.ensures in
    let read = c.loop-bytes.invariant.0 in (
      failed.0,
      (
        read.0,
        failed.2.0,
        Consumes-trans _ _ _ _ _ read.1 failed.2.1,
        failed.1 ∙ read.2,
        inr (omega (
          arith,
          failed.2.2,
          c.len.ensures,
          c.len-in-loop-bytes.ensures,
          c.loop-bytes.invariant.1,
          c.loop-bytes-test.true,
          ap length read.2,
          length-append c.args.bytes.now.items read.0,
          length-append read.0 failed.2.0,
          length-append c.args.bytes.now.items (read.0 ++ failed.2.0),
        )),
        failed.2.3,
      ),
    )
