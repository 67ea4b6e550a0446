use Rattle.std.proofs.Common.{Some, ap, sym, ◌∙◌}
use Rattle.gate_hook.proofs.FirstDenials.{at-denied, one-more-done}
use Rattle.gate_hook.proofs.denials.denial_among.Goals as goal

pub returns-in-Denied : goal.returns-in-Denied
returns-in-Denied c =
    ap Some c.word.ensures.value
    ∙ sym (at-denied c.args.replies.now c.loop-reply.reply-index c.reply-item.result c.in-Denied.rule c.reply-item.is c.loop-reply-test.true c.loop-reply.invariant c.in-Denied.is)

pub loop-reply-preserved : goal.loop-reply-preserved
loop-reply-preserved c =
    one-more-done c.args.replies.now c.loop-reply.reply-index c.reply-item.result c.reply-item.is c.loop-reply-test.true c.loop-reply.invariant c.in_default.not-Denied
