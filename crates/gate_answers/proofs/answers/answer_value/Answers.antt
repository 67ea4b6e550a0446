use Rattle.gate_answers.specs.Answers.{reply_data}
use Rattle.gate_answers.specs.Limits.{IsReply}
use Rattle.gate_answers.proofs.Items.{written_next}
use Rattle.gate_answers.proofs.answers.answer_value.Goals as goal

pub loop-reply-preserved : goal.loop-reply-preserved
loop-reply-preserved c =
    let written = c.in_ok-reply_value.ensures in
    written_next reply_data IsReply c.args.answer.now c.loop-reply.reply-index c.reply-item.result c.reply-item.is c.loop-reply-test.true
    c.loop-reply.replies.items _ _ c.in_ok-push.ensures.items c.loop-reply.invariant written.value written.good
