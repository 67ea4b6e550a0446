use Rattle.std.proofs.lemmas.List.Elements.{All-push}
use Rattle.gate_answers.specs.Answers.{reply_data}
use Rattle.gate_answers.specs.Limits.{IsReply}
use Rattle.gate_answers.proofs.Items.{begins_more, found_all, none_found}
use Rattle.gate_answers.proofs.finding.replies_in.Goals as goal

pub returns-in_err-reply_in-clause-again : goal.returns-in_err-reply_in-clause-again
returns-in_err-reply_in-clause-again c =
    none_found reply_data IsReply c.args.values.now c.loop-value.replies c.loop-value.value-index c.loop-value.invariant.0
    c.value-item.result c.value-item.is c.loop-value-test.true _ _ c.from_residual.ensures.1 c.in_err-reply_in.ensures.again

pub loop-value-preserved : goal.loop-value-preserved
loop-value-preserved c =
    rw c.in_ok-push.ensures.ok (
      begins_more reply_data IsReply c.args.values.now c.loop-value.replies c.loop-value.value-index c.loop-value.invariant.0
          c.value-item.result c.value-item.is c.loop-value-test.true _ c.in_ok-reply_in.ensures.again,
      All-push IsReply _ _ c.loop-value.invariant.1 c.in_ok-reply_in.ensures.good,
    )

pub returns-clause-again : goal.returns-clause-again
returns-clause-again c =
    found_all reply_data IsReply c.args.values.now c.loop-value.replies c.loop-value.value-index c.loop-value.invariant.0 c.loop-value-test.false
