use Rattle.std.proofs.lemmas.List.Elements.{All-push}
use Rattle.gate_answers.specs.Answers.{order_data}
use Rattle.gate_answers.specs.Limits.{IsOrder}
use Rattle.gate_answers.proofs.Items.{begins_more, found_all, none_found}
use Rattle.gate_answers.proofs.finding.orders_in.Goals as goal

pub returns-in_err-order_in-clause-again : goal.returns-in_err-order_in-clause-again
returns-in_err-order_in-clause-again c =
    none_found order_data IsOrder c.args.values.now c.loop-value.orders c.loop-value.value-index c.loop-value.invariant.0
    c.value-item.result c.value-item.is c.loop-value-test.true _ _ c.from_residual.ensures.1 c.in_err-order_in.ensures.again

pub loop-value-preserved : goal.loop-value-preserved
loop-value-preserved c =
    rw c.in_ok-push.ensures.ok (
      begins_more order_data IsOrder c.args.values.now c.loop-value.orders c.loop-value.value-index c.loop-value.invariant.0
          c.value-item.result c.value-item.is c.loop-value-test.true _ c.in_ok-order_in.ensures.again,
      All-push IsOrder _ _ c.loop-value.invariant.1 c.in_ok-order_in.ensures.good,
    )

pub returns-clause-again : goal.returns-clause-again
returns-clause-again c =
    found_all order_data IsOrder c.args.values.now c.loop-value.orders c.loop-value.value-index c.loop-value.invariant.0 c.loop-value-test.false
