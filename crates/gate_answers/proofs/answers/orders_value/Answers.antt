use Rattle.gate_answers.specs.Answers.{order_data}
use Rattle.gate_answers.specs.Limits.{IsOrder}
use Rattle.gate_answers.proofs.Items.{written_next}
use Rattle.gate_answers.proofs.answers.orders_value.Goals as goal

pub loop-order-preserved : goal.loop-order-preserved
loop-order-preserved c =
    let written = c.in_ok-order_value.ensures in
    written_next order_data IsOrder c.args.orders.now c.loop-order.order-index c.order-item.result c.order-item.is c.loop-order-test.true
    c.loop-order.values.items _ _ c.in_ok-push.ensures.items c.loop-order.invariant written.value written.good
