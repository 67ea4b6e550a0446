use Rattle.std.proofs.Common.{◌≡◌, map, take}
use Rattle.std.specs.List.{All}
use Rattle.serde_json.specs.View.{view}
use Rattle.gate_answers.specs.Answers.{order_data}
use Rattle.gate_answers.specs.Limits.{IsOrder}
use Rattle.gate_answers.proofs.answers.orders_value.Given as goal

abbrev pub invariant-loop-order : goal.invariant-loop-order
invariant-loop-order l = (map view l.values.items ≡ map order_data (take l.order-index l.orders)) × All IsOrder (take l.order-index l.orders)
