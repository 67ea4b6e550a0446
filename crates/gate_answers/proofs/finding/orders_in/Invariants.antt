use Rattle.std.specs.List.{All}
use Rattle.gate_answers.specs.Answers.{order_data}
use Rattle.gate_answers.specs.Limits.{IsOrder}
use Rattle.gate_answers.proofs.Items.{Begins}
use Rattle.gate_answers.proofs.finding.orders_in.Given as goal

abbrev pub invariant-loop-value : goal.invariant-loop-value
invariant-loop-value l = Begins order_data IsOrder l.values l.orders l.value-index × All IsOrder l.orders
