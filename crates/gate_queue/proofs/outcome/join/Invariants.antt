use Rattle.std.proofs.Common.{◌≡◌, ◌++◌}
use Rattle.std.specs.Vec.Iter.{into_iter_items}
use Rattle.gate_queue.proofs.outcome.join.Given as goal

-- the orders so far, and then those that are left
abbrev pub invariant-loop-order : goal.invariant-loop-order
invariant-loop-order l = l.first ++ into_iter_items l.order-iterator ≡ l.fn.first ++ l.fn.second
