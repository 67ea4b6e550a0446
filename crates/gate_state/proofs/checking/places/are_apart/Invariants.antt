use Rattle.std.proofs.Common.{◌≡◌, length}
use Rattle.gate_state.specs.Checks.{are_apart}
use Rattle.gate_state.proofs.checking.places.are_apart.Given as goal

abbrev pub invariant-batches : goal.invariant-batches
invariant-batches l = are_apart l.rest ≡ are_apart l.fn.batches

abbrev pub decreases-batches : goal.decreases-batches
decreases-batches l = length l.rest
