use Rattle.std.proofs.Common.{◌≡◌, length}
use Rattle.gate_state.specs.Checks.{all_pairs, has_other_number}
use Rattle.gate_state.proofs.checking.numbers.are_unlike.Given as goal

abbrev pub invariant-batches : goal.invariant-batches
invariant-batches l = all_pairs has_other_number l.rest ≡ all_pairs has_other_number l.fn.batches

abbrev pub decreases-batches : goal.decreases-batches
decreases-batches l = length l.rest
