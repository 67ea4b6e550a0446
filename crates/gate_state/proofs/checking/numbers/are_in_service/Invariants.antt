use Rattle.std.proofs.Common.{◌≡◌, length}
use Rattle.gate_state.specs.Checks.{all_pairs}
use Rattle.gate_state.specs.Lanes.{goes_before}
use Rattle.gate_state.proofs.checking.numbers.are_in_service.Given as goal

abbrev pub invariant-waiting : goal.invariant-waiting
invariant-waiting l = all_pairs goes_before l.rest ≡ all_pairs goes_before l.fn.waiting

abbrev pub decreases-waiting : goal.decreases-waiting
decreases-waiting l = length l.rest
