use Rattle.std.proofs.Common.{◌≡◌, length}
use Rattle.gate_state.specs.Checks.{all_pairs, is_other_change}
use Rattle.gate_state.proofs.checking.places.are_different.Given as goal

abbrev pub invariant-changes : goal.invariant-changes
invariant-changes l = all_pairs is_other_change l.rest ≡ all_pairs is_other_change l.fn.changes

abbrev pub decreases-changes : goal.decreases-changes
decreases-changes l = length l.rest
