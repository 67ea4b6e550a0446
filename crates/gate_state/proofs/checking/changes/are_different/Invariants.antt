use Rattle.std.proofs.Common.{◌≡◌, length}
use Rattle.gate_state.specs.Checks.{all_pairs, is_other_name}
use Rattle.gate_state.proofs.checking.changes.are_different.Given as goal

abbrev pub invariant-names : goal.invariant-names
invariant-names l = all_pairs is_other_name l.rest ≡ all_pairs is_other_name l.fn.names

abbrev pub decreases-names : goal.decreases-names
decreases-names l = length l.rest
