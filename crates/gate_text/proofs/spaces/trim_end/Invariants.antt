use Rattle.std.proofs.Common.{◌≡◌, length}
use Rattle.gate_text.specs.Spaces.{trim_end}
use Rattle.gate_text.proofs.spaces.trim_end.Given as goal

abbrev pub invariant-loop-others : goal.invariant-loop-others
invariant-loop-others l = trim_end l.rest ≡ trim_end l.text

abbrev pub decreases-loop-others : goal.decreases-loop-others
decreases-loop-others l = length l.rest
