use Rattle.std.proofs.Common.{◌≡◌, length}
use Rattle.gate_text.specs.Spaces.{trim_start}
use Rattle.gate_text.proofs.spaces.trim_start.Given as goal

abbrev pub invariant-loop-others : goal.invariant-loop-others
invariant-loop-others l = trim_start l.rest ≡ trim_start l.text

abbrev pub decreases-loop-others : goal.decreases-loop-others
decreases-loop-others l = length l.rest
