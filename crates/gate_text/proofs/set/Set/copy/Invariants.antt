use Rattle.std.proofs.Common.{◌≡◌}
use Rattle.std.specs.FinSet as set
use Rattle.std.specs.List.{fold}
use Rattle.gate_text.proofs.set.Set.copy.Given as goal

-- the texts that are left, added to those that were copied
abbrev pub invariant-loop-text : goal.invariant-loop-text
invariant-loop-text g l = fold set.insert l.copy l.text-iterator ≡ l.self
