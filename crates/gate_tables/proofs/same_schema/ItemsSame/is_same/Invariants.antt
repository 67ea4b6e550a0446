use Rattle.std.proofs.Common.{◌≡◌, take}
use Rattle.gate_tables.proofs.same_schema.ItemsSame.is_same.Given as goal

-- so far the items are the same
abbrev pub invariant-loop-at : goal.invariant-loop-at
invariant-loop-at g l = take l.at l.ones ≡ take l.at l.others
