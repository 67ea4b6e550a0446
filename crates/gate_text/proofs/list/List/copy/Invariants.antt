use Rattle.std.proofs.Common.{◌≡◌, take}
use Rattle.gate_text.proofs.list.List.copy.Given as goal

abbrev pub invariant-loop-item : goal.invariant-loop-item
invariant-loop-item g l = l.items.items ≡ take l.item-index l.item-items
