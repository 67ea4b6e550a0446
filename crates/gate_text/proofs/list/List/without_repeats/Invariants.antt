use Rattle.std.proofs.Common.{◌≡◌, []}
use Rattle.std.specs.List.{fold}
use Rattle.std.specs.Vec.Iter.{into_iter_items}
use Rattle.gate_text.specs.Arguments.{with_item}
use Rattle.gate_text.proofs.list.List.without_repeats.Given as goal

-- what is kept so far, with those of the rest that aren't repeats
abbrev pub invariant-loop-item : goal.invariant-loop-item
invariant-loop-item g l = fold (with_item g.T.PartialEq.eq) l.items.items (into_iter_items l.item-iterator) ≡ fold (with_item g.T.PartialEq.eq) [] l.fn.self
