use Rattle.std.proofs.Common.{◌≡◌, ◌++◌, map}
use Rattle.std.specs.Vec.Iter.{into_iter_items}
use Rattle.gate_state.specs.declared.act.Act.TheVariants as act
use Rattle.gate_state.specs.declared.act.Deed.TheVariants.{Said}
use Rattle.gate_deliveries.proofs.delivery.acts_for.Given as goal

abbrev pub invariant-loop-spoken : goal.invariant-loop-spoken
invariant-loop-spoken l =
    l.acts.items ++ map (λ said. act.On l.change (Said l.person said)) (into_iter_items l.spoken-iterator) ≡ map (λ said. act.On l.change (Said l.person said)) l.fn.spoken.items
