use Rattle.std.proofs.Common.{◌≡◌, true, take}
use Rattle.std.specs.List.{list_all}
use Rattle.gate_state.proofs.waiting.has_all.Given as goal

abbrev pub invariant-loop-change : goal.invariant-loop-change
invariant-loop-change g l = list_all (λ change. g.C.Choice.chooses change l.choice) (take l.change-index l.changes) ≡ true
