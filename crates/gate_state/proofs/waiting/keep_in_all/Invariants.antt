use Rattle.std.proofs.Common.{◌≡◌, ◌++◌, take, drop, map}
use Rattle.gate_state.specs.Lanes as lanes
use Rattle.gate_state.proofs.waiting.keep_in_all.Given as goal

abbrev pub invariant-loop-batch : goal.invariant-loop-batch
invariant-loop-batch g l =
    l.batch-items ≡ map (lanes.only (λ change. g.C.Choice.chooses change l.choice)) (take l.batch-index l.fn.batches.items) ++ drop l.batch-index l.fn.batches.items
