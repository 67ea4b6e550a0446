use Rattle.std.proofs.Common.{◌≡◌, ◌++◌, map, take}
use Rattle.gate_state.proofs.queue.push_batches.Given as goal

abbrev pub invariant-loop-batch : goal.invariant-loop-batch
invariant-loop-batch l = map (λ batch. batch.now) l.batches.items ≡ map (λ batch. batch.now) l.initial.batches.items ++ take l.batch-index l.lane.waiting
