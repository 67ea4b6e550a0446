use Rattle.std.proofs.Common.{◌≡◌, ◌++◌, drop, map}
use Rattle.gate_state.specs.declared.batch.Batch.{Batch}
use Rattle.gate_state.specs.Queue.{numbers_of}
use Rattle.gate_state.proofs.queue.Queue.numbers.Given as goal

-- the numbers so far, and those of the batches that are left
abbrev pub invariant-loop-batch : goal.invariant-loop-batch
invariant-loop-batch l =
    l.numbers.items ++ map (λ (batch : Batch). batch.number) (map (λ batch. batch.now) (drop l.batch-index l.batch-items)) ≡ numbers_of l.self
