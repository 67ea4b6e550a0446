use Rattle.std.proofs.Common.{◌≡◌, ◌++◌, drop}
use Rattle.gate_queue.specs.Touching.{numbers_so}
use Rattle.gate_queue.proofs.touching.push_that_lose.Given as goal
use Rattle.gate_state.specs.Lanes.{loses}

-- the numbers so far, and then those of the batches that are left
abbrev pub invariant-loop-batch : goal.invariant-loop-batch
invariant-loop-batch g l =
    l.numbers.items ++ numbers_so (loses (λ change. g.C.Choice.chooses change l.choice)) (drop l.batch-index l.batches)
    ≡ l.fn.numbers.items ++ numbers_so (loses (λ change. g.C.Choice.chooses change l.choice)) l.batches
