use Rattle.std.proofs.Common.{◌≡◌, ◌++◌, map}
use Rattle.std.specs.Map.{keys_of}
use Rattle.gate_rows.specs.Parts.{batches_under}
use Rattle.gate_rows.proofs.rows.batches.push_present.Given as goal

-- what is listed, and what is left
abbrev pub invariant-loop-number : goal.invariant-loop-number
invariant-loop-number l =
    map (λ batch. batch.now) l.batches.items ++ batches_under (keys_of l.number-iterator) l.gate.queue ≡ map (λ batch. batch.now) l.fn.batches.items ++ batches_under (keys_of l.noted.entries) l.gate.queue
