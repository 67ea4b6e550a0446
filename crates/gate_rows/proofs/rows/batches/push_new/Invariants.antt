use Rattle.std.proofs.Common.{◌≡◌, ◌++◌, ◌-◌, map}
use Rattle.std.specs.List.{range_with_len}
use Rattle.gate_rows.specs.Parts.{batches_under}
use Rattle.gate_rows.proofs.rows.batches.push_new.Given as goal

-- what is listed, and what is left
abbrev pub invariant-loop-number : goal.invariant-loop-number
invariant-loop-number l =
    map (λ batch. batch.now) l.batches.items ++ batches_under (range_with_len l.number (l.gate.queue.next - l.number)) l.gate.queue
    ≡ map (λ batch. batch.now) l.fn.batches.items ++ batches_under (range_with_len l.from (l.gate.queue.next - l.from)) l.gate.queue
