use Rattle.std.proofs.Common.{◌≡◌, map, take}
use Rattle.gate_rows.specs.Encoding.{batch_row}
use Rattle.gate_rows.proofs.rows.batches.batch_rows.Given as goal

abbrev pub invariant-loop-batch : goal.invariant-loop-batch
invariant-loop-batch l = l.rows.items ≡ map batch_row (map (λ batch. batch.now) (take l.batch-index l.batches))
