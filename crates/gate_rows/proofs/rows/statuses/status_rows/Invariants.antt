use Rattle.std.proofs.Common.{◌≡◌, ◌++◌, drop, map}
use Rattle.std.specs.List.{flat_map}
use Rattle.gate_rows.specs.Encoding.{statuses_of}
use Rattle.gate_rows.proofs.rows.statuses.status_rows.Given as goal

-- what has rows, and what is left
abbrev pub invariant-loop-batch : goal.invariant-loop-batch
invariant-loop-batch l = l.rows.items ++ flat_map statuses_of (map (λ batch. batch.now) (drop l.batch-index l.batches)) ≡ flat_map statuses_of (map (λ batch. batch.now) l.batches)
