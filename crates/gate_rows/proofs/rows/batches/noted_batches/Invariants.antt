use Rattle.std.proofs.Common.{◌≡◌, ◌++◌, map}
use Rattle.std.specs.List.{filter_map}
use Rattle.gate_rows.proofs.rows.batches.noted_batches.Given as goal

-- what is listed, and what is left
abbrev pub invariant-loop-batch : goal.invariant-loop-batch
invariant-loop-batch l = map (λ batch. batch.now) l.batches.items ++ filter_map (λ e. e.1) l.batch-iterator ≡ filter_map (λ e. e.1) l.noted.entries
