use Rattle.std.proofs.Common.{◌≡◌, ◌++◌, map, take}
use Rattle.std.specs.String.{string_bytes}
use Rattle.gate_report.specs.Queue.{rows}
use Rattle.gate_report.proofs.batches.push_rows.Given as goal

abbrev pub invariant-loop-batch : goal.invariant-loop-batch
invariant-loop-batch l = string_bytes l.text ≡ string_bytes l.initial.text ++ rows (map (λ batch. batch.now) (take l.batch-index l.batches))
