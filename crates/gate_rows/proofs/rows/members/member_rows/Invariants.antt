use Rattle.std.proofs.Common.{◌≡◌, ◌++◌, drop, map}
use Rattle.std.specs.List.{flat_map}
use Rattle.gate_rows.specs.Encoding.{members_of}
use Rattle.gate_rows.proofs.rows.members.member_rows.Given as goal

-- what has rows, and what is left
abbrev pub invariant-loop-batch : goal.invariant-loop-batch
invariant-loop-batch l = l.rows.items ++ flat_map members_of (map (λ batch. batch.now) (drop l.batch-index l.batches)) ≡ flat_map members_of (map (λ batch. batch.now) l.batches)
