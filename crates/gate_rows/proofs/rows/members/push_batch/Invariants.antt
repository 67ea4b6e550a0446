use Rattle.std.proofs.Common.{◌≡◌, ◌++◌, drop, map}
use Rattle.gate_rows.specs.Encoding.{from_place, member_row, members_of}
use Rattle.gate_rows.proofs.rows.members.push_batch.Given as goal

-- what has a row, and what is left
abbrev pub invariant-loop-place : goal.invariant-loop-place
invariant-loop-place l = l.rows.items ++ map (member_row l.batch.number) (from_place l.place (drop l.place l.batch.changes)) ≡ l.fn.rows.items ++ members_of l.batch
