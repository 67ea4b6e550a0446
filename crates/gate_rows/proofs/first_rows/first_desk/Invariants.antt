use Rattle.std.proofs.Common.{◌≡◌, map, pos}
use Rattle.gate_rows.specs.FirstRows.{with_version}
use Rattle.gate_rows.proofs.first_rows.first_desk.Given as goal

-- the rows so far
abbrev pub invariant-loop-row : goal.invariant-loop-row
invariant-loop-row l = l.first.items ≡ map (with_version (pos 1)) l.yielded
