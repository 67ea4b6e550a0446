use Rattle.std.proofs.Common.{take}
use Rattle.gate_tables.proofs.Rising.{Risen}
use Rattle.gate_tables.proofs.rowids.check_rowids.Given as goal

-- the rows so far have integers that rise up to the last
abbrev pub invariant-loop-row : goal.invariant-loop-row
invariant-loop-row l = Risen l.at (take l.row-index l.rows) l.last
