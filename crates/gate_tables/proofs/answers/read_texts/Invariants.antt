use Rattle.std.proofs.Common.{◌≡◌, map, take}
use Rattle.gate_tables.specs.Forms.{answers}
use Rattle.gate_tables.proofs.answers.read_texts.Given as goal

-- the rows so far are read
abbrev pub invariant-loop-row : goal.invariant-loop-row
invariant-loop-row l = l.read ≡ map answers.read (take l.row-index l.rows)
