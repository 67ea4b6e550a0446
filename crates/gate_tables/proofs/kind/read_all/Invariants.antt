use Rattle.std.proofs.Common.{◌≡◌, map, take}
use Rattle.gate_tables.proofs.kind.read_all.Given as goal

-- the rows so far are read
abbrev pub invariant-loop-row : goal.invariant-loop-row
invariant-loop-row g l = l.read ≡ map g.R.TableRow.form.read (take l.row-index l.rows)
