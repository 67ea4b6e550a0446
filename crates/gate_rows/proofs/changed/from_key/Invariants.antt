use Rattle.std.proofs.Common.{◌≡◌, length}
use Rattle.gate_rows.specs.Changed.{from_key}
use Rattle.gate_rows.proofs.changed.from_key.Given as goal

abbrev pub invariant-rows : goal.invariant-rows
invariant-rows g l = from_key g.R.Keyed.form l.row l.rest ≡ from_key g.R.Keyed.form l.row l.fn.rows

abbrev pub decreases-rows : goal.decreases-rows
decreases-rows g l = length l.rest
