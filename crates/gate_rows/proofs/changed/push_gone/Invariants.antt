use Rattle.std.proofs.Common.{◌≡◌, ◌++◌, drop, map}
use Rattle.gate_rows.specs.Changed.{unmatched}
use Rattle.gate_rows.proofs.changed.push_gone.Given as goal
use Rattle.gate_tables.specs.Keys.{has_key, key_of}

-- what is listed, and what is left of both lists
abbrev pub invariant-loop-row : goal.invariant-loop-row
invariant-loop-row g l =
    l.deletions.items ++ map g.R.Keyed.deletion (unmatched g.R.Keyed.form (λ r x. has_key g.R.Keyed.form (key_of g.R.Keyed.form r) x) (drop l.row-index l.old) l.rest)
    ≡ l.fn.deletions.items ++ map g.R.Keyed.deletion (unmatched g.R.Keyed.form (λ r x. has_key g.R.Keyed.form (key_of g.R.Keyed.form r) x) l.old l.new)
