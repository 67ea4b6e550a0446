use Rattle.std.proofs.Common.{◌≡◌, ◌++◌, map}
use Rattle.std.specs.Vec.Iter.{into_iter_items}
use Rattle.gate_rows.specs.Changed.{unmatched}
use Rattle.gate_rows.proofs.changed.push_differing.Given as goal
use Rattle.gate_tables.specs.Differences.{is_same}

-- what is listed, and what is left of both lists
abbrev pub invariant-loop-row : goal.invariant-loop-row
invariant-loop-row g l =
    l.puts.items ++ map g.R.Keyed.put (unmatched g.R.Keyed.form (is_same g.R.Keyed.form) (into_iter_items l.row-iterator) l.rest)
    ≡ l.fn.puts.items ++ map g.R.Keyed.put (unmatched g.R.Keyed.form (is_same g.R.Keyed.form) l.fn.new.items l.old)
