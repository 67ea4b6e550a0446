use Rattle.std.proofs.Common.{rules}
use Rattle.gate_rows.proofs.SameRows.{first_same}
use Rattle.gate_rows.proofs.changed.begin_with.Goals as goal

pub returns-in-Some : goal.returns-in-Some
returns-in-Some g c =
    let same = first_same g.R.Keyed.form g.met.R.Keyed.keyed g.R.PartialEq.eq g.met.R.Eq.laws g.met.R.Same.same c.in-Some.first.now c.args.row.now in
    search (rules, same)
