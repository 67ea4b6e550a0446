use Rattle.std.proofs.Common.{rules}
use Rattle.gate_rows.proofs.ByKey.{tied_is}
use Rattle.gate_rows.proofs.changed.begin_with_key.Goals as goal

pub returns-in-Some : goal.returns-in-Some
returns-in-Some g c =
    let tied = tied_is g.R.Keyed.form g.met.R.Keyed.keyed c.args.row.now c.in-Some.first.now in
    search (rules, tied)
