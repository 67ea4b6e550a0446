use Rattle.std.proofs.lemmas.Result.{on_ok_weaker}
use Rattle.gate_tables.proofs.Completing.{brings, completed_inside}
use Rattle.gate_tables.proofs.Steps.{does_both, does_so}
use Rattle.sqlite.specs.Held.{state}
use Rattle.gate_tables.proofs.make.bring.Goals as goal

pub returns : goal.returns
returns g c =
    let old = state g.S.Store c.args.tx.now.conn.now in
    let mid = state g.S.Store c.complete.new.tx.conn.now in
    let new = state g.S.Store c.change_all.new.tx.conn.now in
    does_so (does_both c.in_ok-complete.ensures c.change_all.ensures) (λ clean both.
    on_ok_weaker c.change_all.result (λ change is_open begun kept.
    let mid_open = (c.change_all.ensures.goes_on.kept clean).was_open is_open in
    let all = both.0 begun in
    let completes = all.whole mid_open in
    let changed = change (completed_inside c.args.version old mid begun completes all.schema mid_open kept) in
    (changed.0, brings c.args.version c.args.changes.now old mid new begun completes changed.1)) both.1)
