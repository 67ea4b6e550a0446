use Rattle.std.proofs.Common.{rules, ◌≡◌, ◌+◌, [], ◌∷◌, ◌++◌, take, subst}
use Rattle.std.proofs.lemmas.List.{take_more}
use Rattle.gate_tables.proofs.Applying.{changes_more}
use Rattle.gate_tables.proofs.Steps.{does_both, does_so}
use Rattle.gate_tables.specs.Effects.{Changes}
use Rattle.sqlite.specs.Held.{state}
use Rattle.gate_tables.proofs.apply.change_all.Goals as goal

pub loop-change-preserved : goal.loop-change-preserved
loop-change-preserved g c =
    let first = state g.S.Store c.args.tx.now.conn.now in
    let mid = state g.S.Store c.loop-change.tx.conn.now in
    let last = state g.S.Store c.change_one.new.tx.conn.now in
    let at = c.loop-change.change-index in
    does_so (does_both c.loop-change.invariant c.in_ok-change_one.ensures) (λ _ both inside.
    let so_far = both.0 inside in
    let one = both.1 so_far.0 in
    let all = changes_more (take at c.args.changes.now) c.change-item.result first.now.trees mid.now.trees last.now.trees so_far.1 one.1 in
    let more : take at c.args.changes.now ++ c.change-item.result ∷ [] ≡ take (at + 1) c.args.changes.now = search (rules, take_more) in
    (one.0, subst (λ cs. Changes cs first.now.trees last.now.trees) more all))
