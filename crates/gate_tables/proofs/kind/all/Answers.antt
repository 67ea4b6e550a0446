use Rattle.std.proofs.Common.{rules, [], map, ap, sym, subst, subst₂, ◌∙◌}
use Rattle.std.proofs.lemmas.Result.{IfOk-weaker}
use Rattle.gate_tables.proofs.Selecting.{reads_all}
use Rattle.gate_tables.proofs.Steps.{finds_known, plain_known}
use Rattle.gate_tables.specs.Effects.{Reads}
use Rattle.gate_tables.specs.Kept.{HaveOwn}
use Rattle.sqlite.specs.Held.{state}
use Rattle.sqlite.specs.State.{Shown}
use Rattle.gate_tables.proofs.kind.all.Goals as goal

pub returns-in_err-rows : goal.returns-in_err-rows
returns-in_err-rows g c = finds_known g.R.TableRow.form g.met.R.TableRow.keyed.known c.select_text.result.now c.select_text.ensures.text c.in_err-rows.ensures (λ _ _. search rules)

pub returns-in_err-check_rowids : goal.returns-in_err-check_rowids
returns-in_err-check_rowids g c = finds_known g.R.TableRow.form g.met.R.TableRow.keyed.known c.select_text.result.now c.select_text.ensures.text c.in_ok-rows.ensures (λ _ _. search rules)

pub returns : goal.returns
returns g c = finds_known g.R.TableRow.form g.met.R.TableRow.keyed.known c.select_text.result.now c.select_text.ensures.text c.in_ok-rows.ensures (λ clean has.
    let form = g.R.TableRow.form in
    let old = state g.S.Store c.args.tx.now.conn.now in
    let new = state g.S.Store c.select_inside.new.tx.conn.now in
    let shown = subst (λ t. Shown t [] old new c.in_ok-rows.rows.items) c.select_text.ensures.text (c.in_ok-rows.ensures.shown clean) in
    let own = subst₂ HaveOwn c.rowid_at.ensures.at c.as_slice.ensures.value c.in_ok-check_rowids.ensures in
    let rows = reads_all form g.met.R.TableRow.keyed.known old new c.in_ok-rows.rows.items has shown own in
    let still = c.in_ok-rows.ensures.still clean (plain_known form g.met.R.TableRow.keyed.known c.select_text.result.now c.select_text.ensures.text old.now.schema has) in
    IfOk-weaker c.read_all.result _ _ (λ read is. record { holds = subst (Reads form old.now.trees) (ap (map form.read) (sym c.as_slice-2.ensures.value) ∙ sym is) rows; still = still }) c.read_all.ensures.value)
