use Rattle.std.proofs.Common.{rules, map, refl, ap, sym, subst, ◌∙◌}
use Rattle.std.proofs.lemmas.Result.{IfOk-weaker}
use Rattle.gate_tables.proofs.Selecting.{reads_all}
use Rattle.gate_tables.proofs.Steps.{finds_known, plain_known}
use Rattle.gate_tables.specs.Answers.{known}
use Rattle.gate_tables.specs.Effects.{Reads}
use Rattle.gate_tables.specs.Forms.{answers}
use Rattle.gate_tables.specs.Kept.{HaveOwn}
use Rattle.sqlite.specs.Held.{state}
use Rattle.gate_tables.proofs.answers.read_answers.Goals as goal

pub returns-in_err-rows : goal.returns-in_err-rows
returns-in_err-rows g c = finds_known answers known _ refl c.in_err-rows.ensures (λ _ _. search rules)

pub returns-in_err-check_rowids : goal.returns-in_err-check_rowids
returns-in_err-check_rowids g c = finds_known answers known _ refl c.in_ok-rows.ensures (λ _ _. search rules)

pub returns : goal.returns
returns g c = finds_known answers known _ refl c.in_ok-rows.ensures (λ clean has.
    let old = state g.S.Store c.args.tx.now.conn.now in
    let new = state g.S.Store c.select_inside.new.tx.conn.now in
    let own = subst (HaveOwn 2) c.as_slice.ensures.value c.in_ok-check_rowids.ensures in
    let rows = reads_all answers known old new c.in_ok-rows.rows.items has (c.in_ok-rows.ensures.shown clean) own in
    let still = c.in_ok-rows.ensures.still clean (plain_known answers known answers.select refl old.now.schema has) in
    IfOk-weaker c.read_texts.result _ _ (λ read is. record { holds = subst (Reads answers old.now.trees) (ap (map answers.read) (sym c.as_slice-2.ensures.value) ∙ sym is) rows; still = still }) c.read_texts.ensures.value)
