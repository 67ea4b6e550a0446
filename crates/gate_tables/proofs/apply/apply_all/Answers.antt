use Rattle.std.proofs.Common.{rules, ◌≡◌, sym, subst}
use Rattle.gate_tables.proofs.Committing.{commits}
use Rattle.gate_tables.proofs.Steps.{clean_before}
use Rattle.gate_tables.specs.Effects.{Applied}
use Rattle.sqlite.specs.Held.{Held, state}
use Rattle.sqlite.specs.State.{HasCleanDisk}
use Rattle.gate_tables.proofs.apply.apply_all.Goals as goal

pub returns : goal.returns
returns g c = record {
  mode = search rules;
  did = λ clean ready.
      let added = state g.S.Store c.put_answer.new.tx.conn.now in
      let new = state g.S.Store c.commit.new.self.0 in
      let is : c.commit.new.self.0 ≡ c.conn-2-1.given.0 = search rules in
      let new_clean = subst (λ (h : Held g.row.S.Denot). HasCleanDisk (state g.S.Store h)) (sym is) clean in
      let added_clean = clean_before added new c.commit.ensures.survives new_clean in
      let changed_clean = c.put_answer.ensures.goes_on.lasts.clean added_clean in
      let shows = (c.in_ok-commit.ensures.ok new_clean).1 in
      let open_changed = (c.put_answer.ensures.goes_on.kept added_clean).was_open shows.was_open in
      let open_begun = (c.change_all.ensures.goes_on.kept changed_clean).was_open open_changed in
      let it = commits g.S.Store c.args.conn.now c.transaction-tx.result.conn.now c.transaction-tx.ensures.begun (state g.S.Store c.change_all.new.tx.conn.now) added new c.args.changes.now c.args.id.now c.args.body.now ready open_begun
      (c.in_ok-change_all.ensures.did changed_clean) (c.in_ok-put_answer.ensures.did added_clean) shows.now_is shows.committed_is in
      subst (λ (h : Held g.row.S.Denot). Applied c.args.changes.now c.args.id.now c.args.body.now (state g.S.Store c.args.conn.now) (state g.S.Store h)) is it;
  left = λ _ _. tt;
  lasts = search rules;
  stays = search rules;
}
