use Rattle.std.proofs.Common.{rules, ◌≡◌, sym, subst}
use Rattle.gate_tables.proofs.Completing.{taken}
use Rattle.gate_tables.proofs.Looking.{begun_same, has_begun}
use Rattle.gate_tables.proofs.Steps.{clean_before}
use Rattle.gate_tables.specs.Effects.{Brings, Taken}
use Rattle.gate_tables.specs.Kept.{AreKept}
use Rattle.sqlite.specs.Effect.{Database}
use Rattle.sqlite.specs.Held.{Held, state}
use Rattle.sqlite.specs.State.{HasCleanDisk}
use Rattle.gate_tables.proofs.make.bring_all.Goals as goal

pub returns : goal.returns
returns g c = record {
  mode = search rules;
  did = λ clean may.
      let old = state g.S.Store c.args.conn.now in
      let done = state g.S.Store c.bring.new.tx.conn.now in
      let new = state g.S.Store c.commit.new.self.0 in
      let is : c.commit.new.self.0 ≡ c.conn-2-1.given.0 = search rules in
      let new_clean = subst (λ (h : Held g.row.S.Denot). HasCleanDisk (state g.S.Store h)) (sym is) clean in
      let done_clean = clean_before done new c.commit.ensures.survives new_clean in
      let same = begun_same g.S.Store c.args.conn.now c.transaction-tx.result.conn.now c.transaction-tx.ensures.begun in
      let is_begun = has_begun g.S.Store c.args.conn.now c.transaction-tx.result.conn.now c.transaction-tx.ensures.begun c.args.version may.version_is may.found.tables may.live in
      let shows = (c.in_ok-commit.ensures.ok new_clean).1 in
      let brought = c.in_ok-bring.ensures.did done_clean shows.was_open is_begun (subst (λ (db : Database). AreKept db.schema db.trees) (sym same) may.found.kept) in
      let it = taken c.args.changes.now old done new brought.0 (subst (λ (db : Database). Brings c.args.changes.now db done.now) same brought.1) shows.now_is shows.committed_is in
      subst (λ (h : Held g.row.S.Denot). Taken c.args.changes.now old (state g.S.Store h)) is it;
  left = λ _ _. tt;
  lasts = search rules;
  stays = search rules;
}
