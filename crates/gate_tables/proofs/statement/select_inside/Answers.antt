use Rattle.std.proofs.Common.{rules, []}
use Rattle.gate_tables.proofs.Leaving.{failed_keeps, shown_open, shown_unchanged, unchanged_keeps}
use Rattle.gate_tables.proofs.Steps.{survives_lasts}
use Rattle.gate_tables.specs.Calls.{Understands}
use Rattle.sqlite.specs.Held.{state}
use Rattle.sqlite.specs.State.{HasCleanDisk}
use Rattle.gate_tables.proofs.statement.select_inside.Goals as goal

pub returns-in_err-query_all : goal.returns-in_err-query_all
returns-in_err-query_all g c =
    let old = state g.S.Store c.args.tx.now.conn.now in
    let new = state g.S.Store c.query_all.new.self.conn.now in
    let kept = λ (clean : HasCleanDisk new). failed_keeps c.args.sql.now [] old new c.in_err-query_all.field-0.0 (c.in_err-query_all.ensures.err clean) in
    record {
      same_reference = c.query_all.ensures.same_reference;
      shown = search rules;
      still = search rules;
      asks = record { lasts = survives_lasts old new (λ clean. (kept clean).was_open) c.query_all.ensures.survives; kept = λ clean _. kept clean };
    }

pub returns : goal.returns
returns g c =
    let old = state g.S.Store c.args.tx.now.conn.now in
    let new = state g.S.Store c.query_all.new.self.conn.now in
    let rows = c.in_ok-query_all.field-0.items in
    let shown = c.in_ok-query_all.ensures.ok in
    let still = λ (clean : HasCleanDisk new) (plain : Understands c.args.sql.now old). shown_unchanged c.args.sql.now [] old new rows plain (shown clean) in
    record {
      same_reference = c.query_all.ensures.same_reference;
      shown = shown;
      still = still;
      asks = record {
        lasts = survives_lasts old new (λ clean _. (shown_open c.args.sql.now [] old new rows (shown clean)).0) c.query_all.ensures.survives;
        kept = λ clean plain. unchanged_keeps old new (still clean plain);
      };
    }
