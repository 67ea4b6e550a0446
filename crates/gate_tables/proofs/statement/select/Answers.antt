use Rattle.std.proofs.Common.{rules}
use Rattle.gate_tables.proofs.Leaving.{failed_leaves, shown_leaves, shown_open}
use Rattle.gate_tables.proofs.Steps.{survives_lasts}
use Rattle.sqlite.specs.Held.{state}
use Rattle.sqlite.specs.State.{HasCleanDisk}
use Rattle.sqlite.specs.Values.{bound}
use Rattle.gate_tables.proofs.statement.select.Goals as goal

pub returns-in_err-query_all-clause-asked : goal.returns-in_err-query_all-clause-asked
returns-in_err-query_all-clause-asked g c =
    let old = state g.S.Store c.args.conn.now in
    let new = state g.S.Store c.query_all.new.self in
    let left = λ (clean : HasCleanDisk new). failed_leaves c.args.sql.now (bound c.args.params.now) old new c.in_err-query_all.field-0.0 (c.in_err-query_all.ensures.err clean) in
    record {
      mode = search rules;
      left = λ clean _. left clean;
      lasts = survives_lasts old new (λ clean. (left clean).was_open) c.query_all.ensures.survives;
      stays = search rules;
    }

pub returns-clause-asked : goal.returns-clause-asked
returns-clause-asked g c =
    let old = state g.S.Store c.args.conn.now in
    let new = state g.S.Store c.query_all.new.self in
    let rows = c.in_ok-query_all.field-0.items in
    let opened = λ (clean : HasCleanDisk new). shown_open c.args.sql.now (bound c.args.params.now) old new rows (c.in_ok-query_all.ensures.ok clean) in
    record {
      mode = search rules;
      left = λ clean plain. shown_leaves c.args.sql.now (bound c.args.params.now) old new rows plain (c.in_ok-query_all.ensures.ok clean);
      lasts = survives_lasts old new (λ clean _. (opened clean).0) c.query_all.ensures.survives;
      stays = λ clean. (opened clean).1;
    }
