use Rattle.std.proofs.Common.{◌≡◌, rules, subst}
use Rattle.gate_tables.proofs.Looking.{begun_same, has_begun, shows}
use Rattle.gate_tables.specs.Effects.{ShowsAll}
use Rattle.gate_tables.specs.Schemas.{version_of}
use Rattle.sqlite.specs.Effect.{Database}
use Rattle.sqlite.specs.Held.{state}
use Rattle.sqlite.specs.State.{HasCleanDisk}
use Rattle.gate_tables.proofs.look.look.Goals as goal

pub returns-clause-shown : goal.returns-clause-shown
returns-clause-shown g c clean has =
    let old = state g.S.Store c.args.conn.now in
    let version = c.of-version.result in
    let begun = state g.S.Store c.transaction-tx.result.conn.now in
    let mid = state g.S.Store c.complete.new.tx.conn.now in
    let after_clean : HasCleanDisk (state g.S.Store c.read_contents.new.tx.conn.now) = search rules in
    let mid_clean = c.in_ok-contents.ensures.asks.lasts.clean after_clean in
    let found : version ≡ version_of old.now.schema = search rules in
    let same = begun_same g.S.Store c.args.conn.now c.transaction-tx.result.conn.now c.transaction-tx.ensures.begun in
    let is_begun = has_begun g.S.Store c.args.conn.now c.transaction-tx.result.conn.now c.transaction-tx.ensures.begun version found has c.schema.ensures.live in
    let all = c.in_ok-complete.ensures.did mid_clean is_begun in
    let told = c.in_ok-contents.ensures.found after_clean all.schema in
    let completes = all.whole told.still.0.was_open in
    let was_open = (c.in_ok-complete.ensures.goes_on.kept mid_clean).was_open told.still.0.was_open in
    subst (λ (db : Database). ShowsAll db c.in_ok-contents.contents) same
    (shows begun.now.trees mid.now.trees c.in_ok-contents.contents told.holds begun.now.schema version
    is_begun.schema_is (is_begun.sound was_open) completes.others completes.none)
