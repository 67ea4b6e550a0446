use Rattle.std.proofs.Common.{sym, subst}
use Rattle.gate_tables.proofs.Finding.{find_text, find_plain, finds}
use Rattle.std.proofs.lemmas.Result.{IfOk-weaker}
use Rattle.sqlite.proofs.Callers.{IsPlain}
use Rattle.sqlite.specs.Held.{state}
use Rattle.sqlite.specs.Listing.{understood}
use Rattle.gate_tables.proofs.answers.ask.Goals as goal

pub returns-clause-found : goal.returns-clause-found
returns-clause-found g c clean book =
    let old = state g.S.Store c.args.conn.now in
    let new = state g.S.Store c.select.new.conn in
    IfOk-weaker c.select.result _ _ (λ rows shown. finds old new c.args.id.now rows.items book.ready book.answered (rw (c.params-to_sql.ensures) at shown)) (c.select.ensures.shown clean)

pub returns-clause-asked : goal.returns-clause-asked
returns-clause-asked g c =
    let asked = c.select.ensures.asked in
    record { mode = asked.mode; left = λ clean ready. asked.left clean (subst (λ s. IsPlain (understood s find_text)) (sym ready.schema_is) find_plain); lasts = asked.lasts; stays = asked.stays }
