use Rattle.std.proofs.Common.{length, refl, take}
use Rattle.gate_store.proofs.Runs.{headline_is, tells_is}
use Rattle.gate_store.specs.Run.{after_deliveries}
use Rattle.gate_store.proofs.keeper.Keeper.run.Goals as goal

pub returns-clause-headline : goal.returns-clause-headline
returns-clause-headline g c honest =
    let answers = c.answer_all.result.0.items in
    let old = g.B.Book.shows c.args.self.now in
    let answered = take (length answers) c.args.deliveries.now in
    let did = c.answer_all.ensures.runs in
    headline_is old (after_deliveries old answered) answered refl (did.tells honest) answers (did.answers honest)

pub returns-clause-history : goal.returns-clause-history
returns-clause-history g c honest =
    let old = g.B.Book.shows c.args.self.now in
    let answered = take (length c.answer_all.result.0.items) c.args.deliveries.now in
    tells_is old (after_deliveries old answered) answered refl (c.answer_all.ensures.runs.tells honest)
