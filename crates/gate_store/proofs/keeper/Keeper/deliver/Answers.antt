use Rattle.gate_store.proofs.Runs.{headline_one, tells_one}
use Rattle.gate_store.proofs.keeper.Keeper.deliver.Goals as goal

pub returns-clause-headline : goal.returns-clause-headline
returns-clause-headline g c sound =
    let did = c.answer.ensures in
    headline_one (g.B.Book.shows c.args.self.now) (g.B.Book.shows c.answer.new.self) c.args.delivery.now c.answer.result (did.answer sound) (did.delivers.book sound) (did.delivers.tells sound)

pub returns-clause-history : goal.returns-clause-history
returns-clause-history g c sound =
    let did = c.answer.ensures in
    tells_one (g.B.Book.shows c.args.self.now) (g.B.Book.shows c.answer.new.self) c.args.delivery.now c.answer.result (did.delivers.book sound) (did.delivers.tells sound)
