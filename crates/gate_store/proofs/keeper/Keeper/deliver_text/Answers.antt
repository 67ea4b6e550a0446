use Rattle.gate_store.proofs.Runs.{headline_due, tells_one}
use Rattle.gate_store.proofs.keeper.Keeper.deliver_text.Goals as goal

pub returns-clause-headline : goal.returns-clause-headline
returns-clause-headline g c sound =
    let did = c.text.ensures in
    headline_due (g.B.Book.shows c.args.self.now) (g.B.Book.shows c.text.new.self) c.args.delivery.now c.text.result (did.delivers.book sound) (did.delivers.tells sound)

pub returns-clause-history : goal.returns-clause-history
returns-clause-history g c sound =
    let did = c.text.ensures in
    tells_one (g.B.Book.shows c.args.self.now) (g.B.Book.shows c.text.new.self) c.args.delivery.now c.text.result (did.delivers.book sound) (did.delivers.tells sound)
