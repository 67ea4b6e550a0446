use Rattle.std.proofs.Common.{List, sym, subst}
use Rattle.gate_waiting.specs.Room.{Room, Tells}
use Rattle.gate_waiting.specs.declared.guest.Guest.{Guest}
use Rattle.gate_waiting.proofs.waiting.Waiting.make_room.Goals as goal

pub returns-then-not-has_room-clause-told : goal.returns-then-not-has_room-clause-told
returns-then-not-has_room-clause-told g c = λ events told.
    let was = c.self.inside in
    c.stop.ensures.told events
    (subst (λ (guests : List Guest). Tells {W = g.row.W.Denot} events (record { whole = was.whole; patience = was.patience; next = was.next; guests = guests; ready = was.ready })) (sym c.has_room.ensures.same)
    (subst (λ (r : Room g.row.W.Denot). Tells events r) (sym c.self.view_is) told))
