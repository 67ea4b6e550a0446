use Rattle.std.proofs.Common.{◌≡◌, Some, refl, sym, subst}
use Rattle.gate_waiting.proofs.Rooms.{room_ready}
use Rattle.gate_waiting.proofs.Told.{tells_stopped}
use Rattle.gate_waiting.specs.Calls.{is_of, is_ready}
use Rattle.gate_waiting.specs.Room.{Room, Tells}
use Rattle.gate_waiting.proofs.waiting.Waiting.stop.Goals as goal

pub invariant_of-self : goal.invariant_of-self
invariant_of-self g c =
    let guest = c.in-Some.guest in
    room_ready g.W.Whole.tells _ c.self.invariant c.take_out.new.guests c.add.new.self (is_of c.args.connection) guest guest c.args.reason
    (sym c.in-Some.ensures.found) c.in-Some.ensures.rest c.add.ensures.value refl (λ is. absurd (c.requires.some is))

pub returns-in-Some-clause-told : goal.returns-in-Some-clause-told
returns-in-Some-clause-told g c = λ events told.
    let was = c.self.inside in
    let room : Room g.row.W.Denot = record { whole = was.whole; patience = was.patience; next = was.next; guests = was.guests; ready = was.ready } in
    let left : Room g.row.W.Denot = record { whole = was.whole; patience = was.patience; next = was.next; guests = c.take_out.new.guests; ready = c.add.new.self } in
    let is : is_ready c.args.connection c.in-Some.guest c.args.reason room ≡ left = rw (c.in-Some.ensures.rest, c.add.ensures.value) refl in
    subst (λ (r : Room g.row.W.Denot). Tells events r) is
    (tells_stopped g.W.Whole.tells events room c.self.invariant (subst (λ (r : Room g.row.W.Denot). Tells events r) (sym c.self.view_is) told)
    c.args.connection c.args.reason (Some c.in-Some.guest) (sym c.in-Some.ensures.found))
