use Rattle.std.proofs.Common.{◌≡◌, Some, find, refl, sym, subst}
use Rattle.gate_waiting.proofs.Rooms.{room_ready}
use Rattle.gate_waiting.proofs.Told.{tells_late}
use Rattle.gate_waiting.specs.Calls.{late_in, without_first}
use Rattle.gate_waiting.specs.Room.{Room, Tells, is_late, is_later}
use Rattle.gate_waiting.specs.declared.guest.Reason.TheVariants.{Late}
use Rattle.gate_waiting.specs.declared.taking.LateAt.{LateAt}
use Rattle.gate_waiting.proofs.waiting.Waiting.give_up.Goals as goal

pub invariant_of-self : goal.invariant_of-self
invariant_of-self g c =
    let was = c.self.inside in
    let room : Room g.row.W.Denot = record { whole = was.whole; patience = was.patience; next = was.next; guests = was.guests; ready = was.ready } in
    let guest = c.in-Some.guest in
    let found = subst (λ (late : LateAt). find (is_later late.patience late.in_all late.time) was.guests ≡ Some guest) c.new-late.ensures (sym c.in-Some.ensures.found) in
    let rest = subst (λ (late : LateAt). c.take_out.new.guests ≡ without_first (is_later late.patience late.in_all late.time) was.guests)
    c.new-late.ensures c.in-Some.ensures.rest in
    room_ready g.W.Whole.tells room c.self.invariant c.take_out.new.guests c.add.new.self (is_late room c.args.now) guest guest Late
    found rest c.add.ensures.value refl (λ whole. absurd cc)

pub returns-in-Some-clause-told : goal.returns-in-Some-clause-told
returns-in-Some-clause-told g c = λ events told.
    let was = c.self.inside in
    let room : Room g.row.W.Denot = record { whole = was.whole; patience = was.patience; next = was.next; guests = was.guests; ready = was.ready } in
    let left : Room g.row.W.Denot = record { whole = was.whole; patience = was.patience; next = was.next; guests = c.take_out.new.guests; ready = c.add.new.self } in
    let found = subst (λ (late : LateAt). find (is_later late.patience late.in_all late.time) was.guests ≡ Some c.in-Some.guest)
    c.new-late.ensures (sym c.in-Some.ensures.found) in
    let rest = subst (λ (late : LateAt). c.take_out.new.guests ≡ without_first (is_later late.patience late.in_all late.time) was.guests)
    c.new-late.ensures c.in-Some.ensures.rest in
    let is : late_in c.args.now (Some c.in-Some.guest) room ≡ left = rw (rest, c.add.ensures.value) refl in
    subst (λ (r : Room g.row.W.Denot). Tells events r) is
    (tells_late g.W.Whole.tells events room c.self.invariant (subst (λ (r : Room g.row.W.Denot). Tells events r) (sym c.self.view_is) told)
    c.args.now (Some c.in-Some.guest) found)
