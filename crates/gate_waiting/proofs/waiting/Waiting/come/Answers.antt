use Rattle.std.proofs.Common.{arith, ◌≡◌, ℕ, ◌+◌, List, [], ◌∷◌, ◌++◌, ◌∙◌, sym, ap, subst}
use Rattle.gate_waiting.proofs.Rooms.{room_with_guest}
use Rattle.gate_waiting.proofs.Told.{tells_with_guest}
use Rattle.gate_waiting.specs.Calls.{new_guest}
use Rattle.gate_waiting.specs.Events.{came}
use Rattle.gate_waiting.specs.Room.{IsRoom, Room, Tells}
use Rattle.gate_waiting.specs.declared.guest.Guest.{Guest}
use Rattle.gate_waiting.proofs.waiting.Waiting.come.Goals as goal

pub invariant_of-self : goal.invariant_of-self
invariant_of-self g c =
    let was = c.self.inside in
    let added : was.guests ++ new_guest was.next c.args.now ∷ [] ≡ c.add.new.self =
    sym (c.add.ensures.value ∙ ap (λ (bytes : List ℕ). was.guests ++ record (new_guest was.next c.args.now) { bytes = bytes } ∷ []) c.new.ensures.value) in
    let at_first = c.len.ensures.value in
    let at_last = c.len-2.ensures.value in
    let few = c.if-len-ge-MOST.false in
    subst (λ (guests : List Guest). IsRoom g.W.Whole.tells (record { whole = was.whole; patience = was.patience; next = was.next + 1; guests = guests; ready = was.ready }))
    added (room_with_guest g.W.Whole.tells _ c.self.invariant c.args.now (omega arith))

pub returns-clause-told : goal.returns-clause-told
returns-clause-told g c = λ events told.
    let was = c.self.inside in
    let room : Room g.row.W.Denot = record { whole = was.whole; patience = was.patience; next = was.next; guests = was.guests; ready = was.ready } in
    let added : was.guests ++ new_guest was.next c.args.now ∷ [] ≡ c.add.new.self =
    sym (c.add.ensures.value ∙ ap (λ (bytes : List ℕ). was.guests ++ record (new_guest was.next c.args.now) { bytes = bytes } ∷ []) c.new.ensures.value) in
    subst (λ (guests : List Guest). Tells (came c.args.now was.next ∷ events) (record { whole = was.whole; patience = was.patience; next = was.next + 1; guests = guests; ready = was.ready }))
    added (tells_with_guest g.W.Whole.tells events room c.self.invariant (subst (λ (r : Room g.row.W.Denot). Tells events r) (sym c.self.view_is) told) c.args.now)
