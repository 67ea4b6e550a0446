use Rattle.std.proofs.Common.{arith, ◌≡◌, true, ◌∷◌, Option, Some, None, inl, inr, refl, sym, ap, ◌∙◌, subst}
use Rattle.std.specs.List.{find}
use Rattle.gate_waiting.proofs.Rooms.{is_out, room_ready, room_waits}
use Rattle.gate_waiting.proofs.Told.{tells_moved}
use Rattle.gate_waiting.specs.Calls.{Hears, HearsOn, is_of, moves_on}
use Rattle.gate_waiting.specs.Events.{heard}
use Rattle.gate_waiting.specs.Room.{Room, Tells}
use Rattle.gate_waiting.specs.declared.guest.Guest.{Guest}
use Rattle.gate_waiting.proofs.waiting.Waiting.hear.Goals as goal

pub invariant_of-self : goal.invariant_of-self
invariant_of-self g c =
    let kept = c.judge.new.guest in
    room_ready g.W.Whole.tells _ c.self.invariant c.take_out.new.guests c.add.new.self (is_of c.args.connection) c.in-Some.guest kept c.in-Some-judge.reason
    (sym c.in-Some.ensures.found) c.in-Some.ensures.rest c.add.ensures.value
    (elim c.in-Some-judge.ensures [ inl h ↦ ap (λ (guest : Guest). guest.connection) h.2 | inr h ↦ ap (λ (guest : Guest). guest.connection) h.1 ])
    (λ is. elim c.in-Some-judge.ensures [
      | inl h ↦ subst (λ (guest : Guest). g.W.Whole.tells c.self.inside.whole true guest.bytes) (sym h.2) h.1
      | inr h ↦ absurd (cc)
    ])

pub add-requires-in-None-judge : goal.add-requires-in-None-judge
add-requires-in-None-judge g c =
    let out = is_out (is_of c.args.connection) c.self.inside.guests c.in-Some.guest (sym c.in-Some.ensures.found) in
    let shorter = out.shorter in
    let few = c.self.invariant.few in
    let left = c.in-Some.ensures.rest in
    rw left (omega arith)

pub invariant_of-self-in-None-judge : goal.invariant_of-self-in-None-judge
invariant_of-self-in-None-judge g c =
    let kept = c.judge.new.guest in
    room_waits g.W.Whole.tells _ c.self.invariant c.add-in-None-judge.new.self (is_of c.args.connection) c.in-Some.guest kept
    (sym c.in-Some.ensures.found) (rw (← c.in-Some.ensures.rest) c.add-in-None-judge.ensures.value)
    (ap (λ (guest : Guest). guest.connection) c.in-None-judge.ensures.1)
    (subst (λ (guest : Guest). g.W.Whole.tells c.self.inside.whole _ guest.bytes) (sym c.in-None-judge.ensures.1) c.in-None-judge.ensures.0)

pub returns-in-Some-judge-clause-heard : goal.returns-in-Some-judge-clause-heard
returns-in-Some-judge-clause-heard g c =
    let was = c.self.inside in
    let room : Room g.row.W.Denot = record { whole = was.whole; patience = was.patience; next = was.next; guests = was.guests; ready = was.ready } in
    let left : Room g.row.W.Denot = record { whole = was.whole; patience = was.patience; next = was.next; guests = c.take_out.new.guests; ready = c.add.new.self } in
    subst (λ (old : Room g.row.W.Denot). Hears g.W.Whole.tells c.args.now c.args.connection c.args.bytes.now old left) c.self.view_is
    (subst (λ (found : Option Guest). HearsOn g.W.Whole.tells c.args.now c.args.connection c.args.bytes.now room left found) c.in-Some.ensures.found
    (Some c.in-Some-judge.reason, c.judge.new.guest, c.in-Some-judge.ensures, rw (c.in-Some.ensures.rest, c.add.ensures.value) refl))

pub returns-in-Some-judge-clause-told : goal.returns-in-Some-judge-clause-told
returns-in-Some-judge-clause-told g c = λ guest at events told.
    let was = c.self.inside in
    let room : Room g.row.W.Denot = record { whole = was.whole; patience = was.patience; next = was.next; guests = was.guests; ready = was.ready } in
    let left : Room g.row.W.Denot = record { whole = was.whole; patience = was.patience; next = was.next; guests = c.take_out.new.guests; ready = c.add.new.self } in
    let is : moves_on c.args.connection c.judge.new.guest (Some c.in-Some-judge.reason) room ≡ left = rw (c.in-Some.ensures.rest, c.add.ensures.value) refl in
    subst (λ (r : Room g.row.W.Denot). Tells (heard c.args.now c.args.connection c.args.bytes.now ∷ events) r) is
    (tells_moved g.W.Whole.tells events room c.self.invariant (subst (λ (r : Room g.row.W.Denot). Tells events r) (sym c.self.view_is) told)
    c.args.now c.args.connection c.args.bytes.now c.in-Some.guest c.judge.new.guest (Some c.in-Some-judge.reason) (sym c.in-Some.ensures.found) c.in-Some-judge.ensures)

pub returns-in-None-judge-clause-told : goal.returns-in-None-judge-clause-told
returns-in-None-judge-clause-told g c = λ guest at events told.
    let was = c.self.inside in
    let room : Room g.row.W.Denot = record { whole = was.whole; patience = was.patience; next = was.next; guests = was.guests; ready = was.ready } in
    let left : Room g.row.W.Denot = record { whole = was.whole; patience = was.patience; next = was.next; guests = c.add-in-None-judge.new.self; ready = was.ready } in
    let is : moves_on c.args.connection c.judge.new.guest None room ≡ left = rw (c.add-in-None-judge.ensures.value, c.in-Some.ensures.rest) refl in
    subst (λ (r : Room g.row.W.Denot). Tells (heard c.args.now c.args.connection c.args.bytes.now ∷ events) r) is
    (tells_moved g.W.Whole.tells events room c.self.invariant (subst (λ (r : Room g.row.W.Denot). Tells events r) (sym c.self.view_is) told)
    c.args.now c.args.connection c.args.bytes.now c.in-Some.guest c.judge.new.guest None (sym c.in-Some.ensures.found) c.in-None-judge.ensures)

pub returns-in-None-clause-told : goal.returns-in-None-clause-told
returns-in-None-clause-told g c = λ guest at events told.
    let nobody = c.in-None.ensures.found ∙ ap (λ (r : Room g.row.W.Denot). find (is_of c.args.connection) r.guests) c.self.view_is ∙ at in
    absurd (cc)
