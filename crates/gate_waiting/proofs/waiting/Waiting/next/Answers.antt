use Rattle.std.proofs.Common.{◌<◌, List, sym, subst}
use Rattle.std.specs.List.{AllByRecursion}
use Rattle.gate_waiting.proofs.Told.{first_told}
use Rattle.gate_waiting.specs.Room.{IsReadyAsTold, Room, Tells}
use Rattle.gate_waiting.specs.declared.guest.Ready.{Ready}
use Rattle.gate_waiting.proofs.waiting.Waiting.next.Goals as goal

pub returns-then-len-gt0-clause-told : goal.returns-then-len-gt0-clause-told
returns-then-len-gt0-clause-told g c = λ events told.
    let was = subst (λ (r : Room g.row.W.Denot). Tells events r) (sym c.self.view_is) (c.give_up.ensures.told events told) in
    let some = subst (λ n. 0 < n) c.len.ensures.value c.if-len-gt0.true in
    let first = first_told events c.self.inside.ready c.remove.result some c.remove.ensures.value was.ready in (
      record {
        guests = was.guests;
        ready = subst (λ (rs : List Ready). AllByRecursion (IsReadyAsTold events) rs) (sym c.remove.ensures.rest) first.0;
      },
      first.1,
    )
