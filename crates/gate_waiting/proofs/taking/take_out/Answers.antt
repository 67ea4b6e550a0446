use Rattle.std.proofs.Common.{◌<◌, ◌∙◌, List, Some, length, sym, ap, subst}
use Rattle.std.specs.List.{position}
use Rattle.gate_waiting.proofs.First.{first_at, none_at}
use Rattle.gate_waiting.specs.declared.guest.Guest.{Guest}
use Rattle.gate_waiting.proofs.taking.take_out.Goals as goal

pub returns-in-Some-clause-found : goal.returns-in-Some-clause-found
returns-in-Some-clause-found g c =
    let of = g.C.Choice.chooses c.args.choice.now in
    let at = c.in-Some.ensures.value ∙ ap (position of) c.as_slice.ensures.value in
    let within = subst (λ (guests : List Guest). c.in-Some.place < length guests) c.as_slice.ensures.value c.in-Some.ensures.within in
    ap Some c.remove.ensures.value ∙ sym (first_at of c.args.guests.now c.in-Some.place c.remove.result at within).0

pub returns-in-Some-clause-rest : goal.returns-in-Some-clause-rest
returns-in-Some-clause-rest g c =
    let of = g.C.Choice.chooses c.args.choice.now in
    let at = c.in-Some.ensures.value ∙ ap (position of) c.as_slice.ensures.value in
    let within = subst (λ (guests : List Guest). c.in-Some.place < length guests) c.as_slice.ensures.value c.in-Some.ensures.within in
    c.remove.ensures.rest ∙ sym (first_at of c.args.guests.now c.in-Some.place c.remove.result at within).1

pub returns-in-None-clause-found : goal.returns-in-None-clause-found
returns-in-None-clause-found g c =
    let of = g.C.Choice.chooses c.args.choice.now in
    (none_at of c.args.guests.now (c.in-None.ensures.value ∙ ap (position of) c.as_slice.ensures.value)).0

pub returns-in-None-clause-rest : goal.returns-in-None-clause-rest
returns-in-None-clause-rest g c =
    let of = g.C.Choice.chooses c.args.choice.now in
    (none_at of c.args.guests.now (c.in-None.ensures.value ∙ ap (position of) c.as_slice.ensures.value)).1
