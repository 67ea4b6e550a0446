use Rattle.std.proofs.Common.{arith, ◌≡◌, min, ◌∙◌, sym, ap}
use Rattle.std.proofs.lemmas.List.{drop_all}
use Rattle.gate_waiting.proofs.Pauses.{first_least}
use Rattle.gate_waiting.specs.Pauses.{first_due_of, last_time}
use Rattle.gate_waiting.proofs.taking.LateAt.first_due.Goals as goal

pub loop-guest-init : goal.loop-guest-init
loop-guest-init c =
    let late = c.args.self.now in
    let within = first_least late.patience late.in_all c.args.guests.now in
    record { least = omega arith; told = omega arith }

pub returns : goal.returns
returns c =
    let late = c.args.self.now in
    let due = c.loop-guest.due in
    let told = c.loop-guest.invariant.told in
    let rest = ap (first_due_of late.patience late.in_all) (drop_all c.loop-guest.guest-index c.args.guests.now c.loop-guest-test.false) in
    let least : min due last_time ≡ due = omega arith in
    sym least ∙ ap (min due) (sym rest) ∙ c.loop-guest.invariant.least
