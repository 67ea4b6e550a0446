use Rattle.std.proofs.Common.{◌≡◌, Some, None, sym, ◌∙◌, arith, rules}
use Rattle.std.specs.FinMap as finite
use Rattle.gate_queue.proofs.Collecting.{stays_approved}
use Rattle.gate_queue.proofs.touching.StaysApprovedChoice.has.Goals as goal

pub returns-then-is_some : goal.returns-then-is_some
returns-then-is_some c =
    let here : finite.get c.args.self.now.desk.now.changes c.args.change ≡ Some c.in-Some.change.now = search rules in
    record { value = sym (stays_approved c.args.self.now.desk.now c.args.self.now.settings.now c.args.change ∙ grind (arith, here, c.is_some.ensures, c.if-is_some.true, c.is_met.ensures.value)) }

pub returns-else-is_some : goal.returns-else-is_some
returns-else-is_some c =
    let here : finite.get c.args.self.now.desk.now.changes c.args.change ≡ Some c.in-Some.change.now = search rules in
    record { value = sym (stays_approved c.args.self.now.desk.now c.args.self.now.settings.now c.args.change ∙ grind (arith, here, c.is_some.ensures, c.if-is_some.false)) }

pub returns-in-None : goal.returns-in-None
returns-in-None c =
    let here : finite.get c.args.self.now.desk.now.changes c.args.change ≡ None = search rules in
    record { value = sym (stays_approved c.args.self.now.desk.now c.args.self.now.settings.now c.args.change ∙ grind (arith, here)) }
