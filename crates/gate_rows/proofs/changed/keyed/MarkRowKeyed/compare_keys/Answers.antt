use Rattle.std.proofs.Common.{sym, ◌∙◌}
use Rattle.std.specs.Ordering.{ordering_then}
use Rattle.gate_rows.proofs.KeyOrders.{numbers_and_text}
use Rattle.gate_rows.proofs.changed.keyed.MarkRowKeyed.compare_keys.Goals as goal

pub returns : goal.returns
returns c =
    let one = c.args.self.now in
    let other = c.args.other.now in
    let numbers = c.then.ensures ∙ (λ i. ordering_then (c.cmp-changes.ensures i) (c.cmp-kinds.ensures i)) in
    c.then-2.ensures ∙ (λ i. ordering_then (numbers i) (c.cmp.ensures i)) ∙ sym (numbers_and_text one.change_no other.change_no one.kind other.kind one.word other.word)
