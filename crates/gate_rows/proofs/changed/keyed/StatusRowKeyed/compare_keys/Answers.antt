use Rattle.std.proofs.Common.{sym, ◌∙◌}
use Rattle.std.specs.Ordering.{ordering_then}
use Rattle.gate_rows.proofs.KeyOrders.{number_and_text}
use Rattle.gate_rows.proofs.changed.keyed.StatusRowKeyed.compare_keys.Goals as goal

pub returns : goal.returns
returns c =
    let one = c.args.self.now in
    let other = c.args.other.now in
    c.then.ensures ∙ (λ i. ordering_then (c.cmp-batches.ensures i) (c.cmp.ensures i)) ∙ sym (number_and_text one.batch other.batch one.name other.name)
