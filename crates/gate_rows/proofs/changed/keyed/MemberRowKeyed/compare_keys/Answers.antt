use Rattle.std.proofs.Common.{sym, ◌∙◌}
use Rattle.std.specs.Ordering.{ordering_then}
use Rattle.gate_rows.proofs.KeyOrders.{numbers}
use Rattle.gate_rows.proofs.changed.keyed.MemberRowKeyed.compare_keys.Goals as goal

pub returns : goal.returns
returns c =
    let one = c.args.self.now in
    let other = c.args.other.now in
    c.then.ensures ∙ (λ i. ordering_then (c.cmp-batches.ensures i) (c.cmp.ensures i)) ∙ sym (numbers one.batch other.batch one.place other.place)
