use Rattle.std.proofs.Common.{sym, ◌∙◌}
use Rattle.gate_rows.proofs.KeyOrders.{number_alone}
use Rattle.gate_rows.proofs.changed.keyed.BatchRowKeyed.compare_keys.Goals as goal

pub returns : goal.returns
returns c = c.cmp.ensures ∙ sym (number_alone c.args.self.now.number c.args.other.now.number)
