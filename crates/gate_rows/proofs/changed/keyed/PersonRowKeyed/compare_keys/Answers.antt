use Rattle.std.proofs.Common.{sym, ◌∙◌}
use Rattle.gate_rows.proofs.KeyOrders.{text_alone}
use Rattle.gate_rows.proofs.changed.keyed.PersonRowKeyed.compare_keys.Goals as goal

pub returns : goal.returns
returns c = c.cmp.ensures ∙ sym (text_alone c.args.self.now.name c.args.other.now.name)
