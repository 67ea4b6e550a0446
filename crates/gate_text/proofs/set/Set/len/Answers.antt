use Rattle.std.proofs.Common.{◌∙◌, sym, ap}
use Rattle.std.specs.Cmp.Lexicographic.{nat_list_cmp_total}
use Rattle.std.specs.FinSet as set
use Rattle.gate_text.specs.Finite.{len-keys}
use Rattle.gate_text.proofs.set.Set.len.Goals as goal

pub returns : goal.returns
returns g c = record { value = c.len.ensures.len ∙ sym (len-keys nat_list_cmp_total c.self.inside.texts c.len.ensures.ordered) ∙ ap set.len c.self.view_is }
