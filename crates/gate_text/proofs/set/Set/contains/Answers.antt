use Rattle.std.proofs.Common.{◌∙◌, ap, sym}
use Rattle.std.specs.Cmp.Lexicographic.{nat_list_cmp_total}
use Rattle.std.specs.FinSet as set
use Rattle.gate_text.specs.Finite.{contains-keys}
use Rattle.gate_text.proofs.set.Set.contains.Goals as goal

pub returns : goal.returns
returns g c = record {
  value = rw (← c.as_text.ensures.value)
      (c.contains.ensures ∙ sym (contains-keys nat_list_cmp_total c.self.inside.texts c.as_text.result.now) ∙ ap (λ texts. set.contains texts c.as_text.result.now) c.self.view_is);
}
