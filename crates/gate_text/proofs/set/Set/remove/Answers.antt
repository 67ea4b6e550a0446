use Rattle.std.proofs.Common.{◌∙◌, ap}
use Rattle.std.specs.Cmp.Lexicographic.{nat_list_cmp_total}
use Rattle.std.specs.FinSet as set
use Rattle.std.specs.FinSet.{slice_cmp-IsAntisymmetric, nat_cmp-IsAntisymmetric}
use Rattle.gate_text.specs.Finite.{taken}
use Rattle.gate_text.proofs.set.Set.remove.Goals as goal

pub returns : goal.returns
returns g c = record {
  value = rw (← c.as_text.ensures.value)
      (taken nat_list_cmp_total (slice_cmp-IsAntisymmetric nat_cmp-IsAntisymmetric) c.self.inside.texts c.remove.new.self c.as_text.result.now c.remove.ensures.updates
      ∙ ap (λ texts. set.remove texts c.as_text.result.now) c.self.view_is);
}
