use Rattle.std.proofs.Common.{◌∙◌}
use Rattle.std.specs.Cmp.Lexicographic.{nat_list_cmp_total}
use Rattle.std.specs.FinSet.{slice_cmp-IsAntisymmetric, nat_cmp-IsAntisymmetric}
use Rattle.gate_text.specs.Finite.{added-each}
use Rattle.gate_text.proofs.set.Set.copy.Goals as goal

pub loop-text-init : goal.loop-text-init
loop-text-init g c =
    rw (c.new-copy.ensures.value, c.into_iter-text-iterator.ensures.into_iter_gives.0)
    (added-each nat_list_cmp_total (slice_cmp-IsAntisymmetric nat_cmp-IsAntisymmetric) c.self.inside.texts.keys ∙ c.self.view_is)
