use Rattle.std.proofs.Common.{◌∙◌, ap}
use Rattle.std.specs.Cmp.Lexicographic.{nat_list_cmp_total}
use Rattle.std.specs.FinSet as set
use Rattle.std.specs.FinSet.{slice_cmp-IsAntisymmetric, nat_cmp-IsAntisymmetric}
use Rattle.gate_text.specs.Finite.{added}
use Rattle.gate_text.proofs.set.Set.insert_text.Goals as goal

pub returns-clause-ok : goal.returns-clause-ok
returns-clause-ok g c =
    added nat_list_cmp_total (slice_cmp-IsAntisymmetric nat_cmp-IsAntisymmetric) c.self.inside.texts c.insert.new.self c.args.text c.in_ok-insert.ensures.updates
    ∙ ap (λ texts. set.insert texts c.args.text) c.self.view_is
