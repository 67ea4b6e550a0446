use Rattle.std.proofs.Common.{ap}
use Rattle.std.specs.Cmp.Lexicographic.{nat_list_cmp_total}
use Rattle.std.specs.FinMap.{insert, slice_cmp-IsAntisymmetric, nat_cmp-IsAntisymmetric}
use Rattle.gate_text.specs.Finite.{inserted}
use Rattle.gate_state.proofs.batch.Reports.keep.Goals as goal

pub returns-clause-ok : goal.returns-clause-ok
returns-clause-ok c =
    rw (inserted nat_list_cmp_total (slice_cmp-IsAntisymmetric nat_cmp-IsAntisymmetric) c.self.inside.reports c.insert.new.self c.args.name c.args.report c.in_ok-insert.ensures.updates)
    (ap (λ reports. insert reports c.args.name c.args.report) c.self.view_is)
