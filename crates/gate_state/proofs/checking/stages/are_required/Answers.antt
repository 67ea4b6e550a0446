use Rattle.std.proofs.Common.{ℕ, List, ◌∙◌, ap}
use Rattle.std.specs.Cmp.Lexicographic.{nat_list_cmp_total}
use Rattle.std.specs.FinMap.{slice_cmp-IsAntisymmetric, nat_cmp-IsAntisymmetric}
use Rattle.gate_state.specs.Checks.{fit_reports}
use Rattle.gate_state.specs.declared.batch.Report.{Report}
use Rattle.gate_state.proofs.Deciding.{entries_are}
use Rattle.gate_state.proofs.checking.stages.are_required.Goals as goal

pub returns : goal.returns
returns c =
    let listed = entries_are nat_list_cmp_total (slice_cmp-IsAntisymmetric nat_cmp-IsAntisymmetric) _ _ c.fit_reports.ensures.ordered c.as_map.ensures.value in
    c.fit_reports.ensures.value ∙ ap (λ (entries : List (List ℕ × Report)). fit_reports c.args.desk.now.settings entries) listed
