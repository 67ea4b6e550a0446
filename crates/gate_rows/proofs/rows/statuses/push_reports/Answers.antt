use Rattle.std.proofs.Common.{◌≡◌, ◌++◌, List, ℕ, OnOk, map, subst}
use Rattle.std.specs.Cmp.Lexicographic.{nat_list_cmp_total}
use Rattle.std.specs.FinSet.{slice_cmp-IsAntisymmetric, nat_cmp-IsAntisymmetric}
use Rattle.gate_state.specs.declared.batch.Report.{Report}
use Rattle.gate_rows.specs.Encoding.{status_row}
use Rattle.gate_rows.proofs.Entries.{entries_are}
use Rattle.gate_rows.proofs.rows.statuses.push_reports.Goals as goal

pub returns : goal.returns
returns c =
    let listed = entries_are nat_list_cmp_total (slice_cmp-IsAntisymmetric nat_cmp-IsAntisymmetric) _ _ c.push_entries.ensures.ordered c.as_map.ensures.value in
    subst (λ (entries : List (List ℕ × Report)). OnOk c.push_entries.result (c.push_entries.new.rows.items ≡ c.args.rows.now.items ++ map (status_row c.args.number) entries)) listed c.push_entries.ensures.value
