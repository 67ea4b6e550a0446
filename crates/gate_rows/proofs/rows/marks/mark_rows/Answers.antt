use Rattle.std.proofs.Common.{◌++◌, ◌∙◌}
use Rattle.std.specs.Cmp.{nat_cmp_total}
use Rattle.std.specs.FinSet.{nat_cmp-IsAntisymmetric}
use Rattle.std.specs.List.{flat_map}
use Rattle.gate_rows.specs.Encoding.{marks_of}
use Rattle.gate_rows.proofs.Entries.{entries_are}
use Rattle.gate_rows.proofs.rows.marks.mark_rows.Goals as goal

pub returns : goal.returns
returns c =
    let listed = entries_are nat_cmp_total nat_cmp-IsAntisymmetric _ _ c.push_changes.ensures.ordered c.changes.ensures.value in
    c.from.ensures ∙ c.in_ok-push_changes.ensures.value ∙ (λ i. c.new-rows.ensures.items i ++ flat_map marks_of (listed i))
