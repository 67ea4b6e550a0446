use Rattle.std.proofs.Common.{◌≡◌, ◌++◌, List, ℕ, Option, OnOk, map, subst}
use Rattle.std.specs.Cmp.{nat_cmp_total}
use Rattle.std.specs.FinSet.{nat_cmp-IsAntisymmetric}
use Rattle.std.specs.List.{flat_map}
use Rattle.gate_rules.specs.declared.change.Change.{Change}
use Rattle.gate_rows.specs.Encoding.{change_row, marks_of}
use Rattle.gate_rows.specs.Parts.{are_there}
use Rattle.gate_rows.proofs.Entries.{entries_are}
use Rattle.gate_rows.proofs.rows.changes.push_now.Goals as goal

pub returns-clause-rows : goal.returns-clause-rows
returns-clause-rows c =
    let listed = entries_are nat_cmp_total nat_cmp-IsAntisymmetric _ _ c.push_present.ensures.ordered c.changes.ensures.value in
    subst (λ (entries : List (ℕ × Option Change)). OnOk c.push_present.result (c.push_present.new.rows.items ≡ c.args.rows.now.items ++ map change_row (are_there c.args.desk.now.changes entries))) listed c.push_present.ensures.rows

pub returns-clause-marks : goal.returns-clause-marks
returns-clause-marks c =
    let listed = entries_are nat_cmp_total nat_cmp-IsAntisymmetric _ _ c.push_present.ensures.ordered c.changes.ensures.value in
    subst (λ (entries : List (ℕ × Option Change)). OnOk c.push_present.result (c.push_present.new.marks.items ≡ c.args.marks.now.items ++ flat_map marks_of (are_there c.args.desk.now.changes entries))) listed c.push_present.ensures.marks
