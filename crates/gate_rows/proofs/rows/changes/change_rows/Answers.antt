use Rattle.std.proofs.Common.{◌≡◌, List, ℕ, IfOk, map, subst}
use Rattle.std.specs.Cmp.{nat_cmp_total}
use Rattle.std.specs.FinSet.{nat_cmp-IsAntisymmetric}
use Rattle.gate_rules.specs.declared.change.Change.{Change}
use Rattle.gate_rows.specs.Encoding.{change_row}
use Rattle.gate_rows.proofs.Entries.{entries_are}
use Rattle.gate_rows.proofs.rows.changes.change_rows.Goals as goal

pub returns : goal.returns
returns c =
    let listed = entries_are nat_cmp_total nat_cmp-IsAntisymmetric _ _ c.changes_in.ensures.ordered c.changes.ensures.value in
    subst (λ (entries : List (ℕ × Change)). IfOk c.changes_in.result (λ rows. rows ≡ map change_row entries)) listed c.changes_in.ensures.value
