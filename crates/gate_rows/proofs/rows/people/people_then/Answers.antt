use Rattle.std.proofs.Common.{◌≡◌, List, ℕ, Option, IfOk, map, subst}
use Rattle.std.specs.Cmp.Lexicographic.{nat_list_cmp_total}
use Rattle.std.specs.FinSet.{slice_cmp-IsAntisymmetric, nat_cmp-IsAntisymmetric}
use Rattle.gate_rules.specs.declared.role.Role.{Role}
use Rattle.gate_rows.specs.Encoding.{person_row}
use Rattle.gate_rows.specs.Parts.{were_there}
use Rattle.gate_rows.proofs.Entries.{entries_are}
use Rattle.gate_rows.proofs.rows.people.people_then.Goals as goal

pub returns : goal.returns
returns c =
    let listed = entries_are nat_list_cmp_total (slice_cmp-IsAntisymmetric nat_cmp-IsAntisymmetric) _ _ c.noted_people.ensures.ordered c.people.ensures.value in
    subst (λ (entries : List (List ℕ × Option Role)). IfOk c.noted_people.result (λ rows. rows ≡ map person_row (were_there entries))) listed c.noted_people.ensures.value
