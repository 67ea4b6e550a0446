use Rattle.std.proofs.Common.{◌≡◌, List, ℕ, IfOk, map, subst}
use Rattle.std.specs.Cmp.Lexicographic.{nat_list_cmp_total}
use Rattle.std.specs.FinSet.{slice_cmp-IsAntisymmetric, nat_cmp-IsAntisymmetric}
use Rattle.gate_rules.specs.declared.role.Role.{Role}
use Rattle.gate_rows.specs.Encoding.{person_row}
use Rattle.gate_rows.proofs.Entries.{entries_are}
use Rattle.gate_rows.proofs.rows.people.person_rows.Goals as goal

pub returns : goal.returns
returns c =
    let listed = entries_are nat_list_cmp_total (slice_cmp-IsAntisymmetric nat_cmp-IsAntisymmetric) _ _ c.people_in.ensures.ordered c.roles.ensures.value in
    subst (λ (entries : List (List ℕ × Role)). IfOk c.people_in.result (λ rows. rows ≡ map person_row entries)) listed c.people_in.ensures.value
