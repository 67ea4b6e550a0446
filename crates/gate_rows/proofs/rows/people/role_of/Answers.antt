use Rattle.std.proofs.Common.{sym, ◌∙◌, ap}
use Rattle.std.specs.Cmp.Lexicographic.{nat_list_cmp_total, slice_cmp}
use Rattle.std.specs.FinMap.{FinMap, get}
use Rattle.std.specs.Ordering.{nat_cmp}
use Rattle.gate_rules.specs.declared.role.Role.{Role}
use Rattle.gate_text.specs.Finite.{get-entries}
use Rattle.gate_rows.proofs.rows.people.role_of.Goals as goal

pub returns : goal.returns
returns c =
    c.copied.ensures ∙ c.get.ensures.value ∙ sym (get-entries nat_list_cmp_total c.roles.result.now c.args.name.now)
    ∙ ap (λ (roles : FinMap (slice_cmp nat_cmp) Role). get roles c.args.name.now) c.roles.ensures.value
