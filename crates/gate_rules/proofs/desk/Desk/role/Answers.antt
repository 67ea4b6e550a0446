use Rattle.std.proofs.Common.{◌∙◌, sym, ap}
use Rattle.std.specs.Cmp.Lexicographic.{nat_list_cmp_total}
use Rattle.gate_text.specs.Finite.{get-entries}
use Rattle.gate_rules.specs.View.{DeskView, role_on}
use Rattle.gate_rules.proofs.desk.Desk.role.Goals as goal

pub returns : goal.returns
returns c =
    let found = c.copied.ensures ∙ c.get.ensures.value ∙ sym (get-entries nat_list_cmp_total c.self.inside.roles c.args.person.now) in
    record { value = rw (c.unwrap_or.ensures, found) (ap (λ (desk : DeskView). role_on desk c.args.person.now) c.self.view_is) }
