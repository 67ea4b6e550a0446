use Rattle.std.proofs.Common.{◌≡◌, ℕ, List, Bool, true, false, cond, ◌∙◌, ap, sym, subst, rules}
use Rattle.std.specs.Cmp.Lexicographic.{nat_list_cmp_total}
use Rattle.std.specs.FinMap as map
use Rattle.std.specs.FinMap.{slice_cmp-IsAntisymmetric, nat_cmp-IsAntisymmetric}
use Rattle.gate_text.specs.Finite.{inserted, removed}
use Rattle.gate_rules.specs.Rules.{is_member}
use Rattle.gate_rules.specs.View.{DeskView, with_role, AreMembers}
use Rattle.gate_rules.specs.declared.role.Role.{Role}
use Rattle.gate_rules.proofs.Members.{members-insert, members-remove}
use Rattle.gate_rules.proofs.desk.Desk.set_role.Goals as goal

-- a desk with a role set, where it is known whether the role is one
set_to : (desk : DeskView) (person : List ℕ) (role : Role) (member : Bool) → is_member role ≡ member
    → record desk { roles = cond member (map.insert desk.roles person role) (map.remove desk.roles person) } ≡ with_role desk person role
set_to desk person role member is =
    ap (λ (b : Bool). record desk { roles = cond b (map.insert desk.roles person role) (map.remove desk.roles person) }) (sym is)

pub returns-then-not-is_member-clause-ok : goal.returns-then-not-is_member-clause-ok
returns-then-not-is_member-clause-ok c =
    let person = c.args.person.now in
    let nobody : is_member c.args.role ≡ false = search rules in
    rw (removed nat_list_cmp_total (slice_cmp-IsAntisymmetric nat_cmp-IsAntisymmetric) c.self.inside.roles c.remove.new.self person c.remove.ensures.updates)
    (ap (λ (desk : DeskView). record desk { roles = map.remove desk.roles person }) c.self.view_is ∙ set_to c.args.self.now person c.args.role false nobody)

pub returns-clause-ok : goal.returns-clause-ok
returns-clause-ok c =
    let person = c.args.person.now in
    let member : is_member c.args.role ≡ true = search rules in
    rw (inserted nat_list_cmp_total (slice_cmp-IsAntisymmetric nat_cmp-IsAntisymmetric) c.self.inside.roles c.insert.new.self _ c.args.role c.in_ok-insert.ensures.updates, c.in_ok-copy.ensures.value)
    (ap (λ (desk : DeskView). record desk { roles = map.insert desk.roles person c.args.role }) c.self.view_is ∙ set_to c.args.self.now person c.args.role true member)

pub invariant_of-self : goal.invariant_of-self
invariant_of-self c =
    let roles = c.self.inside.roles in
    let person = c.args.person.now in (
      subst AreMembers (sym (removed nat_list_cmp_total (slice_cmp-IsAntisymmetric nat_cmp-IsAntisymmetric) roles c.remove.new.self person c.remove.ensures.updates))
          (members-remove (map.from_entries roles.entries) person c.self.invariant.0),
      c.self.invariant.1,
    )

pub invariant_of-self-2 : goal.invariant_of-self-2
invariant_of-self-2 c =
    let roles = c.self.inside.roles in
    let member : is_member c.args.role ≡ true = search rules in (
      subst AreMembers (sym (inserted nat_list_cmp_total (slice_cmp-IsAntisymmetric nat_cmp-IsAntisymmetric) roles c.insert.new.self _ c.args.role c.in_ok-insert.ensures.updates))
          (members-insert (map.from_entries roles.entries) _ c.self.invariant.0 c.args.role member),
      c.self.invariant.1,
    )
