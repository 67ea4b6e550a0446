use Rattle.std.proofs.Common.{◌==◌, ◌&&◌, ◌∙◌, not, sym, ap, subst, rules}
use Rattle.std.specs.Option.{option_and_then}
use Rattle.std.specs.Cmp.{nat_cmp_total}
use Rattle.std.specs.FinMap as map
use Rattle.std.specs.FinMap.{nat_cmp-IsAntisymmetric}
use Rattle.std.specs.Option.{option_copied_mut}
use Rattle.gate_text.specs.Finite.{get-entries, inserted}
use Rattle.gate_rules.specs.View.{DeskView, with_change}
use Rattle.gate_rules.specs.Heads.{has, is_head, open_head, IsIndexOf}
use Rattle.gate_rules.proofs.Alters.{alters_none, alters_one}
use Rattle.gate_rules.proofs.Indexing.{index_left, no_head}
use Rattle.gate_rules.proofs.desk.Desk.shut.Goals as goal

pub returns-in_default : goal.returns-in_default
returns-in_default g c =
    let found = c.get_mut.ensures.value ∙ sym (get-entries nat_cmp_total c.self.inside.changes c.args.number)
    ∙ ap (λ (desk : DeskView). map.get desk.changes c.args.number) c.self.view_is in
    let absent = sym found ∙ ap option_copied_mut c.in_default.is in
    record { value = alters_none _ _ _ _ absent (rw c.get_mut.follows.holds-at-none c.self.view_is) }

pub returns : goal.returns
returns g c =
    let altered = c.alter-answer.new.arg2 in
    let found = c.get_mut.ensures.value ∙ sym (get-entries nat_cmp_total c.self.inside.changes c.args.number)
    ∙ ap (λ (desk : DeskView). map.get desk.changes c.args.number) c.self.view_is in
    let there = sym found ∙ ap option_copied_mut c.in-Some.is in
    let updates = (c.get_mut.follows.holds altered).3 (search rules) in
    let put = inserted nat_cmp_total nat_cmp-IsAntisymmetric c.self.inside.changes (c.get_mut.follows.lender altered) c.args.number altered updates in
    record {
      value = alters_one _ _ _ _ c.in-Some.open.now altered _ there (search rules)
          (rw put (ap (λ (desk : DeskView). with_change desk c.args.number altered) c.self.view_is));
    }

pub invariant_of-self-2 : goal.invariant_of-self-2
invariant_of-self-2 g c =
    let altered = c.alter-answer.new.arg2 in
    let changes = map.from_entries c.self.inside.changes.entries in
    let there = get-entries nat_cmp_total c.self.inside.changes c.args.number ∙ sym c.get_mut.ensures.value ∙ ap option_copied_mut c.in-Some.is in
    let updates = (c.get_mut.follows.holds altered).3 (search rules) in
    let put = inserted nat_cmp_total nat_cmp-IsAntisymmetric c.self.inside.changes (c.get_mut.follows.lender altered) c.args.number altered updates in
    let shut = c.requires.shuts c.in-Some.open.now c.alter-answer.result altered (search rules) in (
      c.self.invariant.0,
      subst (λ now. IsIndexOf now c.leave.new.self) (sym put)
          (index_left changes c.args.number altered c.self.inside.heads c.leave.new.self c.self.invariant.1
          (λ h n. c.leave.ensures h n ∙ ap (λ head. not (is_head head h && (n == c.args.number)) && has c.self.inside.heads h n) (c.open_head.ensures ∙ sym (ap (option_and_then open_head) there)))
          (no_head altered shut)),
    )
