use Rattle.std.proofs.Common.{◌≡◌, Bool, true, false, cond, refl, ap, subst, rules, sym, ◌∙◌}
use Rattle.std.proofs.lemmas.Map.Made.{map_same_pairs}
use Rattle.std.specs.Cmp.{nat_cmp_total}
use Rattle.std.specs.Ordering.{nat_cmp}
use Rattle.std.specs.FinMap.{nat_cmp-IsAntisymmetric}
use Rattle.gate_text.specs.Finite.{mapped}
use Rattle.gate_rules.specs.Heads.{open_head, IsIndexOf}
use Rattle.gate_rules.specs.View.{DeskView, ended_if, with_ended, without_approval}
use Rattle.gate_rules.specs.declared.change.Change.{Change}
use Rattle.std.specs.FinMap as map
use Rattle.gate_rules.proofs.Indexing.{index_mapped}
use Rattle.gate_rules.proofs.desk.Desk.end_approvals_where.Goals as goal

-- Who loses an approval keeps the head.
still_there : (meets : Change → Bool) (change : Change) → open_head (ended_if meets change) ≡ open_head change
still_there meets change = by (meets change) where
  by : (b : Bool) → open_head (cond b (without_approval change) change) ≡ open_head change
  by true = refl
  by false = refl

pub returns : goal.returns
returns g c =
    let meets : Change → Bool = λ change. g.C.Condition.meets change c.args.condition.now in
    let edit = ended_if meets in
    let entries = map_same_pairs _ edit _ (λ k v b w f' t. search rules) _ _ c.retain.ensures.filtered in
    record {
      value = rw (entries, mapped nat_cmp edit nat_cmp_total nat_cmp-IsAntisymmetric c.self.inside.changes.entries)
          (ap (λ (desk : DeskView). with_ended meets desk) c.self.view_is);
    }

pub invariant_of-self : goal.invariant_of-self
invariant_of-self g c =
    let meets : Change → Bool = λ change. g.C.Condition.meets change c.args.condition.now in
    let edit = ended_if meets in
    let changes = c.self.inside.changes in
    let entries = map_same_pairs _ edit _ (λ k v b w f' t. search rules) _ _ c.retain.ensures.filtered in (
      c.self.invariant.0,
      subst (λ now. IsIndexOf now c.self.inside.heads)
          (sym (ap (map.from_entries {R = nat_cmp}) entries ∙ mapped nat_cmp edit nat_cmp_total nat_cmp-IsAntisymmetric changes.entries))
          (index_mapped (map.from_entries changes.entries) c.self.inside.heads edit (still_there meets) c.self.invariant.1),
    )
