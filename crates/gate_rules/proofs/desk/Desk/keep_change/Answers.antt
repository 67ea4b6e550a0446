use Rattle.std.proofs.Common.{◌≡◌, ◌≢◌, ◌==◌, ◌&&◌, ◌||◌, ◌∙◌, not, sym, ap, subst, rules}
use Rattle.std.specs.FinMap as map
use Rattle.std.specs.Ordering.{nat_cmp}
use Rattle.gate_rules.specs.Heads.{has, is_head, open_head, open_head_at, IsIndexOf}
use Rattle.gate_rules.specs.View.{DeskView}
use Rattle.gate_rules.proofs.Indexing.{index_kept, index_moved}
use Rattle.gate_rules.proofs.desk.Desk.keep_change.Goals as goal

pub invariant_of-self-then-ne : goal.invariant_of-self-then-ne
invariant_of-self-then-ne c =
    let changes = map.from_entries {R = nat_cmp} c.self.inside.changes.entries in
    let before : open_head_at changes c.args.number ≡ c.open_head-before.result = ap (λ (desk : DeskView). open_head_at desk.changes c.args.number) c.self.view_is ∙ sym c.open_head-before.ensures in
    let after : c.open_head-after.result ≡ open_head c.args.change = c.open_head-after.ensures in
    let apart : c.open_head-before.result ≢ c.open_head-after.result = search rules in (
      c.self.invariant.0,
      subst (λ now. IsIndexOf now c.leave-then-ne.new.self) (sym c.in_default.ensures.ok)
          (index_moved changes c.args.number c.args.change c.self.inside.heads c.enter.new.self c.leave-then-ne.new.self c.self.invariant.1
          (λ h n. c.in_ok-enter.ensures.ok h n ∙ ap (λ head. (is_head head h && (n == c.args.number)) || has c.self.inside.heads h n) after)
          (λ h n. c.leave-then-ne.ensures h n ∙ ap (λ head. not (is_head head h && (n == c.args.number)) && has c.enter.new.self h n) (sym before))
          (λ same. apart (sym before ∙ same ∙ sym after))),
    )

pub invariant_of-self-else-ne : goal.invariant_of-self-else-ne
invariant_of-self-else-ne c =
    let changes = map.from_entries {R = nat_cmp} c.self.inside.changes.entries in
    let before : open_head_at changes c.args.number ≡ c.open_head-before.result = ap (λ (desk : DeskView). open_head_at desk.changes c.args.number) c.self.view_is ∙ sym c.open_head-before.ensures in
    let after : c.open_head-after.result ≡ open_head c.args.change = c.open_head-after.ensures in
    let same : c.open_head-before.result ≡ c.open_head-after.result = search rules in (
      c.self.invariant.0,
      subst (λ now. IsIndexOf now c.enter.new.self) (sym c.in_default.ensures.ok)
          (index_kept changes c.args.number c.args.change c.self.inside.heads c.enter.new.self c.self.invariant.1
          (λ h n. c.in_ok-enter.ensures.ok h n ∙ ap (λ head. (is_head head h && (n == c.args.number)) || has c.self.inside.heads h n) after)
          (before ∙ same ∙ after)),
    )
