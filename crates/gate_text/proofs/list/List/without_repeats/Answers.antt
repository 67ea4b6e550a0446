use Rattle.std.proofs.Common.{◌≡◌, true, false, cond, [], ◌∷◌, ◌++◌, sym, ◌∙◌, ap, rules}
use Rattle.std.specs.List.{fold, list_any}
use Rattle.std.specs.Vec.Iter.{into_iter_items}
use Rattle.gate_text.specs.Arguments.{with_item}
use Rattle.gate_text.proofs.list.List.without_repeats.Goals as goal

pub loop-item-preserved-in-Continue-1 : goal.loop-item-preserved-in-Continue-1
loop-item-preserved-in-Continue-1 g c =
    let is_same = g.T.PartialEq.eq in
    let items = c.loop-item.items.items in
    let item = c.in-Some.item in
    let new : list_any (λ other. is_same other item) items ≡ false = search rules in
    let rest : into_iter_items c.loop-item.item-iterator ≡ item ∷ into_iter_items c.next.new.self = search rules in
    rw c.in_ok-push.ensures.items
    (ap (λ there. fold (with_item is_same) (cond there items (items ++ item ∷ [])) (into_iter_items c.next.new.self)) (sym new)
    ∙ ap (fold (with_item is_same) items) (sym rest) ∙ c.loop-item.invariant)

pub loop-item-preserved : goal.loop-item-preserved
loop-item-preserved g c =
    let is_same = g.T.PartialEq.eq in
    let items = c.loop-item.items.items in
    let item = c.in-Some.item in
    let known : list_any (λ other. is_same other item) items ≡ true = search rules in
    let rest : into_iter_items c.loop-item.item-iterator ≡ item ∷ into_iter_items c.next.new.self = search rules in
    ap (λ there. fold (with_item is_same) (cond there items (items ++ item ∷ [])) (into_iter_items c.next.new.self)) (sym known)
    ∙ ap (fold (with_item is_same) items) (sym rest) ∙ c.loop-item.invariant
