use Rattle.std.proofs.Common.{◌≡◌, ◌==◌, length, sym, ◌∙◌, refl, ap, Some, rules, tests}
use Rattle.std.proofs.lemmas.Iterator.Splits.{YieldsList-from_slice_split}
use Rattle.std.proofs.lemmas.List.{length_push}
use Rattle.std.specs.List.{fold}
use Rattle.gate_text.specs.Arguments.{items_of, name_in, with_name}
use Rattle.gate_text.proofs.Lists.{turn_of, end_of, item_read, item_refused, items_end}
use Rattle.gate_text.proofs.argument.names_of.Goals as goal

pub loop-item-preserved : goal.loop-item-preserved
loop-item-preserved c =
    let from = c.into_iter-item-iterator.ensures.into_iter_gives in
    let turn = turn_of c.loop-item.yielded _ c.loop-item.yielded_by _ c.next.new.self c.in-Some.item c.in-Some.is c.next.ensures.steps
    (YieldsList-from_slice_split _ (λ b. b == 44) c.args.list.now (rw from c.split-item-items.ensures.rest) (rw from c.split-item-items.ensures.done)
    refl (λ x r q k. search (rules, tests))) in
    let read : Some c.in-Some-2.name ≡ _ = search rules in (
      rw (length_push c.loop-item.yielded c.in-Some.item, c.in_ok-add_name-in-Some-2.ensures.names)
          (item_read name_in (fold with_name) c.loop-item.names.items (items_of c.args.list.now) (length c.loop-item.yielded) c.in-Some.item.now _ c.in-Some-2.name (λ names. refl) turn.0 turn.1 read
          ∙ c.loop-item.invariant.0),
      c.in_ok-add_name-in-Some-2.ensures.known,
    )

pub returns-in-None-2 : goal.returns-in-None-2
returns-in-None-2 c =
    let from = c.into_iter-item-iterator.ensures.into_iter_gives in
    let turn = turn_of c.loop-item.yielded _ c.loop-item.yielded_by _ c.next.new.self c.in-Some.item c.in-Some.is c.next.ensures.steps
    (YieldsList-from_slice_split _ (λ b. b == 44) c.args.list.now (rw from c.split-item-items.ensures.rest) (rw from c.split-item-items.ensures.done)
    refl (λ x r q k. search (rules, tests))) in
    item_refused name_in (fold with_name) c.loop-item.names.items (items_of c.args.list.now) (length c.loop-item.yielded) c.in-Some.item.now turn.0 turn.1 (sym c.in-None-2.is ∙ c.in_ok-name.ensures)
    ∙ c.loop-item.invariant.0

pub returns : goal.returns
returns c =
    let from = c.into_iter-item-iterator.ensures.into_iter_gives in
    let end = end_of c.loop-item.yielded _ c.loop-item.yielded_by _ c.next.new.self c.in-None.is c.next.ensures.steps
    (YieldsList-from_slice_split _ (λ b. b == 44) c.args.list.now (rw from c.split-item-items.ensures.rest) (rw from c.split-item-items.ensures.done)
    refl (λ x r q k. search (rules, tests))) in
    ap Some c.from.ensures ∙ items_end name_in (fold with_name) c.loop-item.names.items (items_of c.args.list.now) (length c.loop-item.yielded) end ∙ c.loop-item.invariant.0
