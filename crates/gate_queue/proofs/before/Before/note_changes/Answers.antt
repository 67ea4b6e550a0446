use Rattle.std.proofs.Common.{◌≡◌, true, is_some, ap, subst, sym, ◌∙◌}
use Rattle.std.proofs.lemmas.List.{take_all}
use Rattle.std.specs.FinMap as finite
use Rattle.gate_queue.proofs.Collecting.{all_more}
use Rattle.gate_queue.proofs.Noting.{change_has, change_more, more_itself, more_then, still_noted}
use Rattle.gate_queue.proofs.before.Before.note_changes.Goals as goal
use Rattle.gate_queue.specs.Before.{Noted, NotesMore, with_change}
use Rattle.gate_queue.specs.Touching.{lists}

pub loop-number-init : goal.loop-number-init
loop-number-init c = record { more = more_itself c.args.state.now c.args.self.now; has = λ number listed. cc listed }

pub loop-number-preserved : goal.loop-number-preserved
loop-number-preserved c =
    let s = c.args.state.now in
    let had = c.loop-number.self in
    let has : Noted = c.note_change.new.self in
    let item = c.number-item.result in
    let is : has ≡ with_change item s had = c.in_ok-note_change.ensures in
    let more : NotesMore s had has = subst (NotesMore s had) (sym is) (change_more s had item) in
    let here : is_some (finite.get has.changes item) ≡ true = ap (λ (n : Noted). is_some (finite.get n.changes item)) is ∙ change_has s had item in
    record {
      more = more_then s c.args.self.now had has c.loop-number.invariant.more more;
      has = all_more (λ n. is_some (finite.get has.changes n) ≡ true) c.args.numbers.now c.loop-number.number-index item item c.loop-number-test.true c.number-item.is
          (λ n listed. still_noted _ _ _ (more.changes n) (c.loop-number.invariant.has n listed)) here;
    }

pub returns-clause-more : goal.returns-clause-more
returns-clause-more c = c.loop-number.invariant.more

pub returns-clause-has : goal.returns-clause-has
returns-clause-has c number listed =
    c.loop-number.invariant.has number (ap (lists number) (take_all c.loop-number.number-index c.args.numbers.now c.loop-number-test.false) ∙ listed)
