use Rattle.std.proofs.Common.{◌≡◌, ◌<◌, ℕ, true, is_some, get_or, refl, ap, subst, sym, ◌∙◌}
use Rattle.std.proofs.lemmas.List.{take_all}
use Rattle.std.specs.FinMap as finite
use Rattle.gate_queue.proofs.Collecting.{all_more}
use Rattle.gate_queue.proofs.Noting.{batch_has, batch_more, more_itself, more_then, still_noted}
use Rattle.gate_queue.proofs.before.Before.note_batches.Goals as goal
use Rattle.gate_queue.specs.Before.{Noted, NotesMore, with_batch}
use Rattle.gate_queue.specs.Touching.{lists}

pub loop-number-init : goal.loop-number-init
loop-number-init c = record { more = more_itself c.args.state.now c.args.self.now; has = λ number below listed. cc listed }

pub loop-number-preserved : goal.loop-number-preserved
loop-number-preserved c =
    let s = c.args.state.now in
    let had = c.loop-number.self in
    let has : Noted = c.note_batch.new.self in
    let item = get_or c.args.numbers.now c.loop-number.number-index 0 in
    let is : has ≡ with_batch item s had = c.in_ok-note_batch.ensures in
    let more : NotesMore s had has = subst (NotesMore s had) (sym is) (batch_more s had item) in
    let below = λ (n : ℕ) (within : n < has.next). subst (λ next. n < next) more.next within in
    let here : item < has.next → is_some (finite.get has.batches item) ≡ true = λ within. ap (λ (n : Noted). is_some (finite.get n.batches item)) is ∙ batch_has s had item (below item within) in
    let each = all_more (λ n. n < has.next → is_some (finite.get has.batches n) ≡ true) c.args.numbers.now c.loop-number.number-index item 0 c.loop-number-test.true refl
    (λ n listed within. still_noted _ _ _ (more.batches n (below n within)) (c.loop-number.invariant.has n (below n within) listed)) here in
    record { more = more_then s c.args.self.now had has c.loop-number.invariant.more more; has = λ n within listed. each n listed within }

pub returns-clause-more : goal.returns-clause-more
returns-clause-more c = c.loop-number.invariant.more

pub returns-clause-has : goal.returns-clause-has
returns-clause-has c number below listed =
    c.loop-number.invariant.has number (subst (λ n. number < n) (sym c.loop-number.invariant.more.next) below) (ap (lists number) (take_all c.loop-number.number-index c.args.numbers.now c.loop-number-test.false) ∙ listed)
