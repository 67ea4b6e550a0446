use Rattle.std.proofs.Common.{◌≡◌, ◌<◌, true, is_some, subst, sym, ap, ◌∙◌, arith, rules}
use Rattle.std.proofs.lemmas.Bool.Decides.{nat_tests}
use Rattle.std.specs.FinMap as finite
use Rattle.gate_queue.proofs.Collecting.{joining-lists}
use Rattle.gate_queue.proofs.Noting.{change_has, change_more, more_then, still_noted}
use Rattle.gate_queue.proofs.before.Before.note_about.Goals as goal
use Rattle.gate_queue.specs.Before.{Noted, NotesMore}
use Rattle.gate_queue.specs.Touching.{joining, lists}

pub returns-clause-more : goal.returns-clause-more
returns-clause-more c =
    let s = c.args.state.now in
    let had : NotesMore s c.args.self.now c.note_change.new.self = subst (NotesMore s c.args.self.now) (sym c.in_ok-note_change.ensures) (change_more s c.args.self.now c.args.change) in
    more_then s c.args.self.now c.note_change.new.self c.note_batches.new.self had c.in_ok-note_batches.ensures.more

pub returns-clause-has : goal.returns-clause-has
returns-clause-has c =
    let s = c.args.state.now in
    let mid : Noted = c.note_change.new.self in
    let more = c.in_ok-note_batches.ensures.more in
    let numbers : c.in_ok-numbers.numbers.items ≡ joining c.args.priority c.args.change s.queue = search rules in
    let here : is_some (finite.get mid.changes c.args.change) ≡ true = ap (λ (n : Noted). is_some (finite.get n.changes c.args.change)) c.in_ok-note_change.ensures ∙ change_has s c.args.self.now c.args.change in
    record {
      people = λ name so. cc so;
      changes = λ number so.
          let at : c.args.change ≡ number = grind (arith, nat_tests) in
          still_noted _ _ _ (more.changes number) (subst (λ n. is_some (finite.get mid.changes n) ≡ true) at here);
      batches = λ number below so.
          c.in_ok-note_batches.ensures.has number (subst (λ next. number < next) more.next below)
          (ap (lists number) (c.as_slice.ensures.value ∙ numbers) ∙ joining-lists number c.args.priority c.args.change s.queue ∙ so);
      settings = λ so. cc so;
    }
