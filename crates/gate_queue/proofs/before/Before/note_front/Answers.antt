use Rattle.std.proofs.Common.{◌<◌, inl, inr, subst, ap, ◌∙◌}
use Rattle.std.proofs.lemmas.Bool.{or_cases}
use Rattle.gate_queue.proofs.Collecting.{fronts-lists}
use Rattle.gate_queue.proofs.Noting.{still_noted}
use Rattle.gate_queue.proofs.before.Before.note_front.Goals as goal
use Rattle.gate_queue.specs.MayChange.{is_run}
use Rattle.gate_queue.specs.Touching.{lists}

pub returns-clause-has : goal.returns-clause-has
returns-clause-has c =
    let s = c.args.state.now in
    let first = c.in_ok-note_running.ensures in
    let second = c.in_ok-note_running-2.ensures in
    let third = c.in_ok-note_batches.ensures in
    record {
      people = λ name so. cc so;
      changes = λ number so. elim (or_cases (is_run number s.queue.staging) (is_run number s.queue.trying) so) [
        | inl one ↦ still_noted _ _ _ (third.more.changes number) (still_noted _ _ _ (second.more.changes number) (first.has number one))
        | inr other ↦ still_noted _ _ _ (third.more.changes number) (second.has number other)
      ];
      batches = λ number below so.
          third.has number (subst (λ next. number < next) third.more.next below) (ap (lists number) (c.as_slice.ensures.value ∙ c.in_ok-numbers.ensures) ∙ fronts-lists number s.queue ∙ so);
      settings = λ so. cc so;
    }
