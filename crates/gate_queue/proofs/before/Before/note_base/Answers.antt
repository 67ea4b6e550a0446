use Rattle.std.proofs.Common.{◌<◌, ◌||◌, inl, inr, subst, ap, ◌∙◌}
use Rattle.std.proofs.lemmas.Bool.{or_cases}
use Rattle.gate_queue.proofs.Collecting.{lists-so}
use Rattle.gate_queue.proofs.Noting.{still_noted}
use Rattle.gate_queue.proofs.before.Before.note_base.Goals as goal
use Rattle.gate_queue.specs.MayChange.{is_in_front, one_numbered, stays_tried}
use Rattle.gate_queue.specs.Touching.{lists}
use Rattle.gate_state.specs.Lanes.{batches_of, loses}

pub returns-clause-has : goal.returns-clause-has
returns-clause-has c =
    let s = c.args.state.now in
    let front = c.in_ok-note_front.ensures.has in
    let more = c.in_ok-note_batches.ensures.more in
    record {
      people = λ name so. cc so;
      changes = λ number so. still_noted _ _ _ (more.changes number) (front.changes number so);
      batches = λ number below so.
          let within = subst (λ next. number < next) more.next below in
          elim (or_cases (is_in_front s.queue.staging number || is_in_front s.queue.trying number) (one_numbered (loses (stays_tried s)) (batches_of s.queue.trying) number) so) [
            | inl ahead ↦ still_noted _ _ _ (more.batches number within) (front.batches number within ahead)
            | inr tries ↦ c.in_ok-note_batches.ensures.has number within
                (ap (lists number) (c.as_slice.ensures.value ∙ c.in_ok-tries.ensures) ∙ lists-so (loses (stays_tried s)) number (batches_of s.queue.trying) ∙ tries)
          ];
      settings = λ so. cc so;
    }
