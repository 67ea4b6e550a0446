use Rattle.std.proofs.Common.{◌≡◌, ◌||◌, Bool, true, false, if◌then◌else◌, inl, inr, sym, subst, ap, ◌∙◌}
use Rattle.std.specs.FinMap as finite
use Rattle.std.specs.Option.{option_map_or}
use Rattle.std.proofs.lemmas.Bool.{or_cases}
use Rattle.gate_queue.specs.Vocabulary.{is_open_at}
use Rattle.gate_queue.proofs.Collecting.{listed-other}
use Rattle.gate_queue.proofs.Noting.{still_noted}
use Rattle.gate_queue.proofs.before.Before.note_status.Goals as goal
use Rattle.gate_queue.specs.Before.{HasNoted}
use Rattle.gate_queue.specs.Machine.{has_staged, on_either}
use Rattle.gate_queue.specs.MayChange.{in_front, is_run, no_parts, with_heads}
use Rattle.gate_queue.specs.Touching.{lists}

pub returns-then-not-any_staged-clause-has : goal.returns-then-not-any_staged-clause-has
returns-then-not-any_staged-clause-has c =
    let s = c.args.state.now in
    let none : on_either (has_staged c.args.commit) s.queue ≡ false = sym c.any_staged.ensures ∙ c.if-not-any_staged.true in
    subst (λ (tested : Bool). HasNoted (with_heads s c.args.commit (if tested then in_front s else no_parts)) c.note_changes.new.self) (sym none) (record {
      people = λ name so. cc so;
      changes = λ number so.
          c.in_ok-note_changes.ensures.has number (ap (lists number) c.as_slice.ensures.value ∙ listed-other number c.in_ok-told.told.items ∙ c.in_ok-told.ensures.value number ∙ so);
      batches = λ number below so. cc so;
      settings = λ so. cc so;
    })

pub returns-clause-has : goal.returns-clause-has
returns-clause-has c =
    let s = c.args.state.now in
    let staged : on_either (has_staged c.args.commit) s.queue ≡ true = sym c.any_staged.ensures ∙ c.if-not-any_staged.false in
    let front = c.in_ok-note_front.ensures in
    subst (λ (tested : Bool). HasNoted (with_heads s c.args.commit (if tested then in_front s else no_parts)) c.note_front.new.self) (sym staged) (record {
      people = λ name so. cc so;
      changes = λ number so. elim (or_cases (is_run number s.queue.staging || is_run number s.queue.trying) (option_map_or (is_open_at c.args.commit) (finite.get s.desk.changes number) false) so) [
        | inl runs ↦ front.has.changes number runs
        | inr is_there ↦
            still_noted _ _ _ (front.more.changes number)
            (c.in_ok-note_changes.ensures.has number (ap (lists number) c.as_slice.ensures.value ∙ listed-other number c.in_ok-told.told.items ∙ c.in_ok-told.ensures.value number ∙ is_there))
      ];
      batches = front.has.batches;
      settings = λ so. cc so;
    })
