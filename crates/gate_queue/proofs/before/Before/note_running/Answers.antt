use Rattle.std.proofs.Common.{◌≡◌, true, false, Some, sym, ap, ◌∙◌}
use Rattle.std.specs.Option.{option_map_or}
use Rattle.gate_queue.proofs.Collecting.{has-lists}
use Rattle.gate_queue.proofs.before.Before.note_running.Goals as goal
use Rattle.gate_queue.specs.Machine.{all_but}
use Rattle.gate_queue.specs.Touching.{lists}
use Rattle.gate_state.specs.Lanes.{loses}
use Rattle.gate_queue.specs.Vocabulary.{Batch}
use Rattle.std.specs.declared.option.Option.{Option}

pub returns-in_ok-note_changes-clause-has : goal.returns-in_ok-note_changes-clause-has
returns-in_ok-note_changes-clause-has c number is =
    let here : c.args.running.now ≡ Some c.in-Some.batch = c.in-Some.is in
    let listed : lists number c.in-Some.batch.changes ≡ true =
    sym (has-lists number c.in-Some.batch.changes) ∙ sym (ap (λ (running : Option Batch). option_map_or (loses (all_but number)) running false) here) ∙ is in
    c.in_ok-note_changes.ensures.has number (ap (lists number) c.as_slice.ensures.value ∙ listed)
