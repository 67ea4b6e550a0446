use Rattle.std.proofs.Common.{◌≡◌, ◌<◌, true, is_some, subst, sym, ap, ◌∙◌}
use Rattle.gate_queue.proofs.Collecting.{settling-lists, where-lists}
use Rattle.gate_queue.proofs.Noting.{more_then, settings_has, settings_more, still_noted}
use Rattle.gate_queue.proofs.before.Before.note_settings.Goals as goal
use Rattle.gate_queue.specs.Before.{Noted, NotesMore}
use Rattle.gate_queue.specs.Machine.{loses_approval}
use Rattle.gate_queue.specs.Touching.{lists}

pub returns-clause-has : goal.returns-clause-has
returns-clause-has c =
    let s = c.args.state.now in
    let settings = c.args.settings.now in
    let second = c.in_ok-note_changes.ensures in
    let third = c.in_ok-note_batches.ensures in
    let first : is_some c.note_present_settings.new.self.settings ≡ true = ap (λ (n : Noted). is_some n.settings) c.in_ok-note_present_settings.ensures ∙ settings_has s c.args.self.now in
    record {
      people = λ name so. cc so;
      changes = λ number so.
          still_noted _ _ _ (third.more.changes number)
          (second.has number (ap (lists number) (c.as_slice.ensures.value ∙ c.in_ok-changes.ensures.value) ∙ where-lists number (loses_approval settings) s.desk so));
      batches = λ number below so.
          third.has number (subst (λ next. number < next) third.more.next below) (ap (lists number) (c.as_slice-2.ensures.value ∙ c.in_ok-batches.ensures) ∙ settling-lists number s settings ∙ so);
      settings = λ so. still_noted _ _ _ third.more.settings (still_noted _ _ _ second.more.settings first);
    }

pub returns-clause-more : goal.returns-clause-more
returns-clause-more c =
    let s = c.args.state.now in
    let first : NotesMore s c.args.self.now c.note_present_settings.new.self = subst (NotesMore s c.args.self.now) (sym c.in_ok-note_present_settings.ensures) (settings_more s c.args.self.now) in
    more_then s _ _ _ (more_then s _ _ _ first c.in_ok-note_changes.ensures.more) c.in_ok-note_batches.ensures.more
