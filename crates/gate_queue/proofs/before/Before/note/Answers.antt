use Rattle.std.proofs.Common.{subst}
use Rattle.gate_queue.proofs.Noting.{before_after, before_more}
use Rattle.gate_queue.proofs.before.Before.note.Goals as goal
use Rattle.gate_queue.specs.Before.{HasNoted, Noted, NotesMore}
use Rattle.gate_queue.specs.Machine.{after}
use Rattle.gate_queue.specs.MayChange.{may_change}
use Rattle.gate_queue.specs.Vocabulary.{State}

pub returns : goal.returns
returns c =
    let s = c.args.gate.now in
    let act = c.args.judged.now.act.now in
    let new : Noted = c.note_judged.new.self in
    let more : NotesMore s c.args.self.now new = subst (λ (x : State). NotesMore x c.args.self.now new) c.state.ensures.value c.in_ok-note_judged.ensures.more in
    let has : HasNoted (may_change s act) new = subst (λ (x : State). HasNoted (may_change x act) new) c.state.ensures.value c.in_ok-note_judged.ensures.has in
    record {
      before = λ old before. before_after new (may_change s act) old s (after s act) (before_more c.args.self.now new old s before more) has (c.law_of_untouched.ensures s act c.state.ensures.state);
    }
