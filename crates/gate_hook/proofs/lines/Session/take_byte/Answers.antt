use Rattle.gate_hook.proofs.Taking.{goes_on, ends, stops, tells}
use Rattle.gate_hook.proofs.lines.Session.take_byte.Goals as goal

pub returns-then-byte-ne10-clause-taken : goal.returns-then-byte-ne10-clause-taken
returns-then-byte-ne10-clause-taken g c opened input before so_far =
    let session = c.args.self.now in
    rw c.add.ensures (goes_on _ opened input _ session.line session.count before _ c.args.byte c.if-byte-ne10.true so_far)

pub returns-in-Ok-clause-taken : goal.returns-in-Ok-clause-taken
returns-in-Ok-clause-taken g c opened input before so_far =
    let session = c.args.self.now in
    rw (c.if-byte-ne10.false, c.clear.ensures, c.in-Ok.ensures.answers.count)
    (ends _ _ opened input _ _ session.line session.count before _ _ c.in-Ok.ensures.steps.turns.outlasts.was so_far c.in-Ok.ensures.answers.answered)

pub returns-in-Err-clause-taken : goal.returns-in-Err-clause-taken
returns-in-Err-clause-taken g c opened input before so_far =
    let session = c.args.self.now in (
      c.if-byte-ne10.false,
      stops _ _ opened input _ _ session.line session.count before _ _ c.in-Err.fault c.in-Err.ensures.steps.turns.outlasts.was so_far c.in-Err.ensures.answers.answered,
      λ honest. tells _ opened input _ session.line session.count before _ _ c.in-Err.fault so_far c.in-Err.ensures.answers.unwritten (honest.0 (c.in-Err.ensures.steps.turns.outlasts.honest honest.1)),
    )
