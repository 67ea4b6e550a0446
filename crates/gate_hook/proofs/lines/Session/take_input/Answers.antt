use Rattle.std.proofs.Common.{◌≡◌, ◌+◌, ◌-◌, ◌≤◌, ◌++◌, length, take, arith}
use Rattle.std.proofs.KnownBytes.{Consumes-trans}
use Rattle.std.proofs.lemmas.List.{length-append, length-take}
use Rattle.gate_hook.proofs.Ending.{may_end, within_served, within_told, stops_within, too_much}
use Rattle.gate_hook.proofs.Splitting.{length-ended_lines}
use Rattle.gate_hook.proofs.Sessions.{turns_both}
use Rattle.gate_hook.proofs.lines.Session.take_input.Goals as goal

pub finish-requires : goal.finish-requires
finish-requires g c =
    let so_far = c.chunks.invariant.taken in
    omega (arith, length-ended_lines so_far.0, so_far.2.count, so_far.3)

pub returns-then-left-eq0-clause-served : goal.returns-then-left-eq0-clause-served
returns-then-left-eq0-clause-served g c =
    let so_far = c.chunks.invariant.taken in
    let session = c.chunks.self in
    let buffer = c.read_part.new.buffer in
    let chunk = take c.in_ok-n.n buffer in
    let size : length so_far.0 ≡ 4294967296 = omega (arith, so_far.3, c.if-left-eq0.true) in
    let room = c.room_for.ensures in
    let one : length chunk ≡ 1 =
    omega (arith, length-take c.in_ok-n.n buffer, c.read_part.auto.buffer, c.if-n-eq0.false, c.in_ok-n.ensures.0, room.within, room.last c.if-left-eq0.true) in (
      so_far.0 ++ chunk,
      Consumes-trans _ _ _ so_far.0 chunk so_far.1 c.in_ok-n.ensures.1,
      omega (arith, length-append so_far.0 chunk),
      too_much _ _ so_far.0 chunk (g.R.Read.remaining c.read_part.new.reader) _ session.line session.count _ _ size so_far.2,
      λ begun honest. tt,
    )

pub take_chunk-requires : goal.take_chunk-requires
take_chunk-requires g c =
    let so_far = c.chunks.invariant.taken in
    omega (arith, length-ended_lines so_far.0, so_far.2.count, so_far.3, length-take c.in_ok-n.n c.read_part.new.buffer, c.in_ok-n.ensures.0, c.room_for.ensures.left)

pub returns-in-Err-clause-served : goal.returns-in-Err-clause-served
returns-in-Err-clause-served g c =
    let so_far = c.chunks.invariant.taken in
    let opened = g.B.Book.shows c.args.self.now.keeper.now in
    let buffer = c.read_part.new.buffer in
    let chunk = take c.in_ok-n.n buffer in
    let stopped = c.in-Err.ensures.taken opened so_far.0 _ so_far.2 in
    let within : length (so_far.0 ++ chunk) ≤ 4294967296 =
    omega (arith, length-append so_far.0 chunk, so_far.3, length-take c.in_ok-n.n buffer, c.in_ok-n.ensures.0, c.room_for.ensures.left) in (
      so_far.0 ++ chunk,
      Consumes-trans _ _ _ so_far.0 chunk so_far.1 c.in_ok-n.ensures.1,
      stops_within g.B.Book.may_answer c.in-Err.fault (so_far.0 ++ chunk) within c.in-Err.ensures.steps.cause,
      within_served _ _ c.in-Err.fault opened so_far.0 chunk (g.R.Read.remaining c.read_part.new.reader) _ _ _ stopped,
      λ begun honest. within_told _ _ c.in-Err.fault opened so_far.0 chunk (g.R.Read.remaining c.read_part.new.reader) _ _ _ stopped (c.chunks.invariant.stays begun, honest),
    )

pub returns-in-Err-clause-steps : goal.returns-in-Err-clause-steps
returns-in-Err-clause-steps g c =
    let steps = c.in-Err.ensures.steps in
    record {
      turns = turns_both g.B.Book _ _ _ c.chunks.invariant.turns steps.turns;
      stays = λ begun premise. steps.stays (c.chunks.invariant.stays begun) premise;
      cause = may_end g.B.Book.may_answer c.in-Err.fault steps.cause;
    }

pub chunks-preserved : goal.chunks-preserved
chunks-preserved g c =
    let so_far = c.chunks.invariant.taken in
    let buffer = c.read_part.new.buffer in
    let chunk = take c.in_ok-n.n buffer in
    let room = c.room_for.ensures in
    let size : length (so_far.0 ++ chunk) + (c.chunks.left - c.in_ok-n.n) ≡ 4294967296 =
    omega (arith, so_far.3, length-append so_far.0 chunk, length-take c.in_ok-n.n buffer, c.read_part.auto.buffer, c.in_ok-n.ensures.0, c.if-left-eq0.false, room.within, room.left) in
    record {
      turns = turns_both g.B.Book _ _ _ c.chunks.invariant.turns c.in-Ok.ensures.steps.turns;
      stays = λ begun premise. c.in-Ok.ensures.steps.stays (c.chunks.invariant.stays begun) premise;
      taken = (
        so_far.0 ++ chunk,
        Consumes-trans _ _ _ so_far.0 chunk so_far.1 c.in_ok-n.ensures.1,
        c.in-Ok.ensures.taken (g.B.Book.shows c.args.self.now.keeper.now) so_far.0 _ so_far.2,
        size,
      );
    }
