use Rattle.std.proofs.Common.{ℕ, List, ap, ◌∙◌, sym, refl, inl, subst, arith, rules}
use Rattle.std.specs.Io.BufRead.{strip_last}
use Rattle.std.specs.Io.KnownBytes.{Appends, IsAtEnd}
use Rattle.gate_guard_lines.proofs.Splitting.{read_plain}
use Rattle.gate_guard_lines.proofs.Telling.{all_told, known_next, known_yet, none_yet, nothing, one_more, only_read, only_stops, stops_at_gate, stops_at_write, stops_before}
use Rattle.gate_guard_lines.specs.Lines.{IsInputOf, StopsAmong}
use Rattle.gate_guard_lines.specs.Serving.{IsPlain}
use Rattle.gate_hook.specs.Sending.{IsCutOff}
use Rattle.gate_hook.specs.Serving.{IsSoundAfter}
use Rattle.gate_hook.specs.declared.fault.HookFault.{HookFault}
use Rattle.gate_hook.specs.declared.fault.HookFault.TheVariants.{Gate, Read, TooMuch}
use Rattle.gate_queue.specs.declared.fault.Fault.TheVariants.{Memory}
use Rattle.gate_store.proofs.Outlasting.{outlasts_both, outlasts_none}
use Rattle.gate_guard_lines.proofs.lines.guard_lines.Goals as goal

pub loop-count-init : goal.loop-count-init
loop-count-init g c = record {
  told = λ sound. none_yet (g.B.Book.shows c.args.keeper.now) (g.R.Read.remaining c.args.reader.now) (g.W.Write.contents c.args.writer.now);
  stays = λ begun honest. begun honest;
  known = known_yet (g.R.Read.remaining c.args.reader.now);
  outlasts = outlasts_none g.B.Book c.args.keeper.now;
}

pub returns-in-Ok-eq0-clause-told : goal.returns-in-Ok-eq0-clause-told
returns-in-Ok-eq0-clause-told g c sound =
    let ended : IsAtEnd (g.R.Read.remaining c.loop-count.reader) = search rules in
    all_told _ _ _ _ _ _ (c.loop-count.invariant.told sound) ended

pub returns-in-Err-clause-told : goal.returns-in-Err-clause-told
returns-in-Err-clause-told g c sound =
    let so_far = c.loop-count.invariant.told sound in
    stops_before _ _ _ _ _ _ so_far (Gate Memory) (λ others. (inl so_far.records, refl))

pub returns-in-Err-2-clause-told : goal.returns-in-Err-2-clause-told
returns-in-Err-2-clause-told g c sound = let so_far = c.loop-count.invariant.told sound in stops_before _ _ _ _ _ _ so_far Read (λ others. (so_far.records, refl))

pub returns-in-Err-line_told-clause-told : goal.returns-in-Err-line_told-clause-told
returns-in-Err-line_told-clause-told g c sound =
    let read = c.in-Ok.ensures in
    let line = c.in-Err-line_told.ensures.tells in
    let its = c.without_line_feed.ensures ∙ ap (strip_last 10) c.deref.ensures.value in
    let plain = subst IsPlain (sym its) (read_plain c.read_until.new.buf.items (only_stops _ _ c.clear.ensures.items read.stops)) in
    let contents = g.W.Write.contents c.loop-count.writer in
    stops_at_gate _ _ _ (g.R.Read.remaining c.loop-count.reader) _ contents (c.loop-count.invariant.told (line.outlasts.was sound)) (g.B.Book.shows c.line_told.new.keeper)
    (g.R.Read.remaining c.read_until.new.self) contents c.read_until.new.buf.items c.without_line_feed.result.now
    (only_read (g.R.Read.remaining c.loop-count.reader) _ _ c.clear.ensures.items read.bytes) read.rest (omega (arith, read.ok, c.clear.ensures.len, c.in-Ok.field-0-test)) its plain _ (line.stops sound)
    (nothing contents)

pub returns-in-Err-send-clause-told : goal.returns-in-Err-send-clause-told
returns-in-Err-send-clause-told g c sound =
    let read = c.in-Ok.ensures in
    let line = c.in-Ok-line_told.ensures.tells in
    let its = c.without_line_feed.ensures ∙ ap (strip_last 10) c.deref.ensures.value in
    let plain = subst IsPlain (sym its) (read_plain c.read_until.new.buf.items (only_stops _ _ c.clear.ensures.items read.stops)) in
    let contents = g.W.Write.contents c.loop-count.writer in
    let after = g.W.Write.contents c.send.new.writer in
    let cut = subst (λ (bytes : List ℕ). IsCutOff bytes contents after) (c.as_bytes.ensures.value ∙ line.text sound) c.in-Err-send.ensures.err.1 in
    subst (λ (fault : HookFault). (input : List ℕ) × IsInputOf (g.R.Read.remaining c.args.reader.now) input
    × StopsAmong fault (g.B.Book.shows c.args.keeper.now) (g.B.Book.shows c.line_told.new.keeper) input (g.W.Write.contents c.args.writer.now) after) (sym c.in-Err-send.ensures.err.0)
    (stops_at_write _ _ _ (g.R.Read.remaining c.loop-count.reader) _ contents (c.loop-count.invariant.told (line.outlasts.was sound)) (g.B.Book.shows c.line_told.new.keeper)
    (g.R.Read.remaining c.read_until.new.self) after c.read_until.new.buf.items c.without_line_feed.result.now (only_read (g.R.Read.remaining c.loop-count.reader) _ _ c.clear.ensures.items read.bytes)
    read.rest (omega (arith, read.ok, c.clear.ensures.len, c.in-Ok.field-0-test)) its plain (line.records sound) cut)

pub loop-count-preserved : goal.loop-count-preserved
loop-count-preserved g c =
    let read = c.in-Ok.ensures in
    let line = c.in-Ok-line_told.ensures.tells in
    let so_far = c.loop-count.invariant in
    let its = c.without_line_feed.ensures ∙ ap (strip_last 10) c.deref.ensures.value in
    let plain = subst IsPlain (sym its) (read_plain c.read_until.new.buf.items (only_stops _ _ c.clear.ensures.items read.stops)) in
    let contents = g.W.Write.contents c.loop-count.writer in
    let after = g.W.Write.contents c.send.new.writer in
    record {
      told = λ sound.
          one_more _ _ _ (g.R.Read.remaining c.loop-count.reader) _ contents (so_far.told (line.outlasts.was sound)) (g.B.Book.shows c.line_told.new.keeper) (g.R.Read.remaining c.read_until.new.self) after
          c.read_until.new.buf.items c.without_line_feed.result.now (only_read (g.R.Read.remaining c.loop-count.reader) _ _ c.clear.ensures.items read.bytes) read.rest
          (omega (arith, read.ok, c.clear.ensures.len, c.in-Ok.field-0-test)) its plain (line.records sound) (line.room sound)
          (subst (Appends contents after) (c.as_bytes.ensures.value ∙ line.text sound) c.in-Ok-send.ensures.ok);
      stays = λ begun honest. line.stays (so_far.stays begun) honest;
      known = known_next (g.R.Read.remaining c.args.reader.now) (g.R.Read.remaining c.loop-count.reader) (g.R.Read.remaining c.read_until.new.self) so_far.known read.rest;
      outlasts = outlasts_both g.B.Book _ _ _ so_far.outlasts line.outlasts;
    }

pub returns-clause-told : goal.returns-clause-told
returns-clause-told g c sound = let so_far = c.loop-count.invariant.told sound in stops_before _ _ _ _ _ _ so_far TooMuch (λ others. (so_far.records, refl))

-- WHETHER THE BOOK IS SOUND
pub returns-in-Ok-eq0-clause-stays : goal.returns-in-Ok-eq0-clause-stays
returns-in-Ok-eq0-clause-stays g c begun honest = c.loop-count.invariant.stays begun honest

pub returns-in-Err-2-clause-stays : goal.returns-in-Err-2-clause-stays
returns-in-Err-2-clause-stays g c begun honest = c.loop-count.invariant.stays begun honest

pub returns-in-Err-line_told-clause-stays : goal.returns-in-Err-line_told-clause-stays
returns-in-Err-line_told-clause-stays g c begun honest = c.in-Err-line_told.ensures.tells.stays (c.loop-count.invariant.stays begun) honest

pub returns-in-Err-send-clause-stays : goal.returns-in-Err-send-clause-stays
returns-in-Err-send-clause-stays g c begun honest =
    subst (λ (fault : HookFault). IsSoundAfter fault (g.B.Book.is_sound c.line_told.new.keeper)) (sym c.in-Err-send.ensures.err.0)
    (c.in-Ok-line_told.ensures.tells.stays (c.loop-count.invariant.stays begun) honest)

pub returns-clause-stays : goal.returns-clause-stays
returns-clause-stays g c begun honest = c.loop-count.invariant.stays begun honest
