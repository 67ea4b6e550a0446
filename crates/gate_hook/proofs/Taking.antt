-- One more byte, or more of them: serving goes on, or it stops at a line feed among them.
use Rattle.std.proofs.Common.{◌≡◌, ◌≢◌, ℕ, ◌+◌, ◌<◌, false, is_ok, length, List, [], ◌∷◌, ◌++◌, take, Option, Ok, Err, refl, sym, ◌∙◌, ap, subst, inl, inr, eqb, append-nil, arith}
use Rattle.std.proofs.KnownBytes.{Appends-trans}
use Rattle.std.proofs.lemmas.Bool.Decides.{nat_tests}
use Rattle.std.proofs.lemmas.List.{length_push}
use Rattle.std.specs.Io.KnownBytes.{Appends}
use Rattle.gate_queue.specs.declared.fault.Fault.{Fault}
use Rattle.gate_queue.specs.declared.fault.Fault.TheVariants.{Memory, Store, Full, Foreign}
use Rattle.gate_store.specs.Run.{Records}
use Rattle.gate_deliveries.specs.Deliveries.{delivery_of}
use Rattle.gate_hook.specs.Lines.{ended_lines, open_line, line_text, too_long_text, text_answered, after_line, is_delivery, line_meets_full, after_reading, reading_meets_full, text_for, after_lines, NoLineMeetsFull, MayCause, StopsAtLine}
use Rattle.gate_hook.specs.Serving.{IsAnswered, IsOfGate, IsUpTo, StopsBehind, ToldBehind, kept_of}
use Rattle.gate_hook.specs.declared.fault.HookFault.{HookFault}
use Rattle.gate_hook.specs.declared.fault.HookFault.TheVariants.{Gate, Read, Write, TooMuch}
use Rattle.gate_hook.proofs.Kept.{kept-push, kept-says}
use Rattle.gate_hook.proofs.Progress.{after_lines-append, room-push, text_for-append}
use Rattle.gate_hook.proofs.Splitting.{ended_lines-push, open_line-push, ended_lines-feed, open_line-feed}

-- WHAT IS KEPT OF A LINE SAYS THE SAME
line_text-kept : (records : Records) (line : List ℕ) → line_text records (kept_of line) ≡ line_text records line
line_text-kept records line = kept-says 65536 too_long_text (λ text. text_answered records (delivery_of text)) line

after_line-kept : (records : Records) (line : List ℕ) → after_line records (kept_of line) ≡ after_line records line
after_line-kept records line = kept-says 65536 records (λ text. after_reading records (delivery_of text)) line

is_delivery-kept : (line : List ℕ) → is_delivery (kept_of line) ≡ is_delivery line
is_delivery-kept line = kept-says 65536 false (λ text. is_ok (delivery_of text)) line

line_meets_full-kept : (records : Records) (line : List ℕ) → line_meets_full records (kept_of line) ≡ line_meets_full records line
line_meets_full-kept records line = kept-says 65536 false (λ text. reading_meets_full records (delivery_of text)) line

may_cause-kept : (records : Records) (line : List ℕ) (fault : Fault) → MayCause records (kept_of line) fault → MayCause records line fault
may_cause-kept records line Memory cause = cause
may_cause-kept records line Store cause = sym (is_delivery-kept line) ∙ cause
may_cause-kept records line Full cause = sym (line_meets_full-kept records line) ∙ cause
may_cause-kept records line Foreign cause = cause

-- The line that is open, by what is kept of it and by what it was: the records and the text are the same.
text_at : (now served : Records) (line last : List ℕ) → now ≡ served → line ≡ kept_of last → line_text now line ++ 10 ∷ [] ≡ line_text served last ++ 10 ∷ []
text_at now served line last is kept =
    ap (λ (l : List ℕ). line_text now l ++ 10 ∷ []) kept ∙ ap (λ (r : Records). line_text r (kept_of last) ++ 10 ∷ []) is
    ∙ ap (λ (t : List ℕ). t ++ 10 ∷ []) (line_text-kept served last)

after_at : (now served : Records) (line last : List ℕ) → now ≡ served → line ≡ kept_of last → after_line now line ≡ after_line served last
after_at now served line last is kept =
    ap (after_line now) kept ∙ ap (λ (r : Records). after_line r (kept_of last)) is ∙ after_line-kept served last

room_at : (now served : Records) (line last : List ℕ) → now ≡ served → line ≡ kept_of last → line_meets_full now line ≡ line_meets_full served last
room_at now served line last is kept =
    ap (line_meets_full now) kept ∙ ap (λ (r : Records). line_meets_full r (kept_of last)) is ∙ line_meets_full-kept served last

-- ANOTHER BYTE THAN A LINE FEED
pub goes_on : (sound : Type 0) (opened : Records) (input : List ℕ) (now : Records) (line : List ℕ) (count : ℕ) (before after : Option (List ℕ)) (byte : ℕ)
    → byte ≢ 10 → IsUpTo sound opened input now line count before after
    → IsUpTo sound opened (input ++ byte ∷ []) now (take 65537 (line ++ byte ∷ [])) count before after
goes_on sound opened input now line count before after byte other so_far =
    let is_other : eqb byte 10 ≡ false = grind (arith, nat_tests) in
    let ended = ended_lines-push input byte is_other in
    record {
      records = λ premise. rw ended (so_far.records premise);
      line = rw (so_far.line, open_line-push input byte is_other) (kept-push 65537 (open_line input) byte);
      count = rw ended so_far.count;
      written = λ premise. rw ended (so_far.written premise);
      room = λ premise. rw ended (so_far.room premise);
    }

-- A LINE FEED
pub ends : (old_sound sound : Type 0) (opened : Records) (input : List ℕ) (old new : Records) (line : List ℕ) (count : ℕ) (before between after : Option (List ℕ))
    → (sound → old_sound) → IsUpTo old_sound opened input old line count before between → (sound → IsAnswered (Ok tt) old line new between after)
    → IsUpTo sound opened (input ++ 10 ∷ []) new [] (count + 1) before after
ends old_sound sound opened input old new line count before between after was so_far done =
    let lines = ended_lines input in
    let last = open_line input in
    let feed = ended_lines-feed input in
    let served = after_lines opened lines in
    record {
      records = λ premise. (done premise).0 ∙ after_at old served line last (so_far.records (was premise)) so_far.line
          ∙ sym (ap (after_lines opened) feed ∙ after_lines-append opened lines (last ∷ []));
      line = sym (ap kept_of (open_line-feed input));
      count = rw (feed, length_push lines last, ← so_far.count) refl;
      written = λ premise.
          let text : line_text old line ++ 10 ∷ [] ≡ text_for served (last ∷ []) =
          text_at old served line last (so_far.records (was premise)) so_far.line ∙ sym (append-nil (line_text served last ++ 10 ∷ [])) in
          subst (Appends before after) (sym (ap (text_for opened) feed ∙ text_for-append opened lines (last ∷ [])))
          (Appends-trans before between after (text_for opened lines) _ (so_far.written (was premise)) (subst (Appends between after) text (done premise).1));
      room = λ premise. rw feed
          (room-push opened lines last (so_far.room (was premise)) (sym (room_at old served line last (so_far.records (was premise)) so_far.line) ∙ (done premise).2));
    }

-- A FAULT AT A LINE FEED
stops_at : (fault : Fault) (old new served : Records) (line last : List ℕ)
    → old ≡ served → line ≡ kept_of last → StopsAtLine fault old line new → StopsAtLine fault served last new
stops_at fault old new served line last is kept (inl nothing) =
    inl (
      nothing.0 ∙ is,
      may_cause-kept served last fault
          (subst (λ (l : List ℕ). MayCause served l fault) kept (subst (λ (r : Records). MayCause r line fault) is nothing.1)),
    )
stops_at fault old new served line last is kept (inr acted) =
    inr (acted.0, acted.1 ∙ after_at old served line last is kept, sym (room_at old served line last is kept) ∙ acted.2)

stops_behind : (opened : Records) (input : List ℕ) (old new : Records) (line : List ℕ) (before between after : Option (List ℕ)) (fault : HookFault)
    → old ≡ after_lines opened (ended_lines input) → line ≡ kept_of (open_line input) → Appends before between (text_for opened (ended_lines input))
    → NoLineMeetsFull opened (ended_lines input) → IsAnswered (Err fault) old line new between after → StopsBehind fault opened input new before after
stops_behind opened input old new line before between after (Gate fault) is kept written room refused = (
  stops_at fault old new _ line (open_line input) is kept refused.0,
  subst (Appends before after) (append-nil _) (Appends-trans before between after _ [] written refused.1),
  room,
)
stops_behind opened input old new line before between after Write is kept written room refused =
    let last = open_line input in
    let served = after_lines opened (ended_lines input) in
    let text = text_at old served line last is kept in (
      refused.0 ∙ after_at old served line last is kept,
      (
        refused.1.0,
        subst (λ (t : List ℕ). refused.1.0 < length t) text refused.1.1,
        Appends-trans before between after _ _ written (subst (λ (t : List ℕ). Appends between after (take refused.1.0 t)) text refused.1.2),
      ),
      room-push opened (ended_lines input) last room (sym (room_at old served line last is kept) ∙ refused.2),
    )
stops_behind opened input old new line before between after Read is kept written room refused = refused
stops_behind opened input old new line before between after TooMuch is kept written room refused = refused

pub stops : (old_sound sound : Type 0) (opened : Records) (input : List ℕ) (old new : Records) (line : List ℕ) (count : ℕ)
    (before between after : Option (List ℕ)) (fault : HookFault)
    → (sound → old_sound) → IsUpTo old_sound opened input old line count before between → (sound → IsAnswered (Err fault) old line new between after)
    → sound → StopsBehind fault opened input new before after
stops old_sound sound opened input old new line count before between after fault was so_far refused premise =
    stops_behind opened input old new line before between after fault (so_far.records (was premise)) so_far.line (so_far.written (was premise)) (so_far.room (was premise)) (refused premise)

-- What was written before a fault of the gate is still what is written.
told_behind : (opened : Records) (input : List ℕ) (before between after : Option (List ℕ)) (fault : HookFault)
    → Appends before between (text_for opened (ended_lines input)) → NoLineMeetsFull opened (ended_lines input) → (IsOfGate fault → after ≡ between)
    → ToldBehind fault opened input before after
told_behind opened input before between after (Gate fault) written room unwritten =
    (subst (λ (last : Option (List ℕ)). Appends before last (text_for opened (ended_lines input))) (sym (unwritten (fault, refl))) written, room)
told_behind opened input before between after Read written room unwritten = tt
told_behind opened input before between after Write written room unwritten = tt
told_behind opened input before between after TooMuch written room unwritten = tt

pub tells : (sound : Type 0) (opened : Records) (input : List ℕ) (now : Records) (line : List ℕ) (count : ℕ) (before between after : Option (List ℕ)) (fault : HookFault)
    → IsUpTo sound opened input now line count before between → (IsOfGate fault → after ≡ between) → sound → ToldBehind fault opened input before after
tells sound opened input now line count before between after fault so_far unwritten premise =
    told_behind opened input before between after fault (so_far.written premise) (so_far.room premise) unwritten
