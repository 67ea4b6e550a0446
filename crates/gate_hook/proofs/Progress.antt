-- Serving goes on line by line.
use Rattle.std.proofs.Common.{◌≡◌, ℕ, false, List, [], ◌∷◌, ◌++◌, refl, sym, ◌∙◌, ap, append_assoc}
use Rattle.gate_store.specs.Run.{Records}
use Rattle.gate_hook.specs.Lines.{line_text, after_line, line_meets_full, text_for, after_lines, NoLineMeetsFull}

pub after_lines-append : (records : Records) (lines others : List (List ℕ)) → after_lines records (lines ++ others) ≡ after_lines (after_lines records lines) others
after_lines-append records [] others = refl
after_lines-append records (line ∷ lines) others = after_lines-append (after_line records line) lines others

pub text_for-append : (records : Records) (lines others : List (List ℕ))
    → text_for records (lines ++ others) ≡ text_for records lines ++ text_for (after_lines records lines) others
text_for-append records [] others = refl
text_for-append records (line ∷ lines) others =
    ap (λ (rest : List ℕ). (line_text records line ++ 10 ∷ []) ++ rest) (text_for-append (after_line records line) lines others)
    ∙ sym (append_assoc (line_text records line ++ 10 ∷ []) (text_for (after_line records line) lines) _)

pub room-push : (records : Records) (lines : List (List ℕ)) (line : List ℕ)
    → NoLineMeetsFull records lines → line_meets_full (after_lines records lines) line ≡ false → NoLineMeetsFull records (lines ++ line ∷ [])
room-push records [] line none room = (room, tt)
room-push records (first ∷ lines) line (here, none) room = (here, room-push (after_line records first) lines line none room)
