-- Serving in mid-course, for the contracts of the functions that `serve_lines` is made of.
use Rattle.std.specs.Prelude.{◌≡◌, ◌<◌, ℕ, false, ⊤, List, [], ◌∷◌, ◌++◌, length, take, Option, Result, Ok, Err, IfErr, IfOk, OnOk, String}
use Rattle.std.specs.Io.KnownBytes.{Appends}
use Rattle.std.specs.String.{string_bytes}
use Rattle.gate_queue.specs.declared.fault.Fault.{Fault}
use Rattle.gate_store.specs.Outlasting.{Outlasts, RemainsSound}
use Rattle.gate_store.specs.Run.{Records, IsOfKeepers, IsOpenAfter, StaysOpen}
use Rattle.gate_store.specs.declared.book.Book as book
use Rattle.gate_hook.specs.Lines.{HasTold, ended_lines, open_line, line_text, after_line, line_meets_full, text_for, after_lines, NoLineMeetsFull, StopsAtLine, max_kept}
use Rattle.gate_hook.specs.Sending.{IsCutOff}
use Rattle.gate_hook.specs.declared.fault.HookFault.{HookFault}
use Rattle.gate_hook.specs.declared.fault.HookFault.TheVariants.{Gate, Read, Write, TooMuch}

-- The text of the answer to a line is made, with its line feed. Or it stops at a fault: nothing has changed, or the line has acted and
-- there was no memory left for its text.
pub record MakesAnswer {A B : Type 0} (g : book.Ghosts B) (old new : B) (line : List ℕ) (result : Result (String A) Fault) : Type 0 where
  pub text : g.is_sound new → IfOk result (λ text. string_bytes text ≡ line_text (g.shows old) line ++ 10 ∷ [])
  pub records : g.is_sound new → OnOk result (g.shows new ≡ after_line (g.shows old) line)
  pub room : g.is_sound new → OnOk result (line_meets_full (g.shows old) line ≡ false)
  pub stops : g.is_sound new → IfErr result (λ fault. StopsAtLine fault (g.shows old) line (g.shows new))
  pub outlasts : Outlasts g old new
  pub stays : RemainsSound g old new (StaysOpen result)
  pub cause : IfErr result (IsOfKeepers g.may_answer)

-- the faults that the answer to a line may meet, of which none is the reader's
abbrev pub MayStop : (Fault → Type 0) → HookFault → Type 0
MayStop may_answer (Gate fault) = IsOfKeepers may_answer fault
MayStop may_answer Write = ⊤
MayStop may_answer Read = ⊥
MayStop may_answer TooMuch = ⊥

-- a line was answered, or its answer was refused
abbrev pub IsAnswered : Result (Unit {0}) HookFault → Records → List ℕ → Records → Option (List ℕ) → Option (List ℕ) → Type 0
IsAnswered (Ok _) old line new before after =
    (new ≡ after_line old line) × Appends before after (line_text old line ++ 10 ∷ []) × (line_meets_full old line ≡ false)
IsAnswered (Err (Gate fault)) old line new before after = StopsAtLine fault old line new × Appends before after []
IsAnswered (Err Write) old line new before after =
    (new ≡ after_line old line) × IsCutOff (line_text old line ++ 10 ∷ []) before after × (line_meets_full old line ≡ false)
IsAnswered (Err Read) old line new before after = ⊥
IsAnswered (Err TooMuch) old line new before after = ⊥

-- the bytes that are kept of a line
abbrev pub kept_of : List ℕ → List ℕ
kept_of line = take max_kept line

-- All lines that end in the input are counted, and what follows the last is kept. If the book is sound, these lines are served.
pub record IsUpTo (sound : Type 0) (opened : Records) (input : List ℕ) (now : Records) (kept : List ℕ) (counted : ℕ) (before after : Option (List ℕ)) : Type 0 where
  pub records : sound → now ≡ after_lines opened (ended_lines input)
  pub line : kept ≡ kept_of (open_line input)
  pub count : counted ≡ length (ended_lines input)
  pub written : sound → Appends before after (text_for opened (ended_lines input))
  pub room : sound → NoLineMeetsFull opened (ended_lines input)

-- The answer to the line that is open was refused, and all before it are served.
abbrev pub StopsBehind : HookFault → Records → List ℕ → Records → Option (List ℕ) → Option (List ℕ) → Type 0
StopsBehind (Gate fault) opened input new before after =
    StopsAtLine fault (after_lines opened (ended_lines input)) (open_line input) new
    × Appends before after (text_for opened (ended_lines input)) × NoLineMeetsFull opened (ended_lines input)
StopsBehind Write opened input new before after =
    (new ≡ after_line (after_lines opened (ended_lines input)) (open_line input))
    × ((taken : ℕ) × (taken < length (line_text (after_lines opened (ended_lines input)) (open_line input) ++ 10 ∷ []))
    × Appends before after (text_for opened (ended_lines input) ++ take taken (line_text (after_lines opened (ended_lines input)) (open_line input) ++ 10 ∷ [])))
    × NoLineMeetsFull opened (ended_lines input ++ open_line input ∷ [])
StopsBehind Read opened input new before after = ⊥
StopsBehind TooMuch opened input new before after = ⊥

-- After a fault of the gate the answers to the lines before are written, and nothing besides.
abbrev pub ToldBehind : HookFault → Records → List ℕ → Option (List ℕ) → Option (List ℕ) → Type 0
ToldBehind (Gate fault) opened input before after =
    Appends before after (text_for opened (ended_lines input)) × NoLineMeetsFull opened (ended_lines input)
ToldBehind Read opened input before after = ⊤
ToldBehind Write opened input before after = ⊤
ToldBehind TooMuch opened input before after = ⊤

abbrev pub IsOfGate : HookFault → Type 0
IsOfGate fault = (of : Fault) × (fault ≡ Gate of)

-- the same of all lines
abbrev pub IsTold : {X : Type 0} → Result X HookFault → Records → List ℕ → Option (List ℕ) → Option (List ℕ) → Option (List ℕ) → Type 0
IsTold (Ok _) old input left before after = ⊤
IsTold (Err (Gate fault)) old input left before after = HasTold old input left before after
IsTold (Err Read) old input left before after = ⊤
IsTold (Err Write) old input left before after = ⊤
IsTold (Err TooMuch) old input left before after = ⊤

-- No fault of the reader or the writer shuts the book.
abbrev pub IsSoundAfter : HookFault → (sound : Type 0) → Type 0
IsSoundAfter (Gate fault) sound = IsOpenAfter fault sound
IsSoundAfter Read sound = sound
IsSoundAfter Write sound = sound
IsSoundAfter TooMuch sound = sound

abbrev pub StaysSound : {X : Type 0} → Result X HookFault → (sound : Type 0) → Type 0
StaysSound (Ok _) sound = sound
StaysSound (Err fault) sound = IsSoundAfter fault sound

-- one more byte; what was told before a fault holds of a book that is honest
abbrev pub TakesByte : (sound honest : Type 0) → Result (Unit {0}) HookFault → Records → List ℕ → ℕ → Records → List ℕ → ℕ → Option (List ℕ) → Option (List ℕ) → Type 0
TakesByte sound honest (Ok _) opened input byte now line count before after = IsUpTo sound opened (input ++ byte ∷ []) now line count before after
TakesByte sound honest (Err fault) opened input byte now line count before after =
    (byte ≡ 10) × (sound → StopsBehind fault opened input now before after) × (honest → ToldBehind fault opened input before after)

-- more bytes: the fault came at a line feed among them
pub record StopsWithin (sound honest : Type 0) (fault : HookFault) (opened : Records) (input taken : List ℕ) (now : Records) (before after : Option (List ℕ)) : Type 0 where
  pub front : List ℕ
  pub others : List ℕ
  pub bytes : taken ≡ front ++ 10 ∷ others
  pub stops : sound → StopsBehind fault opened (input ++ front) now before after
  pub told : honest → ToldBehind fault opened (input ++ front) before after

abbrev pub TakesBytes : (sound honest : Type 0) → Result (Unit {0}) HookFault → Records → List ℕ → List ℕ → Records → List ℕ → ℕ → Option (List ℕ) → Option (List ℕ) → Type 0
TakesBytes sound honest (Ok _) opened input bytes now line count before after = IsUpTo sound opened (input ++ bytes) now line count before after
TakesBytes sound honest (Err fault) opened input bytes now line count before after = StopsWithin sound honest fault opened input bytes now before after
