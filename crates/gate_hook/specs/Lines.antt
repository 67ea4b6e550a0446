-- LINES: what is written for the lines that were read. A text is seen whole; the code takes it byte by byte.
use Rattle.std.specs.Prelude.{◌≡◌, ◌⊎◌, ℕ, ◌+◌, ◌<◌, ◌≤◌, ◌==◌, ◌&&◌, not, nat_lt, ⊤, List, [], ◌∷◌, ◌++◌, length, take, Bool, true, false, Option, Result, Ok, Err, IfErr, OnOk, is_ok, codes, if◌then◌else◌}
use Rattle.std.specs.Io.KnownBytes.{Appends, Consumes, IsAtEnd}
use Rattle.gate_queue.specs.declared.fault.Fault.{Fault}
use Rattle.gate_queue.specs.declared.fault.Fault.TheVariants.{Memory, Store, Full, Foreign}
use Rattle.gate_answers.specs.Answers.{answer_text_of}
use Rattle.gate_store.specs.Outlasting.{Outlasts}
use Rattle.gate_store.specs.Run.{Records, answer_to, after_delivery, meets_full, IsOfKeepers, IsOpenAfter}
use Rattle.gate_store.specs.declared.book.Book as book
use Rattle.gate_deliveries.specs.declared.delivery.Delivery.{Delivery}
use Rattle.gate_deliveries.specs.Errors.{error_text_of}
use Rattle.gate_deliveries.specs.Deliveries.{delivery_of}
use Rattle.gate_hook.specs.declared.fault.HookFault.{HookFault}
use Rattle.gate_hook.specs.declared.fault.HookFault.TheVariants.{Gate, Read, Write, TooMuch}
use Rattle.gate_deliveries.specs.declared.reading.DeliveryFault.{DeliveryFault}

-- THE LINES OF A TEXT
abbrev pub begin_with : ℕ → List (List ℕ) → List (List ℕ)
begin_with b [] = []
begin_with b (line ∷ lines) = (b ∷ line) ∷ lines

-- the lines that a line feed ends, without it
abbrev pub ended_lines : List ℕ → List (List ℕ)
ended_lines [] = []
ended_lines (b ∷ bs) = if b == 10 then [] ∷ ended_lines bs else begin_with b (ended_lines bs)

-- what stands behind the last line feed
abbrev pub open_line : List ℕ → List ℕ
open_line [] = []
open_line (b ∷ bs) = if (length (ended_lines bs) == 0) && not (b == 10) then b ∷ open_line bs else open_line bs

-- bytes behind the last line feed are a line, if there are any
abbrev pub last_line : List ℕ → List (List ℕ)
last_line [] = []
last_line (b ∷ bs) = (b ∷ bs) ∷ []

abbrev pub lines_of : List ℕ → List (List ℕ)
lines_of text = ended_lines text ++ last_line (open_line text)

-- WHAT A LINE IS ANSWERED
abbrev pub max_line : ℕ
max_line = 65536

-- of a line that is too long one byte more is kept, which shows it
abbrev pub max_kept : ℕ
max_kept = max_line + 1

abbrev pub is_too_long : List ℕ → Bool
is_too_long line = nat_lt max_line (length line)

abbrev pub too_long_text : List ℕ
too_long_text = codes "{\"error\":\"LineTooLong\",\"number\":5}"

-- by what the line was read as: a delivery by its answer, and a line that is none by its error
abbrev pub text_answered : Records → Result Delivery DeliveryFault → List ℕ
text_answered records (Ok delivery) = answer_text_of (answer_to records delivery)
text_answered records (Err fault) = error_text_of fault

abbrev pub line_text : Records → List ℕ → List ℕ
line_text records line = if is_too_long line then too_long_text else text_answered records (delivery_of line)

abbrev pub is_delivery : List ℕ → Bool
is_delivery line = if is_too_long line then false else is_ok (delivery_of line)

-- the records after it: a line that is no delivery changes nothing
abbrev pub after_reading : Records → Result Delivery DeliveryFault → Records
after_reading records (Ok delivery) = after_delivery records delivery
after_reading records (Err fault) = records

abbrev pub after_line : Records → List ℕ → Records
after_line records line = if is_too_long line then records else after_reading records (delivery_of line)

-- whether it is a delivery of which an act meets a full gate
abbrev pub reading_meets_full : Records → Result Delivery DeliveryFault → Bool
reading_meets_full records (Ok delivery) = meets_full records delivery
reading_meets_full records (Err fault) = false

abbrev pub line_meets_full : Records → List ℕ → Bool
line_meets_full records line = if is_too_long line then false else reading_meets_full records (delivery_of line)

-- LINES IN ORDER: each line's text and a line feed, and the records after all
abbrev pub text_for : Records → List (List ℕ) → List ℕ
text_for records [] = []
text_for records (line ∷ lines) = (line_text records line ++ 10 ∷ []) ++ text_for (after_line records line) lines

abbrev pub after_lines : Records → List (List ℕ) → Records
after_lines records [] = records
after_lines records (line ∷ lines) = after_lines (after_line records line) lines

-- none of the lines, each after those before it, is a delivery of which an act meets a full gate
abbrev pub NoLineMeetsFull : Records → List (List ℕ) → Type 0
NoLineMeetsFull records [] = ⊤
NoLineMeetsFull records (line ∷ lines) = (line_meets_full records line ≡ false) × NoLineMeetsFull (after_line records line) lines

-- WHAT SERVING LEAVES, of the input that was consumed
abbrev pub max_input : ℕ
max_input = 4294967296

-- the lines were served, one after the other: these records, this text written, and no full gate met
abbrev pub HasServed : Records → List (List ℕ) → Records → Option (List ℕ) → Option (List ℕ) → Type 0
HasServed old lines new before after = (new ≡ after_lines old lines) × Appends before after (text_for old lines) × NoLineMeetsFull old lines

-- The faults that may end serving: of those of the gate, the ones that a keeper may answer.
abbrev pub MayEnd : (Fault → Type 0) → HookFault → Type 0
MayEnd may_answer (Gate fault) = IsOfKeepers may_answer fault
MayEnd may_answer Read = ⊤
MayEnd may_answer Write = ⊤
MayEnd may_answer TooMuch = ⊤

-- The faults that a line may cause: memory may be wanting at any line, the records fail only at a delivery, and `Full` comes only
-- at one of which an act meets a full gate.
abbrev pub MayCause : Records → List ℕ → Fault → Type 0
MayCause records line Memory = ⊤
MayCause records line Store = is_delivery line ≡ true
MayCause records line Full = line_meets_full records line ≡ true
MayCause records line Foreign = ⊥

-- A fault at a line that comes after those served: nothing of its answer is written. Nothing has changed, and the line may cause
-- the fault; or the line has acted and its answer is kept, but there was no memory for its text.
abbrev pub StopsAtLine : Fault → Records → List ℕ → Records → Type 0
StopsAtLine fault old line new =
    ((new ≡ old) × MayCause old line fault) ⊎ ((fault ≡ Memory) × (new ≡ after_line old line) × (line_meets_full old line ≡ false))

-- these lines are the first that are complete: line feeds ended them; or they are all, and the input is at its end
abbrev pub AreComplete : List ℕ → Option (List ℕ) → List (List ℕ) → Type 0
AreComplete input left lines =
    ((others : List (List ℕ)) × (ended_lines input ≡ lines ++ others)) ⊎ ((lines_of input ≡ lines) × IsAtEnd left)

-- A fault of the gate came at a line, and nothing of its answer is written: only the answers to the lines before it are.
pub record HasTold (old : Records) (input : List ℕ) (left before after : Option (List ℕ)) : Type 0 where
  pub served : List (List ℕ)
  pub line : List ℕ
  pub complete : AreComplete input left (served ++ line ∷ [])
  pub written : Appends before after (text_for old served)
  pub room : NoLineMeetsFull old served

pub record StopsAtGate (fault : Fault) (old : Records) (input : List ℕ) (left : Option (List ℕ)) (new : Records) (before after : Option (List ℕ)) : Type 0 where
  pub told : HasTold old input left before after
  pub records : StopsAtLine fault (after_lines old told.served) told.line new

-- The writer refused a line's text, or what was left of it: a part from its front is written, but not all, and the line
-- has acted.
pub record StopsAtWrite (old : Records) (input : List ℕ) (left : Option (List ℕ)) (new : Records) (before after : Option (List ℕ)) : Type 0 where
  pub served : List (List ℕ)
  pub line : List ℕ
  pub complete : AreComplete input left (served ++ line ∷ [])
  pub records : new ≡ after_line (after_lines old served) line
  pub taken : ℕ
  pub part : taken < length (line_text (after_lines old served) line ++ 10 ∷ [])
  pub written : Appends before after (text_for old served ++ take taken (line_text (after_lines old served) line ++ 10 ∷ []))
  pub room : NoLineMeetsFull old (served ++ line ∷ [])

abbrev pub IsServed : Result ℕ HookFault → Records → List ℕ → Option (List ℕ) → Records → Option (List ℕ) → Option (List ℕ) → Type 0
-- all lines are answered, and counted
IsServed (Ok count) old input left new before after = (count ≡ length (lines_of input)) × HasServed old (lines_of input) new before after
-- the reader failed: a line that isn't complete is dropped
IsServed (Err Read) old input left new before after = HasServed old (ended_lines input) new before after
-- there is more input than may be read: the lines that end within the limit are answered
IsServed (Err TooMuch) old input left new before after = HasServed old (ended_lines (take max_input input)) new before after
-- a delivery met a fault, or there was no memory for a line or its answer
IsServed (Err (Gate fault)) old input left new before after = StopsAtGate fault old input left new before after
IsServed (Err Write) old input left new before after = StopsAtWrite old input left new before after

-- WHAT SERVING LEAVES OVER A BOOK THAT WAS SOUND, and is honest still. Only `Memory` and `Store` may have shut it, and the answers to
-- the lines before are written then too. After anything else it is sound.
abbrev pub Serves : (sound : Type 0) → Result ℕ HookFault → Records → List ℕ → Option (List ℕ) → Records → Option (List ℕ) → Option (List ℕ) → Type 0
Serves sound (Ok count) old input left new before after = sound × IsServed (Ok count) old input left new before after
Serves sound (Err Read) old input left new before after = sound × IsServed (Err Read) old input left new before after
Serves sound (Err TooMuch) old input left new before after = sound × IsServed (Err TooMuch) old input left new before after
Serves sound (Err Write) old input left new before after = sound × IsServed (Err Write) old input left new before after
Serves sound (Err (Gate fault)) old input left new before after =
    HasTold old input left before after × IsOpenAfter fault sound × (sound → IsServed (Err (Gate fault)) old input left new before after)

-- how much of the input was consumed: never more than the limit, but for the one byte that shows that there is more
abbrev pub IsWithinLimit : Result ℕ HookFault → List ℕ → Type 0
IsWithinLimit (Ok count) input = length input ≤ max_input
IsWithinLimit (Err (Gate fault)) input = length input ≤ max_input
IsWithinLimit (Err Read) input = length input ≤ max_input
IsWithinLimit (Err Write) input = length input ≤ max_input
IsWithinLimit (Err TooMuch) input = length input ≡ max_input + 1

-- ALL OF IT, over a book: some input was consumed, within the limit; `all` is what the reader had, and `left` what it still has. If the
-- book is sound, what is written is the text for the lines of that input. If it was sound, and is honest still, so are the answers before a
-- fault that has shut it.
abbrev pub ServesLines : {B : Type 0} → book.Ghosts B → B → B → Result ℕ HookFault → (all left before after : Option (List ℕ)) → Type 0
ServesLines g old new result all left before after =
    (input : List ℕ) × Consumes all left input × IsWithinLimit result input
    × (g.is_sound new → IsServed result (g.shows old) input left (g.shows new) before after)
    × (g.is_sound old → g.is_honest new → Serves (g.is_sound new) result (g.shows old) input left (g.shows new) before after)

-- What every call says that reads lines over a book to the end.
pub record ReadsLines {B X : Type 0} (g : book.Ghosts B) (old new : B) (result : Result X HookFault) (left : Option (List ℕ)) : Type 0 where
  -- It succeeds at the end of the input alone.
  pub end : OnOk result (IsAtEnd left)
  -- A fault of the gate is one that the keeper may answer.
  pub cause : IfErr result (MayEnd g.may_answer)
  -- A book that is sound in the end was sound before, one that is honest was so, and one that was shielded still is.
  pub outlasts : Outlasts g old new
