-- THE REPORT of an input: the text of the queue after its lines, over some records.
use Rattle.std.specs.Prelude.{◌≡◌, ◌<◌, ℕ, ⊤, true, List, [], ◌∷◌, ◌++◌, length, Option, Result, Ok, Err, IfErr, IfOk, OnOk, String}
use Rattle.std.specs.Io.KnownBytes.{Appends, Consumes}
use Rattle.std.specs.String.{string_bytes}
use Rattle.gate_hook.specs.Lines.{AreComplete, NoLineMeetsFull, after_lines, line_meets_full, lines_of, max_input}
use Rattle.gate_hook.specs.Sending.{IsCutOff}
use Rattle.gate_hook.specs.declared.fault.HookFault.{HookFault}
use Rattle.gate_hook.specs.declared.fault.HookFault.TheVariants.{Gate, Read, Write, TooMuch}
use Rattle.gate_queue.specs.declared.fault.Fault.{Fault}
use Rattle.gate_queue.specs.declared.fault.Fault.TheVariants.{Memory, Store, Full, Foreign}
use Rattle.gate_report.specs.Queue.{queue_text_of}
use Rattle.gate_store.specs.Outlasting.{Outlasts}
use Rattle.gate_store.specs.Run.{IsOfBooks, IsOfKeepers, Records}
use Rattle.gate_store.specs.declared.book.Book as book

abbrev pub report_of : Records → List ℕ → List ℕ
report_of records input = queue_text_of (after_lines records (lines_of input)).state

-- an act of one of the lines meets a full gate
abbrev pub StopsAtFull : Records → List ℕ → Option (List ℕ) → Type 0
StopsAtFull records input left =
    (served : List (List ℕ)) × (line : List ℕ) × AreComplete input left (served ++ line ∷ [])
    × (line_meets_full (after_lines records served) line ≡ true)

-- what may keep the text from being made, of the input that was consumed
abbrev pub MayMiss : Records → HookFault → List ℕ → Option (List ℕ) → Type 0
MayMiss records (Gate Memory) input left = ⊤
MayMiss records (Gate Store) input left = ⊤
MayMiss records (Gate Full) input left = StopsAtFull records input left
MayMiss records (Gate Foreign) input left = ⊥
MayMiss records Read input left = ⊤
MayMiss records Write input left = ⊤
MayMiss records TooMuch input left = max_input < length input

-- the text is made, no line met a full gate, and the records are those after the lines; or the text isn't made
abbrev pub IsMade : {A : Type 0} → Records → Result (String A) HookFault → List ℕ → Option (List ℕ) → Records → Type 0
IsMade {A} old (Ok text) input left new =
    (string_bytes text ≡ report_of old input) × NoLineMeetsFull old (lines_of input) × (new ≡ after_lines old (lines_of input))
IsMade {A} old (Err fault) input left new = MayMiss old fault input left

-- The report is written, or a part from its front if the writer refused the rest. After any other fault nothing is written.
abbrev pub IsReported : Records → Result (Unit {0}) HookFault → List ℕ → Option (List ℕ) → Option (List ℕ) → Option (List ℕ) → Type 0
IsReported records (Ok _) input left before after = Appends before after (report_of records input) × NoLineMeetsFull records (lines_of input)
IsReported records (Err Write) input left before after = IsCutOff (report_of records input) before after
IsReported records (Err (Gate fault)) input left before after = MayMiss records (Gate fault) input left × (after ≡ before)
IsReported records (Err Read) input left before after = after ≡ before
IsReported records (Err TooMuch) input left before after = (max_input < length input) × (after ≡ before)

-- OVER A BOOK. The text of its queue is made, and nothing changes.
pub record MakesQueue {A B : Type 0} (g : book.Ghosts B) (old new : B) (result : Result (String A) Fault) : Type 0 where
  pub text : g.is_sound new → IfOk result (λ text. string_bytes text ≡ queue_text_of (g.shows old).state)
  pub same : g.is_sound new → g.shows new ≡ g.shows old
  pub outlasts : Outlasts g old new
  pub cause : IfErr result (IsOfKeepers g.may_answer)
  pub fault : IfErr result IsOfBooks

-- If the book is sound, the text is that of the input which was read. `all` is what the reader had, and `left` what it still has.
abbrev pub MakesText : {A B : Type 0} → book.Ghosts B → B → B → Result (String A) HookFault → (all left : Option (List ℕ)) → Type 0
MakesText g old new result all left =
    (input : List ℕ) × Consumes all left input × (g.is_sound new → IsMade (g.shows old) result input left (g.shows new))

-- If the book is sound, the report is that of the input which was read, and the records are those after its lines.
abbrev pub Reports : {B : Type 0} → book.Ghosts B → B → B → Result (Unit {0}) HookFault → (all left before after : Option (List ℕ)) → Type 0
Reports g old new result all left before after =
    (input : List ℕ) × Consumes all left input
    × (g.is_sound new
    → IsReported (g.shows old) result input left before after × OnOk result (g.shows new ≡ after_lines (g.shows old) (lines_of input)))
