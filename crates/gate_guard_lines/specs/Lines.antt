-- LINES: what is written for the lines that were read. They are the lines of `gate run`, and act as they do there (gate_hook, `Lines`).
-- What is written besides is what a host has to do then.
use Rattle.std.specs.Prelude.{◌≡◌, ◌⊎◌, ◌<◌, ℕ, List, [], ◌∷◌, ◌++◌, Option, Result, Ok, Err, IfSome, if◌then◌else◌, length, take}
use Rattle.std.specs.Io.KnownBytes.{Appends}
use Rattle.gate_deliveries.specs.Deliveries.{delivery_of}
use Rattle.gate_deliveries.specs.Errors.{error_text_of}
use Rattle.gate_deliveries.specs.declared.delivery.Delivery.{Delivery}
use Rattle.gate_deliveries.specs.declared.reading.DeliveryFault.{DeliveryFault}
use Rattle.gate_guard.specs.Duties.{duties_of}
use Rattle.gate_guard_lines.specs.Text.{told_text_of}
use Rattle.gate_hook.specs.Lines.{NoLineMeetsFull, after_line, after_lines, is_too_long, lines_of, too_long_text}
use Rattle.gate_hook.specs.declared.fault.HookFault.{HookFault}
use Rattle.gate_hook.specs.declared.fault.HookFault.TheVariants.{Gate, Read, TooMuch, Write}
use Rattle.gate_store.specs.Run.{Records, after_delivery, answer_to}

-- a delivery by its answer and the duties after it, and a line that is none by its error
abbrev pub text_told : Records → Result Delivery DeliveryFault → List ℕ
text_told records (Ok delivery) = told_text_of (answer_to records delivery) (duties_of (after_delivery records delivery).state)
text_told records (Err fault) = error_text_of fault

abbrev pub line_told : Records → List ℕ → List ℕ
line_told records line = if is_too_long line then too_long_text else text_told records (delivery_of line)

-- LINES IN ORDER: each line's text and a line feed
abbrev pub lines_told : Records → List (List ℕ) → List ℕ
lines_told records [] = []
lines_told records (line ∷ lines) = (line_told records line ++ 10 ∷ []) ++ lines_told (after_line records line) lines

-- AT A FAULT the next of these lines may have acted.
pub record ActsOn (at now : Records) (others : List (List ℕ)) : Type 0 where
  pub next : List ℕ
  pub later : List (List ℕ)
  pub comes : others ≡ next ∷ later
  pub acted : now ≡ after_line at next

-- A part from the front of a text, but not all of it
abbrev pub IsCut : List ℕ → List ℕ → Type 0
IsCut text part = (taken : ℕ) × (taken < length text) × (part ≡ take taken text)

-- How a fault leaves the lines that come next. After one of the gate's the first of them has acted, or it hasn't, and nothing of its text is
-- written. After `Write` it has acted, and a part of its text is written. After the others it hasn't come.
abbrev pub StopsWith : HookFault → (at now : Records) → List (List ℕ) → (part : List ℕ) → Type 0
StopsWith (Gate fault) at now others part = ((now ≡ at) ⊎ ActsOn at now others) × (part ≡ [])
StopsWith Write at now others part = (acts : ActsOn at now others) × IsCut (line_told at acts.next ++ 10 ∷ []) part
StopsWith Read at now others part = (now ≡ at) × (part ≡ [])
StopsWith TooMuch at now others part = (now ≡ at) × (part ≡ [])

-- Some first lines are told, none of which met a full gate, and it leaves the others so.
pub record StopsAmong (fault : HookFault) (old now : Records) (input : List ℕ) (before after : Option (List ℕ)) : Type 0 where
  pub lines : List (List ℕ)
  pub others : List (List ℕ)
  pub first : lines_of input ≡ lines ++ others
  pub room : NoLineMeetsFull old lines
  pub part : List ℕ
  pub stops : StopsWith fault (after_lines old lines) now others part
  pub written : Appends before after (lines_told old lines ++ part)

-- WHAT IS TOLD of an input: all of its lines, none of which met a full gate, unless a fault has come.
abbrev pub IsTold : Result ℕ HookFault → (old new : Records) → List ℕ → (before after : Option (List ℕ)) → Type 0
IsTold (Ok count) old new input before after =
    (new ≡ after_lines old (lines_of input)) × NoLineMeetsFull old (lines_of input) × Appends before after (lines_told old (lines_of input))
IsTold (Err fault) old new input before after = StopsAmong fault old new input before after

-- The input is what a reader has, if it tells its bytes. If it doesn't, there is some input.
abbrev pub IsInputOf : Option (List ℕ) → List ℕ → Type 0
IsInputOf all input = IfSome all (λ bytes. input ≡ bytes)
