-- WHAT EACH STEP SAYS of the keeper's book, for private clauses.
use Rattle.std.specs.Prelude.{◌≡◌, ◌≢◌, ◌⊎◌, ◌∷◌, ◌++◌, ℕ, Bool, false, List, [], Option, Some, Result, IfErr, IfOk, IfSome, OnErr, OnOk, String}
use Rattle.std.specs.Io.KnownBytes.{Appends}
use Rattle.std.specs.List.{All}
use Rattle.std.specs.String.{string_bytes}
use Rattle.gate_deliveries.specs.declared.delivery.Delivery.{Delivery}
use Rattle.gate_deliveries.specs.declared.reading.DeliveryFault.{DeliveryFault}
use Rattle.gate_guard.specs.Duties.{duties_of}
use Rattle.gate_guard.specs.declared.duty.Duties.{Duties}
use Rattle.gate_guard_lines.specs.Lines.{line_told, lines_told, text_told}
use Rattle.gate_guard_lines.specs.Text.{told_text_of}
use Rattle.gate_hook.specs.Lines.{NoLineMeetsFull, after_line, after_lines, after_reading, line_meets_full, lines_of, reading_meets_full}
use Rattle.gate_queue.specs.declared.fault.Fault.{Fault}
use Rattle.gate_store.specs.Outlasting.{Outlasts, RemainsSound}
use Rattle.gate_store.specs.Run.{IsOfBooks, IsOfKeepers, OrMemory, Records, StaysOpen, after_delivery, answer_to, meets_full}
use Rattle.gate_store.specs.declared.book.Book as book

-- The duties are those of the state, and nothing is changed.
pub record FindsDuties {B : Type 0} (g : book.Ghosts B) (old new : B) (result : Result Duties Fault) : Type 0 where
  pub duties : g.is_sound new → IfOk result (λ duties. duties ≡ duties_of (g.shows old).state)
  pub same : g.is_sound new → g.shows new ≡ g.shows old
  pub outlasts : Outlasts g old new
  pub stays : RemainsSound g old new (OnOk result)
  pub cause : IfErr result (OrMemory g.may_answer)
  pub fault : IfErr result IsOfBooks

-- A text is made, and then the records are these, and no full gate was met. At a fault nothing has changed, or the records are these and there is
-- no text.
pub record MakesText {A B : Type 0} (g : book.Ghosts B) (old new : B) (text_then : List ℕ) (after : Records) (met : Bool) (result : Result (String A) Fault) : Type 0 where
  pub text : g.is_sound new → IfOk result (λ text. string_bytes text ≡ text_then)
  pub records : g.is_sound new → OnOk result (g.shows new ≡ after)
  pub room : g.is_sound new → OnOk result (met ≡ false)
  pub stops : g.is_sound new → OnErr result ((g.shows new ≡ g.shows old) ⊎ (g.shows new ≡ after))
  pub outlasts : Outlasts g old new
  pub stays : RemainsSound g old new (StaysOpen result)
  pub cause : IfErr result (IsOfKeepers g.may_answer)

-- the text of a delivery
abbrev pub TellsDelivery : {A B : Type 0} → book.Ghosts B → B → B → Delivery → Result (String A) Fault → Type 0
TellsDelivery g old new delivery result =
    MakesText g old new (told_text_of (answer_to (g.shows old) delivery) (duties_of (after_delivery (g.shows old) delivery).state)) (after_delivery (g.shows old) delivery)
    (meets_full (g.shows old) delivery) result

-- the text of what a line was read as, with its line feed
abbrev pub TellsReading : {A B : Type 0} → book.Ghosts B → B → B → Result Delivery DeliveryFault → Result (String A) Fault → Type 0
TellsReading g old new reading result =
    MakesText g old new (text_told (g.shows old) reading ++ 10 ∷ []) (after_reading (g.shows old) reading) (reading_meets_full (g.shows old) reading) result

-- the same of a line
abbrev pub TellsLine : {A B : Type 0} → book.Ghosts B → B → B → List ℕ → Result (String A) Fault → Type 0
TellsLine g old new line result =
    MakesText g old new (line_told (g.shows old) line ++ 10 ∷ []) (after_line (g.shows old) line) (line_meets_full (g.shows old) line) result

-- a line without line feeds
abbrev pub IsPlain : List ℕ → Type 0
IsPlain line = All (λ byte. byte ≢ 10) line

-- These lines are the first of an input, of which these bytes are left.
abbrev pub AreFirst : List (List ℕ) → List ℕ → (left : Option (List ℕ)) → Type 0
AreFirst lines input left = (rest : List ℕ) × (left ≡ Some rest) × (lines_of input ≡ lines ++ lines_of rest)

-- SOME LINES are told, none of which has a line feed. If the reader tells its bytes, they are the first ones.
pub record TellsLines (old now : Records) (all left before after : Option (List ℕ)) : Type 0 where
  pub lines : List (List ℕ)
  pub plain : All IsPlain lines
  pub first : IfSome all (λ input. AreFirst lines input left)
  pub records : now ≡ after_lines old lines
  pub room : NoLineMeetsFull old lines
  pub written : Appends before after (lines_told old lines)

abbrev pub TellsSoFar : {B : Type 0} → book.Ghosts B → B → B → (all left before after : Option (List ℕ)) → Type 0
TellsSoFar g old now all left before after = g.is_sound now → TellsLines (g.shows old) (g.shows now) all left before after

-- known bytes stay known
abbrev pub StaysKnown : (all left : Option (List ℕ)) → Type 0
StaysKnown all left = IfSome all (λ input. (rest : List ℕ) × (left ≡ Some rest))
