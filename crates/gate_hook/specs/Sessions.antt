-- A SESSION of `serve_lines`: what each of its steps says, for private clauses. `old` is the session before the step, and `new` after it.
use Rattle.std.specs.Prelude.{◌≡◌, ℕ, List, [], Option, Result, IfErr}
use Rattle.std.specs.Io.KnownBytes.{Consumes, IsAtEnd}
use Rattle.gate_queue.specs.declared.fault.Fault.{Fault}
use Rattle.gate_store.specs.Outlasting.{Outlasts, RemainsSound}
use Rattle.gate_store.specs.Run.{Records}
use Rattle.gate_store.specs.declared.book.Book as book
use Rattle.gate_hook.specs.Lines.{IsServed, IsWithinLimit, ServesLines}
use Rattle.gate_hook.specs.Serving.{IsAnswered, IsOfGate, IsTold, IsUpTo, StaysSound, TakesByte, TakesBytes}
use Rattle.gate_hook.specs.declared.fault.HookFault.{HookFault}
use Rattle.gate_hook.specs.declared.lines.Session.{Session}

-- It is of the same keeper and the same writer, and the premise of the book outlasts it.
pub record Turns {B W : Type 0} (g : book.Ghosts B) (old new : Session B W) : Type 0 where
  pub outlasts : Outlasts g old.keeper.now new.keeper.now
  pub same_keeper : new.keeper.ghost_name ≡ old.keeper.ghost_name
  pub same_writer : new.writer.ghost_name ≡ old.writer.ghost_name

-- WHAT EVERY STEP SAYS of the session: besides that, a book that was sound, if it was honest, is so still, unless a fault has shut it; and
-- a fault is one of these.
pub record Steps {B W X : Type 0} (g : book.Ghosts B) (may_come : (Fault → Type 0) → HookFault → Type 0) (old new : Session B W) (result : Result X HookFault) : Type 0 where
  pub turns : Turns g old new
  pub stays : RemainsSound g old.keeper.now new.keeper.now (StaysSound result)
  pub cause : IfErr result (may_come g.may_answer)

-- WHAT ANSWERING A LINE SAYS: the line that is open is answered, and stays. At a fault of the gate nothing is written.
pub record AnswersLine {B W : Type 0} (g : book.Ghosts B) (contents : W → Option (List ℕ)) (old new : Session B W) (result : Result (Unit {0}) HookFault) : Type 0 where
  pub answered : g.is_sound new.keeper.now
      → IsAnswered result (g.shows old.keeper.now) old.line (g.shows new.keeper.now) (contents old.writer.now) (contents new.writer.now)
  pub unwritten : IfErr result (λ fault. IsOfGate fault → contents new.writer.now ≡ contents old.writer.now)
  pub line : new.line ≡ old.line
  pub count : new.count ≡ old.count

module _ {B W : Type 0} (g : book.Ghosts B) (contents : W → Option (List ℕ)) where
  -- from these records on, this input is served up to its last line feed
  abbrev pub HasServedUpTo : Session B W → Records → List ℕ → Option (List ℕ) → Type 0
  HasServedUpTo s opened input before =
      IsUpTo (g.is_sound s.keeper.now) opened input (g.shows s.keeper.now) s.line s.count before (contents s.writer.now)

  -- nothing is served yet
  abbrev pub HasBegun : Session B W → Type 0
  HasBegun s = HasServedUpTo s (g.shows s.keeper.now) [] (contents s.writer.now)

  -- whether what was told before a fault holds
  abbrev pub IsHonestStill : Session B W → Session B W → Type 0
  IsHonestStill old new = (g.is_honest old.keeper.now → g.is_sound old.keeper.now) × g.is_honest new.keeper.now

  module _ (old new : Session B W) where
    -- one more byte is taken, or more,
    abbrev pub TakesOne : Result (Unit {0}) HookFault → ℕ → Type 0
    TakesOne result byte = (opened : Records) (input : List ℕ) (before : Option (List ℕ)) → HasServedUpTo old opened input before
        → TakesByte (g.is_sound new.keeper.now) (IsHonestStill old new) result opened input byte
        (g.shows new.keeper.now) new.line new.count before (contents new.writer.now)

    abbrev pub TakesAll : Result (Unit {0}) HookFault → List ℕ → Type 0
    TakesAll result bytes = (opened : Records) (input : List ℕ) (before : Option (List ℕ)) → HasServedUpTo old opened input before
        → TakesBytes (g.is_sound new.keeper.now) (IsHonestStill old new) result opened input bytes
        (g.shows new.keeper.now) new.line new.count before (contents new.writer.now)

    -- at the end of the input the last line is served too,
    abbrev pub ServesLast : Result ℕ HookFault → Type 0
    ServesLast result = (opened : Records) (input : List ℕ) (left before : Option (List ℕ)) → HasServedUpTo old opened input before
        → IsAtEnd left → g.is_sound new.keeper.now → IsServed result opened input left (g.shows new.keeper.now) before (contents new.writer.now)

    abbrev pub TellsLast : Result ℕ HookFault → Type 0
    TellsLast result = (opened : Records) (input : List ℕ) (left before : Option (List ℕ)) → HasServedUpTo old opened input before
        → IsAtEnd left → (g.is_honest old.keeper.now → g.is_sound old.keeper.now) → g.is_honest new.keeper.now
        → IsTold result opened input left before (contents new.writer.now)

    -- and all of an input, of which so much was left, and so much still is
    abbrev pub ServesInput : Result ℕ HookFault → Option (List ℕ) → Option (List ℕ) → Type 0
    ServesInput result all left = (input : List ℕ) × Consumes all left input
        × IsWithinLimit result input
        × (g.is_sound new.keeper.now
        → IsServed result (g.shows old.keeper.now) input left (g.shows new.keeper.now) (contents old.writer.now) (contents new.writer.now))
        × ((g.is_honest old.keeper.now → g.is_sound old.keeper.now) → g.is_honest new.keeper.now
        → IsTold result (g.shows old.keeper.now) input left (contents old.writer.now) (contents new.writer.now))

    abbrev pub ServesAll : Result ℕ HookFault → Option (List ℕ) → Option (List ℕ) → Type 0
    ServesAll result all left = ServesLines g old.keeper.now new.keeper.now result all left (contents old.writer.now) (contents new.writer.now)
