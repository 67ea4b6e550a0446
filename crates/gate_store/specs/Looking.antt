-- A LOOK AT THE GATE of a keeper, which it lends.
use Rattle.std.specs.Prelude.{◌≡◌, List, Result, IfErr, IfOk, OnOk}
use Rattle.std.specs.Borrow.{Bor}
use Rattle.gate_queue.specs.History.{Entry, Legal, StateTells}
use Rattle.gate_queue.specs.declared.fault.Fault.{Fault}
use Rattle.gate_state.specs.declared.state.State.{State}
use Rattle.gate_store.specs.Outlasting.{Outlasts, RemainsSound}
use Rattle.gate_store.specs.Run.{IsOfBooks, OrMemory}
use Rattle.gate_store.specs.declared.book.Book as book

-- A gate that is given away, or copied: it is the state that the book shows, and nothing is changed.
pub record GivesGate {B : Type 0} (g : book.Ghosts B) (old new : B) (result : Result State Fault) : Type 0 where
  pub gate : g.is_sound new → IfOk result (λ gate. gate ≡ (g.shows old).state)
  pub same : g.is_sound new → g.shows new ≡ g.shows old
  pub outlasts : Outlasts g old new
  pub stays : RemainsSound g old new (OnOk result)
  pub cause : IfErr result (OrMemory g.may_answer)
  pub fault : IfErr result IsOfBooks

-- What the look has shown of the keeper's book, and what the book is after it, once the gate is given back: it is as it was, and the
-- gate was its state.
pub record Looked {B : Type 0} (g : book.Ghosts B) (old new : B) (result : Result (Bor State) Fault) : Type 0 where
  pub gate : g.is_sound new → IfOk result (λ gate. gate.now ≡ (g.shows old).state)
  -- People, changes and their marks are those of the history, whatever history led to the state.
  pub history : g.is_sound new → IfOk result (λ gate. (history : List Entry) → Legal history (g.shows old).state → StateTells history gate.now)
  pub same : g.is_sound new → g.shows new ≡ g.shows old
  pub outlasts : Outlasts g old new
  pub stays : RemainsSound g old new (OnOk result)
