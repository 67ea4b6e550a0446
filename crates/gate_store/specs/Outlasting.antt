-- WHAT A CALL ON A BOOK SAYS of the book's premise, and of what it commits.
use Rattle.std.specs.Prelude.{Result}
use Rattle.gate_queue.specs.declared.fault.Fault.{Fault}
use Rattle.gate_store.specs.Calls.{Commits}
use Rattle.gate_store.specs.Premise.{PremiseLasts}
use Rattle.gate_store.specs.Run.{Records}
use Rattle.gate_store.specs.declared.book.Book as book

-- The premise of a book outlasts a call.
abbrev pub Outlasts : {B : Type 0} → book.Ghosts B → B → B → Type 0
Outlasts g old new = PremiseLasts g.is_sound g.is_honest g.is_shielded old new

-- A book that was sound, if it was honest, is sound if it is honest, unless a fault says otherwise.
abbrev pub RemainsSound : {B : Type 0} → book.Ghosts B → B → B → (Type 0 → Type 0) → Type 0
RemainsSound g old new unless = (g.is_honest old → g.is_sound old) → g.is_honest new → unless (g.is_sound new)

-- A book commits these records, or changes nothing.
abbrev pub CommitsBook : {B T : Type 0} → book.Ghosts B → B → B → Result T Fault → Records → Type 0
CommitsBook g old new result after = Commits g.shows g.is_sound g.is_honest g.is_shielded g.may_answer old new result after
