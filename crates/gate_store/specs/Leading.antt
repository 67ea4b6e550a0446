-- WHERE A CALL OF THE KEEPER LEADS: to these records, by these acts, of which one may meet a full gate, or nowhere.
use Rattle.std.specs.Prelude.{◌≡◌, Bool, List, Option, Result, IfErr, IfSome, OnErr, OnOk, drop, length, take}
use Rattle.gate_queue.specs.declared.fault.Fault.{Fault}
use Rattle.gate_state.specs.declared.act.Act.{Act}
use Rattle.gate_state.specs.declared.reply.Reply.{Reply}
use Rattle.gate_deliveries.specs.declared.delivery.Delivery.{Delivery}
use Rattle.gate_store.specs.Headline.{AllTell, acts_of_all, first_in}
use Rattle.gate_store.specs.Outlasting.{Outlasts}
use Rattle.gate_store.specs.Run.{AgreesOnFull, IsFullBefore, IsOfKeepers, IsOpenUnless, NoneMeetsFull, Records, StaysOpen, StopsBefore, acts_in, acts_meet_full, after_deliveries, after_delivery, answers_to, meets_full, new_acts, stepped}
use Rattle.gate_store.specs.declared.book.Book as book

pub record LeadsTo {B T : Type 0} (g : book.Ghosts B) (old new : B) (after : Records) (acts : List Act) (met : Bool) (result : Result T Fault) : Type 0 where
  -- The records are those of the run.
  pub book : g.is_sound new → OnOk result (g.shows new ≡ after)
  -- Each of these acts tells what the history says of it, from the state of before on.
  pub tells : g.is_sound new → OnOk result (AllTell (g.shows old).state acts)
  -- A fault changes nothing.
  pub err : g.is_sound new → OnErr result (g.shows new ≡ g.shows old)
  pub full : g.is_sound new → AgreesOnFull result met
  pub cause : IfErr result (IsOfKeepers g.may_answer)
  pub outlasts : Outlasts g old new
  pub stays : g.is_honest new → StaysOpen result (g.is_sound new)

-- a delivery is answered, or acts
abbrev pub Delivers : {B T : Type 0} → book.Ghosts B → B → B → Delivery → Result T Fault → Type 0
Delivers g old new delivery result =
    LeadsTo g old new (after_delivery (g.shows old) delivery) (new_acts (g.shows old) delivery) (meets_full (g.shows old) delivery) result

-- the acts of a delivery are performed and kept, as of one that is new
abbrev pub Steps : {B T : Type 0} → book.Ghosts B → B → B → Delivery → Result T Fault → Type 0
Steps g old new delivery result =
    LeadsTo g old new (stepped (g.shows old) delivery) (acts_in delivery) (acts_meet_full (g.shows old).state (acts_in delivery)) result

-- So many deliveries, from the first on, have these answers. Behind them is the fault, if one came.
pub record Runs {B : Type 0} (g : book.Ghosts B) (old new : B) (deliveries : List Delivery) (given : List (List Reply)) (fault : Option Fault) : Type 0 where
  -- The answers are those of the run on the deliveries that were answered, also if a fault has shut the book after that. If it is still
  -- sound, so are the records.
  pub answers : g.is_honest new → given ≡ answers_to (g.shows old) (take (length given) deliveries)
  pub book : g.is_sound new → g.shows new ≡ after_deliveries (g.shows old) (take (length given) deliveries)
  pub tells : g.is_honest new → AllTell (g.shows old).state (acts_of_all (first_in (g.shows old) (take (length given) deliveries)))
  -- All are answered, or the fault came at the next one. No delivery that is answered met a full gate, and at `Full` the next one does.
  pub stops : StopsBefore fault (drop (length given) deliveries)
  pub room : g.is_honest new → NoneMeetsFull (g.shows old) (take (length given) deliveries)
  pub full : g.is_sound new → IsFullBefore fault (g.shows new) (drop (length given) deliveries)
  pub cause : IfSome fault (IsOfKeepers g.may_answer)
  pub outlasts : Outlasts g old new
  -- Of a book that was sound and is honest, only `Memory` and `Store` may have shut it.
  pub stays : g.is_sound old → g.is_honest new → IsOpenUnless fault (g.is_sound new)
