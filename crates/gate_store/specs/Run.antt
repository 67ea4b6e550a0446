-- THE RUN: what deliveries are answered, one after the other, and the records after them.
use Rattle.std.specs.Prelude.{◌≡◌, ◌⊎◌, ℕ, not, Bool, true, false, ◌||◌, ◌&&◌, ⊤, List, [], ◌∷◌, Option, None, Some, is_some, Result, Ok, Err, if◌then◌else◌}
use Rattle.std.specs.Cmp.Lexicographic.{slice_cmp}
use Rattle.std.specs.FinMap as finite
use Rattle.std.specs.FinMap.{FinMap}
use Rattle.std.specs.Option.{unwrap_or}
use Rattle.std.specs.Ordering.{nat_cmp}
use Rattle.gate_state.specs.declared.act.Act.{Act}
use Rattle.gate_state.specs.declared.reply.Reply.{Reply}
use Rattle.gate_state.specs.Room.{is_full}
use Rattle.gate_queue.specs.Machine.{reply_to, after}
pub use Rattle.gate_queue.specs.Progress.{after_all}
use Rattle.gate_queue.specs.declared.fault.Fault.{Fault}
use Rattle.gate_queue.specs.declared.fault.Fault.TheVariants.{Memory, Store, Full, Foreign}
use Rattle.gate_state.specs.declared.state.State.{State}
use Rattle.gate_deliveries.specs.Acts.{acts_of_event}
use Rattle.gate_deliveries.specs.declared.delivery.Delivery.{Delivery}

-- RECORDS: the state of the machine, and the answer that is kept under each identifier
pub record Records : Type 0 where
  pub state : State
  pub kept : FinMap (slice_cmp nat_cmp) (List Reply)

abbrev pub kept_under : Records → List ℕ → Option (List Reply)
kept_under records id = finite.get records.kept id

abbrev pub is_known : Records → List ℕ → Bool
is_known records id = is_some (kept_under records id)

-- another state, and one more answer
abbrev pub with_answer : Records → State → List ℕ → List Reply → Records
with_answer records state id answer = record { state = state; kept = finite.insert records.kept id answer }

-- ACTS IN ORDER: their replies, and the state after all (`after_all`). An act sees what those before it did, and one that is denied
-- doesn't stop those after it.
abbrev pub replies_to : State → List Act → List Reply
replies_to s [] = []
replies_to s (act ∷ acts) = reply_to s act ∷ replies_to (after s act) acts

-- A DELIVERY whose identifier is known is answered what is kept, and changes nothing. Else its acts step in order, and their
-- replies are the answer, which is kept.
abbrev pub acts_in : Delivery → List Act
acts_in delivery = acts_of_event delivery.event

abbrev pub answer_to : Records → Delivery → List Reply
answer_to records delivery = unwrap_or (kept_under records delivery.id) (replies_to records.state (acts_in delivery))

abbrev pub stepped : Records → Delivery → Records
stepped records delivery = with_answer records (after_all records.state (acts_in delivery)) delivery.id (replies_to records.state (acts_in delivery))

abbrev pub after_delivery : Records → Delivery → Records
after_delivery records delivery = if is_known records delivery.id then records else stepped records delivery

-- the acts that step: none of a delivery whose identifier is known
abbrev pub new_acts : Records → Delivery → List Act
new_acts records delivery = if is_known records delivery.id then [] else acts_in delivery

-- DELIVERIES IN ORDER: their answers, and the records after all
abbrev pub answers_to : Records → List Delivery → List (List Reply)
answers_to records [] = []
answers_to records (delivery ∷ deliveries) = answer_to records delivery ∷ answers_to (after_delivery records delivery) deliveries

abbrev pub after_deliveries : Records → List Delivery → Records
after_deliveries records [] = records
after_deliveries records (delivery ∷ deliveries) = after_deliveries (after_delivery records delivery) deliveries

-- FAULTS. No act steps on a full gate: whether one of the acts meets it, after those before it
abbrev pub acts_meet_full : State → List Act → Bool
acts_meet_full s [] = false
acts_meet_full s (act ∷ acts) = is_full s.queue || acts_meet_full (after s act) acts

-- A repeated delivery, and one without acts, never meets it.
abbrev pub meets_full : Records → Delivery → Bool
meets_full records delivery = not (is_known records delivery.id) && acts_meet_full records.state (acts_in delivery)

-- What is answered has met no full gate, and `Full` is answered only if one was met. So, unless memory or the records fail,
-- `Full` is answered exactly if an act meets a full gate. `Foreign` is never answered.
abbrev pub AgreesOnFull : {X : Type 0} → Result X Fault → Bool → Type 0
AgreesOnFull (Ok _) full = full ≡ false
AgreesOnFull (Err Full) full = full ≡ true
AgreesOnFull (Err Memory) full = ⊤
AgreesOnFull (Err Store) full = ⊤
AgreesOnFull (Err Foreign) full = ⊥

-- None of the deliveries meets it, each after those before it.
abbrev pub NoneMeetsFull : Records → List Delivery → Type 0
NoneMeetsFull records [] = ⊤
NoneMeetsFull records (delivery ∷ deliveries) = (meets_full records delivery ≡ false) × NoneMeetsFull (after_delivery records delivery) deliveries

-- Deliveries were answered, and these come next: none is left, or the fault came at the first of them.
abbrev pub StopsBefore : Option Fault → List Delivery → Type 0
StopsBefore None [] = ⊤
StopsBefore None (delivery ∷ deliveries) = ⊥
StopsBefore (Some fault) [] = ⊥
StopsBefore (Some fault) (delivery ∷ deliveries) = ⊤

-- The fault `Full` came at a delivery that meets a full gate.
abbrev pub IsFullBefore : Option Fault → Records → List Delivery → Type 0
IsFullBefore (Some Full) records (delivery ∷ deliveries) = meets_full records delivery ≡ true
IsFullBefore _ records deliveries = ⊤

-- the faults that acts may meet, those of a book, those that a book may answer and `Memory`, and those of a keeper of such a book
abbrev pub IsOfActs : Fault → Type 0
IsOfActs fault = (fault ≡ Memory) ⊎ (fault ≡ Full)

abbrev pub IsOfBooks : Fault → Type 0
IsOfBooks fault = (fault ≡ Memory) ⊎ (fault ≡ Store)

abbrev pub OrMemory : (Fault → Type 0) → Fault → Type 0
OrMemory may_answer fault = (fault ≡ Memory) ⊎ may_answer fault

abbrev pub IsOfKeepers : (Fault → Type 0) → Fault → Type 0
IsOfKeepers may_answer fault = IsOfActs fault ⊎ may_answer fault

-- Only `Memory` and `Store` may have shut a book. After anything else it is still sound. (`Foreign` is never answered.)
abbrev pub IsOpenAfter : Fault → (sound : Type 0) → Type 0
IsOpenAfter Full sound = sound
IsOpenAfter Memory sound = ⊤
IsOpenAfter Store sound = ⊤
IsOpenAfter Foreign sound = ⊤

abbrev pub IsOpenUnless : Option Fault → (sound : Type 0) → Type 0
IsOpenUnless None sound = sound
IsOpenUnless (Some fault) sound = IsOpenAfter fault sound

abbrev pub StaysOpen : {X : Type 0} → Result X Fault → (sound : Type 0) → Type 0
StaysOpen (Ok _) sound = sound
StaysOpen (Err fault) sound = IsOpenAfter fault sound
