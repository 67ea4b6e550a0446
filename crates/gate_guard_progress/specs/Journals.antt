-- JOURNALS: a host that writes down what it hands in, what that is answered, and what people were shown. It may stop at any moment, and what it
-- hasn't written down then is lost to it. (*Told* is a word for the bot alone here.)
use Rattle.std.specs.Prelude.{◌≡◌, ◌⊎◌, ◌<◌, ◌==◌, ℕ, nat_lt, Bool, true, false, ◌&&◌, not, ⊤, List, [], ◌∷◌, ◌++◌, length, take, map as list_map, Option, Some, None, if◌then◌else◌}
use Rattle.std.specs.FinMap.{empty}
use Rattle.std.specs.List.{All, list_any}
use Rattle.std.specs.Str.{bytes_eq}
use Rattle.gate_deliveries.specs.declared.delivery.Delivery.{Delivery}
use Rattle.gate_guard_progress.specs.Standing.{state_after, tell}
use Rattle.gate_queue.specs.Machine.{empty_state}
use Rattle.gate_state.specs.declared.reply.Reply.{Reply}
use Rattle.gate_store.specs.Run.{NoneMeetsFull, Records, after_deliveries, after_delivery, answer_to, answers_to, meets_full}

-- What stands in a journal: a delivery with its answer, or something else that people are shown.
pub data Entry : Type 0 where
  answered : Delivery → List Reply → Entry
  other : Entry

-- THE JOURNAL: its entries in their order, the deliveries behind them that have no answer yet, and the places of the entries that are written down as
-- shown
pub record Journal : Type 0 where
  pub entries : List Entry
  pub waiting : List Delivery
  pub marked : List ℕ

-- A HOST: what its bot keeps, its journal, and an answer that it has heard and hasn't written down. And which entries people were shown, by their
-- places, the newest first.
pub record Host : Type 0 where
  pub records : Records
  pub journal : Journal
  pub heard : Option (List Reply)
  pub shown : List ℕ

-- The bot has no records at first, and the host has written nothing down.
abbrev pub no_records : Records
no_records = record { state = empty_state 1; kept = empty }

abbrev pub first_host : Host
first_host = record { records = no_records; journal = record { entries = []; waiting = []; marked = [] }; heard = None; shown = [] }

-- the deliveries of entries, and their answers
abbrev pub deliveries_in : List Entry → List Delivery
deliveries_in [] = []
deliveries_in (answered delivery answer ∷ entries) = delivery ∷ deliveries_in entries
deliveries_in (other ∷ entries) = deliveries_in entries

abbrev pub answers_in : List Entry → List (List Reply)
answers_in [] = []
answers_in (answered delivery answer ∷ entries) = answer ∷ answers_in entries
answers_in (other ∷ entries) = answers_in entries

-- all deliveries that are written down
abbrev pub written_in : Journal → List Delivery
written_in journal = deliveries_in journal.entries ++ journal.waiting

-- whether a delivery has this identifier, and whether a place is among others
abbrev pub has_id : List Delivery → List ℕ → Bool
has_id deliveries id = list_any (λ (delivery : Delivery). bytes_eq delivery.id id) deliveries

abbrev pub is_among : List ℕ → ℕ → Bool
is_among places place = list_any (λ (one : ℕ). one == place) places

-- WHAT A HOST DOES
pub data Doing : Type 0 where
  -- It writes down a delivery, unless one with this identifier is written down.
  writes : Delivery → Doing
  -- It hands in the first delivery that has no answer, and hears the answer, unless that meets a full gate. One that was handed in before is a
  -- repeated one for the bot.
  hands_in : Doing
  -- It hands in once more a delivery whose identifier has an answer, as at a start.
  repeats : Delivery → Doing
  -- It writes down the answer that it has heard, behind the entries.
  keeps : Doing
  -- It writes down something else that people are shown.
  notes : Doing
  -- It shows people an entry, unless that is written down as shown.
  shows : ℕ → Doing
  -- It writes an entry down as shown: people were shown it, or need not be.
  marks : ℕ → Doing
  -- It stops, and begins again with what is written down.
  stops : Doing
  -- The bot's records are found to be those after so many of the deliveries that have answers. All of these are handed in again, and an answer that
  -- was heard is forgotten.
  refills : ℕ → Doing

-- the journal with one more of each
module _ (journal : Journal) where
  abbrev pub with_entry : Entry → List Delivery → Journal
  with_entry entry waiting = record { entries = journal.entries ++ entry ∷ []; waiting = waiting; marked = journal.marked }

  abbrev pub with_delivery : Delivery → Journal
  with_delivery delivery = record { entries = journal.entries; waiting = journal.waiting ++ delivery ∷ []; marked = journal.marked }

  abbrev pub with_mark : ℕ → Journal
  with_mark place = record { entries = journal.entries; waiting = journal.waiting; marked = place ∷ journal.marked }

module _ (host : Host) where
  abbrev pub with_journal : Journal → Host
  with_journal journal = record { records = host.records; journal = journal; heard = host.heard; shown = host.shown }

  abbrev pub with_records : Records → Host
  with_records records = record { records = records; journal = host.journal; heard = host.heard; shown = host.shown }

  abbrev pub handed_in : Delivery → Host
  handed_in delivery = record { records = after_delivery host.records delivery; journal = host.journal; heard = Some (answer_to host.records delivery); shown = host.shown }

  abbrev pub hand_first : List Delivery → Host
  hand_first [] = host
  hand_first (delivery ∷ later) = if meets_full host.records delivery then host else handed_in delivery

  abbrev pub keep_answer : Option (List Reply) → List Delivery → Host
  keep_answer (Some answer) (delivery ∷ later) = record { records = host.records; journal = with_entry host.journal (answered delivery answer) later; heard = None; shown = host.shown }
  keep_answer heard waiting = host

  abbrev pub with_shown : ℕ → Host
  with_shown place = record { records = host.records; journal = host.journal; heard = host.heard; shown = place ∷ host.shown }

  abbrev pub begin_again : Host
  begin_again = record { records = host.records; journal = host.journal; heard = None; shown = host.shown }

  abbrev pub refilled : List Delivery → List Delivery → Host
  refilled before all =
      record { records = after_deliveries (after_deliveries no_records before) all; journal = host.journal; heard = None; shown = host.shown }

  -- An entry that people may be shown: it is there, and not marked.
  abbrev pub may_be_shown : ℕ → Bool
  may_be_shown place = nat_lt place (length host.journal.entries) && not (is_among host.journal.marked place)

  abbrev pub after_one : Doing → Host
  after_one (writes delivery) = if has_id (written_in host.journal) delivery.id then host else with_journal (with_delivery host.journal delivery)
  after_one hands_in = hand_first host.journal.waiting
  after_one (repeats delivery) = if has_id (deliveries_in host.journal.entries) delivery.id then with_records (after_delivery host.records delivery) else host
  after_one keeps = keep_answer host.heard host.journal.waiting
  after_one notes = with_journal (with_entry host.journal other host.journal.waiting)
  after_one (shows place) = if may_be_shown place then with_shown place else host
  after_one (marks place) = with_journal (with_mark host.journal place)
  after_one stops = begin_again
  after_one (refills many) = refilled (take many (deliveries_in host.journal.entries)) (deliveries_in host.journal.entries)

abbrev pub after_doings : Host → List Doing → Host
after_doings host [] = host
after_doings host (doing ∷ later) = after_doings (after_one host doing) later

-- Each has an identifier of its own.
abbrev pub AreDistinct : List Delivery → Type 0
AreDistinct [] = ⊤
AreDistinct (delivery ∷ deliveries) = (has_id deliveries delivery.id ≡ false) × AreDistinct deliveries

-- The bot stands where these deliveries lead, and none has met a full gate. By them it was told what happened, each once. So the laws of moves and of
-- arrivals speak of what it was told.
pub record StandsAfter (records : Records) (deliveries : List Delivery) : Type 0 where
  pub at : records ≡ after_deliveries no_records deliveries
  pub room : NoneMeetsFull no_records deliveries
  pub told : records.state ≡ state_after (tell (list_map (λ (delivery : Delivery). delivery.event) deliveries) [])

-- It stands after what has an answer, or after the first besides that has none: that answer isn't written down.
abbrev pub IsAfter : Records → List Delivery → List Delivery → Type 0
IsAfter records before [] = StandsAfter records before
IsAfter records before (next ∷ later) = StandsAfter records before ⊎ StandsAfter records (before ++ next ∷ [])

-- IN ORDER: what is promised of a host, whatever it did, and wherever it stopped
pub record IsInOrder (host : Host) : Type 0 where
  -- No identifier is written down twice.
  pub once : AreDistinct (written_in host.journal)
  -- The answers that are written down are those that these deliveries get if they are handed in once, one after the other, without a stop.
  pub answers : answers_in host.journal.entries ≡ answers_to no_records (deliveries_in host.journal.entries)
  pub records : IsAfter host.records (deliveries_in host.journal.entries) host.journal.waiting
  -- It goes on so: the first that waits gets the answer that it would get without a stop, unless it meets a full gate.
  pub goes_on : (next : Delivery) (later : List Delivery) → host.journal.waiting ≡ next ∷ later
      → meets_full (after_deliveries no_records (deliveries_in host.journal.entries)) next ≡ false
      → (after_doings host (hands_in ∷ keeps ∷ [])).journal
      ≡ with_entry host.journal (answered next (answer_to (after_deliveries no_records (deliveries_in host.journal.entries)) next)) later
  -- People were shown entries alone.
  pub shown : All (λ place. place < length host.journal.entries) host.shown

abbrev pub LawOfJournals : Type 0
LawOfJournals = (doings : List Doing) → IsInOrder (after_doings first_host doings)

-- NOTHING IS SHOWN AGAIN that is written down as shown. Whatever a host does later, stops among it, what is written down stays, and people are shown
-- other entries alone.
pub record IsLater (host later : Host) : Type 0 where
  pub more : List Entry
  pub entries : later.journal.entries ≡ host.journal.entries ++ more
  pub those : List Delivery
  pub written : written_in later.journal ≡ written_in host.journal ++ those
  pub marked : (place : ℕ) → is_among host.journal.marked place ≡ true → is_among later.journal.marked place ≡ true
  pub anew : List ℕ
  pub shown : later.shown ≡ anew ++ host.shown
  pub others : All (λ place. is_among host.journal.marked place ≡ false) anew

abbrev pub LawOfShowing : Type 0
LawOfShowing = (host : Host) (doings : List Doing) → IsLater host (after_doings host doings)
