-- WHAT IS KNOWN: the state of the bot and its history, after what it was told.
use Rattle.std.specs.Prelude.{◌≡◌, List, [], ◌∷◌, ◌++◌, if◌then◌else◌}
use Rattle.std.specs.List.{Contains, flat_map}
use Rattle.gate_deliveries.specs.Acts.{acts_of_event}
use Rattle.gate_deliveries.specs.declared.delivery.Event.{Event as Telling}
use Rattle.gate_queue.specs.History.{Entry, Event, events_of, gave, orders_in}
use Rattle.gate_queue.specs.Machine.{empty_state}
use Rattle.gate_state.specs.declared.act.Act.{Act}
use Rattle.gate_state.specs.declared.reply.Order.{Order}
use Rattle.gate_state.specs.declared.reply.Reply.{Reply}
use Rattle.gate_state.specs.declared.state.State.{State}
use Rattle.gate_store.specs.Headline.{history_after}
use Rattle.gate_store.specs.Run.{acts_meet_full, after_all}

-- the state of the bot, and its history
pub record Known : Type 0 where
  pub state : State
  pub history : List Entry

abbrev pub nothing_known : Known
nothing_known = record { state = empty_state 1; history = [] }

-- A delivery that would meet a full gate leaves nothing.
abbrev pub unless_full : State → List Act → List Act
unless_full s acts = if acts_meet_full s acts then [] else acts

abbrev pub after_acts : Known → List Act → Known
after_acts known acts = record { state = after_all known.state acts; history = history_after known.history known.state acts }

-- What the bot was told stands in a list, the newest first, as the newest entry and the newest event do.
abbrev pub known_after : List Telling → Known
known_after [] = nothing_known
known_after (telling ∷ earlier) = after_acts (known_after earlier) (unless_full (known_after earlier).state (acts_of_event telling))

-- all that has happened then
abbrev pub events_after : List Telling → List Event
events_after told = events_of (known_after told).history

-- The bot was told this, after what was told earlier.
pub record WasTold (told : List Telling) (telling : Telling) : Type 0 where
  pub later : List Telling
  pub earlier : List Telling
  pub cut : told ≡ later ++ telling ∷ earlier

-- Each order of an answer has come, after what was told.
abbrev pub HaveCome : List Telling → List Reply → Type 0
HaveCome told answer = (order : Order) → Contains (flat_map orders_in answer) order → Contains (events_after told) (gave order)
