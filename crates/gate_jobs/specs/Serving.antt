-- CONNECTIONS: which token is needed on them, what is printed before the first, what is done with one and with many, and how much is read of one behind its
-- response.
use Rattle.std.specs.Prelude.{◌≡◌, ◌⊎◌, ◌<◌, ℕ, ◌+◌, List, [], ◌∷◌, ◌++◌, length, codes, decimal, Option, Some, None, Result, Ok, Err, IfErr}
use Rattle.std.specs.Io.KnownBytes.{Appends, Consumes, IsAtEnd, Keeps}
use Rattle.std.specs.List.{All}
use Rattle.gate_jobs.specs.Accepting.{AddsText, AreAcceptedInTurn, AreEndedInTurn, ComesFirst, Connection}
use Rattle.gate_jobs.specs.declared.fault.JobFault.{JobFault}
use Rattle.gate_jobs.specs.declared.fault.JobFault.TheVariants.{Accept, Hook, Token}
use Rattle.gate_hook.specs.Receiving.{HasTaken, IsInput}
use Rattle.gate_hook.specs.Sending.{IsCutOff}
use Rattle.gate_hook.specs.Served.{AnswersAnyhow, AnswersOne}
use Rattle.gate_http.specs.Responses.{fault_response, response_text}
use Rattle.gate_http.specs.Tokens.{token_in}
use Rattle.gate_hook.specs.declared.fault.HookFault.{HookFault}
use Rattle.gate_hook.specs.declared.fault.HookFault.TheVariants.{Gate, Read, Write, TooMuch}
use Rattle.gate_hook.specs.declared.requests.Served.{Served}
use Rattle.gate_queue.specs.declared.fault.Fault.TheVariants.{Memory}
use Rattle.gate_store.specs.Outlasting.{Outlasts}
use Rattle.gate_store.specs.Run.{Records}
use Rattle.gate_store.specs.declared.book.Book as book

abbrev pub greeting : ℕ → List ℕ
greeting port = codes "listening on 127.0.0.1:" ++ (decimal port ++ 10 ∷ [])

-- Of a connection no more is taken than its answer needs, if this token is needed, or none.
abbrev pub IsTakenAsNeeded : Option (List ℕ) → Connection → Type 0
IsTakenAsNeeded token connection = HasTaken token connection.unread connection.left

-- One request is answered on a connection, as `serve_guarded` does it. What a connection of the network gives and takes isn't known, and
-- then the input is some input, and of what is written nothing is said; but the records after it are what `serve_guarded` makes of that
-- input.
abbrev pub IsServed : Option (List ℕ) → Connection → Records → Records → Type 0
IsServed token connection old new =
    (served : Result Served HookFault) × (input : List ℕ) × IsInput connection.unread connection.left input
    × AnswersOne token served input old new connection.blank connection.written

-- Connections one after the other: each finds the records as the one before left them.
abbrev pub AreServedInTurn : Option (List ℕ) → List Connection → Records → Records → Type 0
AreServedInTurn token [] old new = new ≡ old
AreServedInTurn token (connection ∷ connections) old new =
    (between : Records) × IsServed token connection old between × AreServedInTurn token connections between new

-- OVER A BOOK THAT A FAULT MAY SHUT. One request is answered by what needs no book: by the response after faults, by its refusal, or by the
-- report of a state that was at hand.
abbrev pub IsServedAnyhow : Option (List ℕ) → Connection → Type 0
IsServedAnyhow token connection =
    (served : Result Served HookFault) × (input : List ℕ) × IsInput connection.unread connection.left input
    × AnswersAnyhow token served input connection.blank connection.written

-- A fault was met on a connection: the response after faults was written, or a part from its front.
abbrev pub MeetsFault : Connection → Type 0
MeetsFault connection =
    Appends connection.blank connection.written (response_text fault_response)
    ⊎ IsCutOff (response_text fault_response) connection.blank connection.written

-- One connection, and the book before and after it. A sound book stays sound unless a fault was met. As long as it is sound, each request
-- is answered as it is due. If it isn't, then never again, and each is answered by what needs no book.
pub record IsServedOver {B : Type 0} (shows : B → Records) (is_sound : B → Type 0) (token : Option (List ℕ)) (connection : Connection) (old new : B) : Type 0 where
  pub stays : is_sound old → is_sound new ⊎ MeetsFault connection
  pub due : is_sound new → IsServed token connection (shows old) (shows new)
  pub was : is_sound new → is_sound old
  pub anyhow : is_sound new ⊎ IsServedAnyhow token connection

-- Connections one after the other: each finds the book as the one before left it.
abbrev pub AreServedOver : {B : Type 0} → (B → Records) → (B → Type 0) → Option (List ℕ) → List Connection → B → B → Type 0
AreServedOver shows is_sound token [] old new = new ≡ old
AreServedOver {B} shows is_sound token (connection ∷ connections) old new =
    (between : B) × IsServedOver shows is_sound token connection old between × AreServedOver shows is_sound token connections between new

-- so many connections were accepted, of those that were to be: all, or fewer if one can't be accepted
abbrev pub AreAccepted : Result (Unit {0}) JobFault → ℕ → ℕ → Type 0
AreAccepted (Ok _) accepted count = accepted ≡ count
AreAccepted (Err fault) accepted count = accepted < count

-- ALL OF IT, over a book, by what an acceptor knows before and after: which connections wait, what was written on those that were ended,
-- and what these had still to give.
module _ {A B : Type 0} (g : book.Ghosts B) (token : Option (List ℕ)) (waiting ended unread : A → Option (List (List ℕ))) (before after : A) (old new : B) where
  -- the first connection was accepted, served and ended
  abbrev pub OneServed : Type 0
  OneServed =
      (connection : Connection) × ComesFirst (waiting before) (waiting after) connection.unread connection.blank
      × AddsText (ended before) (ended after) connection.written
      × AddsText (unread before) (unread after) connection.left
      × IsTakenAsNeeded token connection
      × (g.is_sound new → IsServed token connection (g.shows old) (g.shows new))
      × (g.is_honest new → IsServedOver g.shows g.is_sound token connection old new)

  -- none was, and nothing has changed
  abbrev pub NoneServed : Type 0
  NoneServed = (new ≡ old) × (waiting after ≡ waiting before) × (ended after ≡ ended before) × (unread after ≡ unread before)

  -- These were accepted and ended, so many or fewer, in the order in which they came, and of each no more was taken than its answer needs.
  -- If the book is sound in the end, what is left of the records is what their requests made of them, one after the other, and each was
  -- answered as `serve_guarded` says. If it is honest in the end, each was answered so as long as the book was sound, and those after that
  -- by what needs no book.
  abbrev pub AllServed : Result (Unit {0}) JobFault → ℕ → Type 0
  AllServed result count =
      (connections : List Connection) × AreAccepted result (length connections) count
      × AreAcceptedInTurn connections (waiting before) (waiting after)
      × AreEndedInTurn (λ connection. connection.written) connections (ended before) (ended after)
      × AreEndedInTurn (λ connection. connection.left) connections (unread before) (unread after)
      × All (IsTakenAsNeeded token) connections
      × (g.is_sound new → AreServedInTurn token connections (g.shows old) (g.shows new))
      × (g.is_honest new → AreServedOver g.shows g.is_sound token connections old new)

-- What serving connections says besides.
pub record EndsServing {B : Type 0} (g : book.Ghosts B) (old new : B) (result : Result (Unit {0}) JobFault) : Type 0 where
  -- It stops only at a connection that can't be accepted.
  pub cause : IfErr result (λ fault. fault ≡ Accept)
  -- A book that is sound in the end was sound before, one that is honest was so, and one that was shielded still is.
  pub outlasts : Outlasts g old new

-- The input holds this token. Or it holds none, or can't be read, or there is no memory.
abbrev pub IsTokenOf : Result (List ℕ) JobFault → Option (List ℕ) → Option (List ℕ) → Type 0
IsTokenOf (Ok token) before after = (input : List ℕ) × IsInput before after input × (token_in input ≡ Some token)
IsTokenOf (Err fault) before after = (fault ≡ Token) ⊎ (fault ≡ Hook (Gate Memory))

-- what reading a file for a token tells: its token, or why there is none
abbrev pub token_told : Result (Option (List ℕ)) HookFault → Result (List ℕ) JobFault
token_told (Ok (Some token)) = Ok token
token_told (Ok None) = Err Token
token_told (Err (Gate fault)) = Err (Hook (Gate fault))
token_told (Err Read) = Err Token
token_told (Err Write) = Err Token
token_told (Err TooMuch) = Err Token

-- Some bytes were dropped, and so many are left of those that may be; or reading failed, and none were.
abbrev pub IsDropped : {E : Type 0} → Result ℕ E → ℕ → Option (List ℕ) → Option (List ℕ) → Type 0
IsDropped (Ok rest) left before after =
    (dropped : List ℕ) × Consumes before after dropped × (length dropped + rest ≡ left) × (0 < left → dropped ≡ [] → IsAtEnd after)
IsDropped (Err error) left before after = Keeps before after
