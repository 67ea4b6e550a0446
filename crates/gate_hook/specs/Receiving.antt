-- What was read of a request, for the contracts of the functions that read it.
use Rattle.std.specs.Prelude.{◌≡◌, ◌⊎◌, ℕ, ◌+◌, ◌-◌, ◌<◌, ◌≤◌, ⊤, List, [], ◌++◌, length, take, Bool, true, false, Option, Some, None, Result, Ok, Err}
use Rattle.std.specs.Io.KnownBytes.{Consumes, Keeps, IsAtEnd}
use Rattle.httparse.specs.Grammar.{RequestHead, ReadsRequest, HasNoRequest}
use Rattle.httparse.specs.Spans.{RequestOverflows}
use Rattle.gate_queue.specs.declared.fault.Fault.TheVariants.{Memory}
use Rattle.gate_hook.specs.Requests.{Asks, TakesAsNeeded, piece}
use Rattle.gate_http.specs.declared.refusal.Refusal.{Refusal}
use Rattle.gate_http.specs.Heads.{max_fields, max_head, ask_in, needed_by, HasNoHead, IsHeadOf, IsHeadRead}
use Rattle.gate_hook.specs.declared.fault.HookFault.{HookFault}
use Rattle.gate_hook.specs.declared.fault.HookFault.TheVariants.{Gate, Read, Write, TooMuch}
use Rattle.gate_http.specs.declared.head.Head.{Head}
use Rattle.gate_hook.specs.declared.requests.Request.{Request}
use Rattle.gate_http.specs.Tokens.{token_in}

-- these bytes are what a reader has left, if that is known
abbrev pub IsLeft : Option (List ℕ) → List ℕ → Type 0
IsLeft None rest = ⊤
IsLeft (Some known) rest = rest ≡ known

-- A part of the input was read into the front of a buffer, at most `room` bytes; or the reader failed.
abbrev pub IsRead : Result ℕ HookFault → Option (List ℕ) → Option (List ℕ) → List ℕ → ℕ → Type 0
IsRead (Ok n) before after buffer room = (n ≤ room) × Consumes before after (take n buffer) × (n ≡ 0 → IsAtEnd after)
IsRead (Err Read) before after buffer room = Keeps before after
IsRead (Err (Gate fault)) before after buffer room = ⊥
IsRead (Err Write) before after buffer room = ⊥
IsRead (Err TooMuch) before after buffer room = ⊥

-- what may keep a request from being read
abbrev pub IsUnread : HookFault → Type 0
IsUnread fault = (fault ≡ Read) ⊎ (fault ≡ Gate Memory)

-- Some bytes more were read, at most `room`, and none at the end alone; or reading failed, whatever was taken within these limits, and
-- nothing more stands there.
abbrev pub IsMore : Result ℕ HookFault → Option (List ℕ) → Option (List ℕ) → List ℕ → List ℕ → ℕ → Type 0
IsMore (Ok n) before after old new room =
    (more : List ℕ) × Consumes before after more × (new ≡ old ++ more) × (length more ≡ n) × (n ≤ room) × (n ≤ piece) × (n ≡ 0 → IsAtEnd after)
IsMore (Err fault) before after old new room =
    IsUnread fault × (new ≡ old) × ((taken : List ℕ) × Consumes before after taken × (length taken ≤ room) × (length taken ≤ piece))

-- What was taken of the input begins with these bytes, and only of what was read last some may be lost behind them.
abbrev pub HasKept : Option (List ℕ) → Option (List ℕ) → List ℕ → Type 0
HasKept before after bytes = (lost : List ℕ) × Consumes before after (bytes ++ lost) × (length lost ≤ piece)

-- no more of the input was taken than its answer needs
abbrev pub HasTaken : Option (List ℕ) → Option (List ℕ) → Option (List ℕ) → Type 0
HasTaken token before after = (taken : List ℕ) × Consumes before after taken × TakesAsNeeded token taken

-- the request wasn't read
abbrev pub Fails : Option (List ℕ) → HookFault → Option (List ℕ) → Option (List ℕ) → Type 0
Fails token fault before after = IsUnread fault × HasTaken token before after

-- The bytes that were read begin with a head within the limit, and fewer than a piece stand behind it; or with what is left of the
-- input they have no head. If it failed, they are what was kept, without a head.
abbrev pub HasReadHead : Option (List ℕ) → Result (Option Head) HookFault → Option (List ℕ) → Option (List ℕ) → List ℕ → Type 0
HasReadHead token (Ok (Some told)) before after bytes =
    Consumes before after bytes × IsHeadOf token told bytes × (told.len ≤ max_head) × (length bytes < told.len + piece)
HasReadHead token (Ok None) before after bytes =
    Consumes before after bytes × ((rest : List ℕ) × IsLeft after rest × HasNoHead (bytes ++ rest)) × (length bytes ≤ max_head)
    × IsHeadRead None bytes
HasReadHead token (Err fault) before after bytes = Fails token fault before after × HasKept before after bytes × IsHeadRead None bytes

-- There are no more bytes, or they end within so many behind the first `front`.
abbrev pub EndsWithin : (old more : List ℕ) (front size : ℕ) → Type 0
EndsWithin old more front size = (more ≡ []) ⊎ (length (old ++ more) ≤ front + size)

-- Behind the first `front` bytes there are so many, or the input is at its end. No more were taken for that. If reading failed, some of
-- what was read last may be lost.
abbrev pub HasReadBody : Result (Unit {0}) HookFault → Option (List ℕ) → Option (List ℕ) → List ℕ → List ℕ → ℕ → ℕ → Type 0
HasReadBody (Ok _) before after old new front size =
    (more : List ℕ) × Consumes before after more × (new ≡ old ++ more) × ((size ≤ length new - front) ⊎ IsAtEnd after) × EndsWithin old more front size
HasReadBody (Err fault) before after old new front size =
    IsUnread fault
    × ((more : List ℕ) × (lost : List ℕ) × Consumes before after (more ++ lost) × (new ≡ old ++ more)
    × EndsWithin old (more ++ lost) front size × (length lost ≤ piece))

-- what the input was: the bytes that were taken, and those that are left
abbrev pub IsInput : Option (List ℕ) → Option (List ℕ) → List ℕ → Type 0
IsInput before after input = (taken : List ℕ) × (rest : List ℕ) × Consumes before after taken × IsLeft after rest × (input ≡ taken ++ rest)

-- The input holds this token, or none; or the input wasn't read.
abbrev pub HasReadToken : Result (Option (List ℕ)) HookFault → Option (List ℕ) → Option (List ℕ) → Type 0
HasReadToken (Ok read) before after = (input : List ℕ) × IsInput before after input × (read ≡ token_in input)
HasReadToken (Err fault) before after = IsUnread fault

-- The request was read, as far as its answer needs.
abbrev pub HasAsked : Option (List ℕ) → Result (Result Request Refusal) HookFault → Option (List ℕ) → Option (List ℕ) → Type 0
HasAsked token (Ok wish) before after = ((input : List ℕ) × IsInput before after input × Asks token input wish) × HasTaken token before after
HasAsked token (Err fault) before after = Fails token fault before after

-- Whether these bytes are as many as the answer needs: a head and its body, or so much that there is no head.
abbrev pub IsEnough : Option (List ℕ) → Bool → List ℕ → Type 0
IsEnough token true bytes =
    ((head : RequestHead) × (rest : List ℕ) × ReadsRequest bytes head rest × (needed_by (ask_in token head) ≤ length rest))
    ⊎ (RequestOverflows max_fields bytes ⊎ (max_head ≤ length bytes))
IsEnough token false bytes =
    ((head : RequestHead) × (rest : List ℕ) × ReadsRequest bytes head rest × (length rest < needed_by (ask_in token head)))
    ⊎ (HasNoRequest bytes × (length bytes < max_head))
