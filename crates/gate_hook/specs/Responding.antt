-- How a response is made and sent, for the contracts of the functions that `serve_guarded` is made of; `IsTranscript` is for its own.
use Rattle.std.specs.Prelude.{◌≡◌, ◌⊎◌, ℕ, ⊤, false, List, [], Option, Some, None, Result, Ok, Err, IfErr, IfOk, OnOk}
use Rattle.std.specs.Io.KnownBytes.{Appends, Consumes}
use Rattle.gate_queue.specs.declared.fault.Fault.{Fault}
use Rattle.gate_queue.specs.declared.fault.Fault.TheVariants.{Memory, Store, Full, Foreign}
use Rattle.gate_store.specs.Outlasting.{Outlasts, RemainsSound}
use Rattle.gate_store.specs.Run.{AgreesOnFull, IsOfBooks, IsOfKeepers, Records, StaysOpen, after_delivery, meets_full}
use Rattle.gate_store.specs.declared.book.Book as book
use Rattle.gate_deliveries.specs.declared.delivery.Delivery.{Delivery}
use Rattle.gate_hook.specs.Receiving.{HasKept, HasTaken, IsInput}
use Rattle.gate_hook.specs.Requests.{Asks}
use Rattle.gate_hook.specs.Sending.{IsCutOff}
use Rattle.gate_hook.specs.Serving.{StaysSound}
use Rattle.gate_http.specs.Responses.{IsResponse}
use Rattle.gate_hook.specs.Served.{Breaks, MeetsNoFull, IsTaken, MeetsFull, NeedsNoBook, after_wish, response_to}
use Rattle.gate_hook.specs.declared.fault.HookFault.{HookFault}
use Rattle.gate_hook.specs.declared.fault.HookFault.TheVariants.{Gate, Read, Write, TooMuch}
use Rattle.gate_http.specs.declared.refusal.Refusal.{Refusal}
use Rattle.gate_hook.specs.declared.requests.Request.{Request}
use Rattle.gate_hook.specs.declared.requests.Request.TheVariants.{Report as ReportOf}
use Rattle.gate_hook.specs.declared.requests.Served.{Served}
use Rattle.gate_http.specs.declared.response.Response.{Response}
use Rattle.gate_http.specs.declared.target.Report.{Report}

-- what making the response to this wish leaves
abbrev pub Responds : Result Response HookFault → Records → Result Request Refusal → Records → Type 0
Responds (Ok made) old wish new = IsResponse made (response_to old wish) × (new ≡ after_wish old wish) × MeetsNoFull old wish
Responds (Err (Gate Memory)) old wish new = (new ≡ old) ⊎ ((new ≡ after_wish old wish) × MeetsNoFull old wish)
Responds (Err (Gate Store)) old wish new = (new ≡ old) × IsTaken wish
Responds (Err (Gate Full)) old wish new = (new ≡ old) × MeetsFull old wish
Responds (Err (Gate Foreign)) old wish new = ⊥
Responds (Err Read) old wish new = ⊥
Responds (Err Write) old wish new = ⊥
Responds (Err TooMuch) old wish new = ⊥

-- a response that was made though the book may be shut, to a request that needs none
abbrev pub RespondsAnyhow : Result Response HookFault → Result Request Refusal → Type 0
RespondsAnyhow (Ok made) wish = NeedsNoBook wish × ((records : Records) × IsResponse made (response_to records wish))
RespondsAnyhow (Err fault) wish = ⊤

-- The faults that keep a response from being made: of those of the gate, the ones that a keeper may answer, and a failed read.
abbrev pub MayFail : (Fault → Type 0) → HookFault → Type 0
MayFail may_answer (Gate fault) = IsOfKeepers may_answer fault
MayFail may_answer Read = ⊤
MayFail may_answer Write = ⊥
MayFail may_answer TooMuch = ⊥

-- what reading a request and making its response leave
abbrev pub Answers : Option (List ℕ) → Result Response HookFault → List ℕ → Records → Records → Type 0
Answers token (Ok made) input old new =
    (wish : Result Request Refusal) × Asks token input wish × IsResponse made (response_to old wish) × (new ≡ after_wish old wish) × MeetsNoFull old wish
Answers token (Err (Gate fault)) input old new = Breaks token input fault old new
Answers token (Err Read) input old new = new ≡ old
Answers token (Err Write) input old new = ⊥
Answers token (Err TooMuch) input old new = ⊥

-- the same of what was read
abbrev pub MakesAnyhow : Option (List ℕ) → Result Response HookFault → List ℕ → Type 0
MakesAnyhow token (Ok made) input =
    (wish : Result Request Refusal) × Asks token input wish × NeedsNoBook wish × ((records : Records) × IsResponse made (response_to records wish))
MakesAnyhow token (Err fault) input = ⊤

-- OVER A BOOK. A delivery is answered by what is due for it. Or it stops at a fault: nothing has changed, or there was no memory left to
-- tell what it did.
pub record AnswersDelivery {B T : Type 0} (g : book.Ghosts B) (old new : B) (delivery : Delivery) (result : Result T Fault) (is_due : T → Type 0) : Type 0 where
  pub answer : g.is_sound new → IfOk result is_due
  pub records : g.is_sound new → OnOk result (g.shows new ≡ after_delivery (g.shows old) delivery)
  pub stops : g.is_sound new → IfErr result (λ fault. (g.shows new ≡ g.shows old)
      ⊎ ((fault ≡ Memory) × (g.shows new ≡ after_delivery (g.shows old) delivery) × (meets_full (g.shows old) delivery ≡ false)))
  pub full : g.is_sound new → AgreesOnFull result (meets_full (g.shows old) delivery)
  pub outlasts : Outlasts g old new
  pub stays : g.is_honest new → StaysOpen result (g.is_sound new)
  pub cause : IfErr result (IsOfKeepers g.may_answer)

-- The response that has a report is made, or the one that says that there is none. It changes nothing.
pub record MakesReport {B : Type 0} (g : book.Ghosts B) (old new : B) (report : Report) (result : Result Response Fault) : Type 0 where
  pub response : g.is_sound new → IfOk result (λ response. IsResponse response (response_to (g.shows old) (Ok (ReportOf report))))
  pub anyhow : IfOk result (λ response. (records : Records) × IsResponse response (response_to records (Ok (ReportOf report))))
  pub same : g.is_sound new → g.shows new ≡ g.shows old
  pub outlasts : Outlasts g old new
  pub stays : RemainsSound g old new (StaysOpen result)
  pub cause : IfErr result (IsOfKeepers g.may_answer)
  pub fault : IfErr result IsOfBooks

-- The response to this wish is made.
pub record MakesResponse {B : Type 0} (g : book.Ghosts B) (old new : B) (wish : Result Request Refusal) (result : Result Response HookFault) : Type 0 where
  pub responds : g.is_sound new → Responds result (g.shows old) wish (g.shows new)
  pub anyhow : g.is_honest new → g.is_sound new ⊎ RespondsAnyhow result wish
  pub outlasts : Outlasts g old new
  pub stays : RemainsSound g old new (StaysSound result)
  pub cause : IfErr result (MayFail g.may_answer)

-- The response to the request that this reader had is made. `token` is the one that it needs, if it needs one.
pub record AnswersRequest {B : Type 0} (g : book.Ghosts B) (token : Option (List ℕ)) (result : Result Response HookFault) (old new : B) (unread left : Option (List ℕ)) : Type 0 where
  pub answered : (input : List ℕ) × IsInput unread left input × (g.is_sound new → Answers token result input (g.shows old) (g.shows new))
  pub anyhow : g.is_honest new → g.is_sound new ⊎ ((input : List ℕ) × IsInput unread left input × MakesAnyhow token result input)
  pub taken : HasTaken token unread left
  pub outlasts : Outlasts g old new
  pub stays : RemainsSound g old new (StaysSound result)
  pub cause : IfErr result (MayFail g.may_answer)

-- these bytes were taken of the input, or if something went wrong, were kept of what was taken
abbrev pub HasConsumed : {X : Type 0} → Result X HookFault → Option (List ℕ) → Option (List ℕ) → List ℕ → Type 0
HasConsumed (Ok _) before after bytes = Consumes before after bytes
HasConsumed (Err fault) before after bytes = HasKept before after bytes

-- THE TRANSCRIPT of a request that was answered: what was taken of the input, and what was written. After a fault of the gate it has what
-- was kept of the input, and no response.
abbrev pub IsOfAnswered : Option Fault → (request response : List ℕ) → (before after old new : Option (List ℕ)) → Type 0
IsOfAnswered None request response before after old new = Consumes before after request × Appends old new response
IsOfAnswered (Some fault) request response before after old new = HasKept before after request × (response ≡ [])

-- The transcript, however serving ended. After `Read` and `Write` it has no response. So nothing stands in it that wasn't taken of the
-- input, or written.
abbrev pub IsTranscript : Result Served HookFault → (request response : List ℕ) → (before after old new : Option (List ℕ)) → Type 0
IsTranscript (Ok served) request response before after old new = IsOfAnswered served.fault request response before after old new
IsTranscript (Err Write) request response before after old new = HasKept before after request × (response ≡ [])
IsTranscript (Err Read) request response before after old new = HasKept before after request × (response ≡ [])
IsTranscript (Err (Gate fault)) request response before after old new = ⊥
IsTranscript (Err TooMuch) request response before after old new = ⊥

-- a text was sent whole, or the writer refused it or the rest of it
abbrev pub HasSent : Result Served HookFault → Served → List ℕ → Option (List ℕ) → Option (List ℕ) → Type 0
HasSent (Ok done) served text before after = (done ≡ served) × Appends before after text
HasSent (Err Write) served text before after = IsCutOff text before after
HasSent (Err Read) served text before after = ⊥
HasSent (Err (Gate fault)) served text before after = ⊥
HasSent (Err TooMuch) served text before after = ⊥
