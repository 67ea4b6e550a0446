-- ONE REQUEST: what is sent for it, and the records after it.
use Rattle.std.specs.Prelude.{◌≡◌, ◌⊎◌, ◌↔◌, ℕ, true, false, ⊤, List, [], Option, Some, None, IfSome, IsSome, Result, Ok, Err, IfErr, IfOk}
use Rattle.std.specs.Io.KnownBytes.{Appends}
use Rattle.gate_queue.specs.declared.fault.Fault.{Fault}
use Rattle.gate_queue.specs.declared.fault.Fault.TheVariants.{Memory, Store, Full, Foreign}
use Rattle.gate_state.specs.declared.state.State.{State}
use Rattle.gate_report.specs.Change.{change_text_of}
use Rattle.gate_report.specs.Queue.{queue_text_of}
use Rattle.gate_answers.specs.Answers.{answer_text_of}
use Rattle.gate_store.specs.Outlasting.{Outlasts}
use Rattle.gate_store.specs.Run.{IsOfKeepers, IsOpenAfter, Records, answer_to, after_delivery, meets_full}
use Rattle.gate_store.specs.declared.book.Book as book
use Rattle.gate_deliveries.specs.declared.delivery.Delivery.{Delivery}
use Rattle.gate_hook.specs.Receiving.{HasTaken, IsInput}
use Rattle.gate_hook.specs.Requests.{Asks}
use Rattle.gate_hook.specs.Sending.{IsCutOff}
use Rattle.gate_http.specs.Responses.{Response, response_text, answer_response, refusal_response, report_response, fault_response}
use Rattle.gate_hook.specs.declared.fault.HookFault.{HookFault}
use Rattle.gate_hook.specs.declared.fault.HookFault.TheVariants.{Gate, Read, Write, TooMuch}
use Rattle.gate_http.specs.declared.refusal.Refusal.{Refusal}
use Rattle.gate_http.specs.declared.refusal.Refusal.TheVariants.{NotFound}
use Rattle.gate_hook.specs.declared.requests.Request.{Request}
use Rattle.gate_hook.specs.declared.requests.Request.TheVariants.{Delivery as DeliveryOf, Report as ReportOf}
use Rattle.gate_hook.specs.declared.requests.Served.{Served}
use Rattle.gate_http.specs.declared.target.Report.{Report}
use Rattle.gate_http.specs.declared.target.Report.TheVariants.{Queue, Change}

-- THE TEXT OF A REPORT, if there is one: there is none of a change that was never opened.
abbrev pub report_in : State → Report → Option (List ℕ)
report_in state Queue = Some (queue_text_of state)
report_in state (Change number) = change_text_of number state

abbrev pub response_to_report : Option (List ℕ) → Response
response_to_report (Some text) = report_response text
response_to_report None = refusal_response NotFound

-- A delivery is answered by the run, and a report by the state. A report changes nothing, and neither does a refusal.
abbrev pub response_to : Records → Result Request Refusal → Response
response_to records (Ok (DeliveryOf delivery)) = answer_response (answer_text_of (answer_to records delivery))
response_to records (Ok (ReportOf report)) = response_to_report (report_in records.state report)
response_to records (Err refusal) = refusal_response refusal

abbrev pub after_wish : Records → Result Request Refusal → Records
after_wish records (Ok (DeliveryOf delivery)) = after_delivery records delivery
after_wish records (Ok (ReportOf report)) = records
after_wish records (Err refusal) = records

-- no act of a delivery that was let act met a full gate
abbrev pub MeetsNoFull : Records → Result Request Refusal → Type 0
MeetsNoFull records (Ok (DeliveryOf delivery)) = meets_full records delivery ≡ false
MeetsNoFull records (Ok (ReportOf report)) = ⊤
MeetsNoFull records (Err refusal) = ⊤

-- one of whose acts did
abbrev pub MeetsFull : Records → Result Request Refusal → Type 0
MeetsFull records (Ok (DeliveryOf delivery)) = meets_full records delivery ≡ true
MeetsFull records (Ok (ReportOf report)) = ⊥
MeetsFull records (Err refusal) = ⊥

-- the request isn't refused before the records are asked
abbrev pub IsTaken : Result Request Refusal → Type 0
IsTaken (Ok request) = ⊤
IsTaken (Err refusal) = ⊥

-- The faults, and what each leaves: nothing has changed; or after `Memory`, the delivery has acted and its answer is kept, but there
-- was no memory for its text or its response. The records fail only at a delivery or a report, and `Full` comes only at a delivery
-- of which an act meets a full gate. `Foreign` never comes here.
abbrev pub Breaks : Option (List ℕ) → List ℕ → Fault → Records → Records → Type 0
Breaks token input Memory old new =
    (new ≡ old) ⊎ ((wish : Result Request Refusal) × Asks token input wish × (new ≡ after_wish old wish) × MeetsNoFull old wish)
Breaks token input Store old new = (new ≡ old) × ((wish : Result Request Refusal) × Asks token input wish × IsTaken wish)
Breaks token input Full old new = (new ≡ old) × ((wish : Result Request Refusal) × Asks token input wish × MeetsFull old wish)
Breaks token input Foreign old new = ⊥

-- this response is due, with this fault if there was one, and leaves these records
abbrev pub IsDue : Option (List ℕ) → List ℕ → Records → Response → Option Fault → Records → Type 0
IsDue token input old response None new =
    (wish : Result Request Refusal) × Asks token input wish × (response ≡ response_to old wish) × (new ≡ after_wish old wish) × MeetsNoFull old wish
IsDue token input old response (Some fault) new = (response ≡ fault_response) × Breaks token input fault old new

-- What serving one request leaves, of the input that there is: the response that is due is written, or a part from its front if the
-- writer refused the rest; after a failed read nothing is written and nothing has changed.
abbrev pub AnswersOne : Option (List ℕ) → Result Served HookFault → List ℕ → Records → Records → Option (List ℕ) → Option (List ℕ) → Type 0
AnswersOne token (Ok served) input old new before after =
    (response : Response) × IsDue token input old response served.fault new × (served.status ≡ response.status)
    × Appends before after (response_text response)
AnswersOne token (Err Write) input old new before after =
    (response : Response) × (fault : Option Fault) × IsDue token input old response fault new
    × IsCutOff (response_text response) before after
AnswersOne token (Err Read) input old new before after = (new ≡ old) × Appends before after []
AnswersOne token (Err (Gate fault)) input old new before after = ⊥
AnswersOne token (Err TooMuch) input old new before after = ⊥

-- the input asks for no delivery: it is refused, or asks for a report
abbrev pub AsksNoDelivery : Option (List ℕ) → List ℕ → Type 0
AsksNoDelivery token input = (delivery : Delivery) → Asks token input (Ok (DeliveryOf delivery)) → ⊥

-- OVER A BOOK THAT IS SHUT. Of these requests no answer is asked of the book: those that are refused, and reports, since the state may be
-- at hand.
abbrev pub NeedsNoBook : Result Request Refusal → Type 0
NeedsNoBook (Ok (DeliveryOf delivery)) = ⊥
NeedsNoBook (Ok (ReportOf report)) = ⊤
NeedsNoBook (Err refusal) = ⊤

-- What is due all the same: the response after faults, if there was one. Else a refusal as ever, since it is the same over all records, or
-- the report of some state; and never the answer to a delivery.
abbrev pub IsDueAnyhow : Option (List ℕ) → List ℕ → Response → Option Fault → Type 0
IsDueAnyhow token input response None =
    (wish : Result Request Refusal) × Asks token input wish × NeedsNoBook wish × ((records : Records) × (response ≡ response_to records wish))
IsDueAnyhow token input response (Some fault) = response ≡ fault_response

-- What serving one request sends then: that response, or a part from its front if the writer refused the rest.
abbrev pub AnswersAnyhow : Option (List ℕ) → Result Served HookFault → List ℕ → Option (List ℕ) → Option (List ℕ) → Type 0
AnswersAnyhow token (Ok served) input before after =
    (response : Response) × IsDueAnyhow token input response served.fault × (served.status ≡ response.status)
    × Appends before after (response_text response)
AnswersAnyhow token (Err Write) input before after =
    (response : Response) × (fault : Option Fault) × IsDueAnyhow token input response fault × IsCutOff (response_text response) before after
AnswersAnyhow token (Err Read) input before after = Appends before after []
AnswersAnyhow token (Err (Gate fault)) input before after = ⊥
AnswersAnyhow token (Err TooMuch) input before after = ⊥

-- No fault but `Memory` and `Store` may have shut the book, and after any fault this was sent. (`Foreign` never comes here.)
abbrev pub IsSoundUnless : Option Fault → (sound sent : Type 0) → Type 0
IsSoundUnless None sound sent = sound
IsSoundUnless (Some fault) sound sent = IsOpenAfter fault sound × sent

-- What serving one request tells of a book that was sound and is honest. Either it is sound still, and then `AnswersOne` says what was
-- sent; or a fault may have shut it, and the response after faults was sent, or a part from its front.
abbrev pub StaysServing : Result Served HookFault → (sound : Type 0) → Option (List ℕ) → Option (List ℕ) → Type 0
StaysServing (Ok served) sound before after =
    IsSoundUnless served.fault sound ((served.status ≡ 503) × Appends before after (response_text fault_response))
StaysServing (Err Write) sound before after =
    (fault : Option Fault) × IsSoundUnless fault sound (IsCutOff (response_text fault_response) before after)
StaysServing (Err Read) sound before after = sound
StaysServing (Err (Gate fault)) sound before after = ⊥
StaysServing (Err TooMuch) sound before after = ⊥

-- ALL OF IT: one request is served over a book. `token` is the one that it needs, if it needs one. `unread` and `left` are what the reader
-- has before and after it, `blank` and `written` what the writer has taken by then, as far as that is known.
pub record ServesOne {B : Type 0} (g : book.Ghosts B) (token : Option (List ℕ)) (result : Result Served HookFault) (old new : B) (unread left blank written : Option (List ℕ)) : Type 0 where
  -- What is written, and the records after it, are those that the input asks for.
  pub served : (input : List ℕ) × IsInput unread left input × (g.is_sound new → AnswersOne token result input (g.shows old) (g.shows new) blank written)
  -- Of the input no more is taken than the answer needs, whatever comes of it.
  pub taken : HasTaken token unread left
  -- Input that asks for no delivery leaves the records as they were.
  pub same : g.is_sound new → (input : List ℕ) → unread ≡ Some input → AsksNoDelivery token input → g.shows new ≡ g.shows old
  -- It ends by a failed read or a failed write alone.
  pub ends : IfErr result (λ fault. (fault ≡ Read) ⊎ (fault ≡ Write))
  -- The status is 503 exactly if there was a fault.
  pub exact : g.is_sound new → IfOk result (λ served. (served.status ≡ 503) ↔ IsSome served.fault)
  -- A fault is one that the keeper may answer.
  pub cause : IfOk result (λ served. IfSome served.fault (IsOfKeepers g.may_answer))
  -- A book that is sound in the end was sound before, one that is honest was so, and one that was shielded still is.
  pub outlasts : Outlasts g old new
  -- Of a book that was sound and is honest, only `Memory` and `Store` may have shut it, and then the response is 503, or after `Write` a
  -- part of it. After any other response it is still sound, so what is said above of that response holds, whatever comes later.
  pub stays : g.is_sound old → g.is_honest new → StaysServing result (g.is_sound new) blank written
  -- A book that is honest is sound after the call, or what was sent needed none. So over a book that had been shut before, a delivery gets
  -- 503, and a refusal is sent as ever. A report gets 503 too, or is of a state that was at hand.
  pub anyhow : g.is_honest new → g.is_sound new ⊎ ((input : List ℕ) × IsInput unread left input × AnswersAnyhow token result input blank written)
