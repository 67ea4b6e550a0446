-- From what was asked to what is sent.
use Rattle.std.proofs.Common.{◌≡◌, ◌⊎◌, inl, inr, ℕ, ◌<◌, List, [], ◌++◌, length, take, Option, Some, None, Result, Ok, Err, refl, sym, ap, arith, true≢false, ◌↔◌, IfSome, IsSome, IfErr, IfOk, OnErr, OnOk, subst, ◌∙◌}
use Rattle.std.proofs.KnownBytes.{Appends-nil}
use Rattle.std.specs.Io.KnownBytes.{Appends, Consumes}
use Rattle.std.specs.String.{string_bytes}
use Rattle.gate_queue.specs.declared.fault.Fault.{Fault}
use Rattle.gate_queue.specs.declared.fault.Fault.TheVariants.{Memory, Store, Full, Foreign}
use Rattle.gate_store.specs.Run.{IsOfKeepers, IsOpenAfter, Records}
use Rattle.gate_hook.specs.Receiving.{HasKept, IsInput, IsUnread}
use Rattle.gate_hook.specs.Requests.{Asks}
use Rattle.gate_hook.specs.Responding.{Answers, HasConsumed, HasSent, IsTranscript, MakesAnyhow, MayFail, Responds, RespondsAnyhow}
use Rattle.gate_http.specs.Responses.{IsResponse, Response, fault_response, response_text}
use Rattle.gate_hook.specs.Sending.{IsCutOff}
use Rattle.gate_hook.specs.Served.{AnswersAnyhow, AnswersOne, AsksNoDelivery, Breaks, IsDue, NeedsNoBook, StaysServing, after_wish, report_in, response_to, response_to_report}
use Rattle.gate_hook.specs.Serving.{IsSoundAfter}
use Rattle.gate_hook.specs.declared.fault.HookFault.{HookFault}
use Rattle.gate_hook.specs.declared.fault.HookFault.TheVariants.{Gate, Read, Write, TooMuch}
use Rattle.gate_http.specs.declared.refusal.Refusal.{Refusal}
use Rattle.gate_hook.specs.declared.requests.Request.{Request}
use Rattle.gate_hook.specs.declared.requests.Request.TheVariants.{Delivery, Report}
use Rattle.gate_hook.specs.declared.requests.Served.{Served}
use Rattle.gate_http.specs.declared.refusal.Refusal.TheVariants.{BadRequest, Unauthorized, NotFound, MethodNotAllowed, NotImplemented, LengthRequired, ContentTooLarge, NoDelivery}
use Rattle.gate_deliveries.specs.declared.reading.DeliveryFault.TheVariants.{NotJson, BadField, UnknownEvent, Memory as NoMemory}
use Rattle.gate_http.specs.declared.response.Response.{Response as Made}
use Rattle.gate_http.specs.declared.target.Report.{Report as About}
use Rattle.gate_hook.proofs.Losing.{kept-all}
use Rattle.gate_hook.proofs.NoHead.{is-left, left_of}

-- A REQUEST THAT WASN'T READ: some input, and nothing has changed
pub some-input : (before after : Option (List ℕ)) → ((taken : List ℕ) × Consumes before after taken) → (input : List ℕ) × IsInput before after input
some-input before after (taken, consumed) = (taken ++ left_of after, (taken, left_of after, consumed, is-left after, refl))

pub answers-unread : (token : Option (List ℕ)) (fault : HookFault) (input : List ℕ) (records : Records) → IsUnread fault → Answers token (Err fault) input records records
answers-unread token fault input records (inl read) = rw read refl
answers-unread token fault input records (inr memory) = rw memory (inl refl)

pub unread-stays : (fault : HookFault) (sound : Type 0) → IsUnread fault → sound → IsSoundAfter fault sound
unread-stays fault sound (inl read) is = rw read is
unread-stays fault sound (inr memory) is = rw memory tt

pub unread-fails : (may_answer : Fault → Type 0) (fault : HookFault) → IsUnread fault → MayFail may_answer fault
unread-fails may_answer fault (inl read) = rw read tt
unread-fails may_answer fault (inr memory) = rw memory (inl (inl refl))

-- ONE THAT WAS READ
pub answers-read : (token : Option (List ℕ)) (result : Result Made HookFault) (input : List ℕ) (wish : Result Request Refusal) (old new : Records)
    → Asks token input wish → Responds result old wish new → Answers token result input old new
answers-read token (Ok made) input wish old new asks responds = (wish, asks, responds.0, responds.1, responds.2)
answers-read token (Err (Gate Memory)) input wish old new asks (inl same) = inl same
answers-read token (Err (Gate Memory)) input wish old new asks (inr kept) = inr (wish, asks, kept.0, kept.1)
answers-read token (Err (Gate Store)) input wish old new asks responds = (responds.0, (wish, asks, responds.1))
answers-read token (Err (Gate Full)) input wish old new asks responds = (responds.0, (wish, asks, responds.1))
answers-read token (Err (Gate Foreign)) input wish old new asks responds = absurd responds
answers-read token (Err Read) input wish old new asks responds = absurd responds
answers-read token (Err Write) input wish old new asks responds = absurd responds
answers-read token (Err TooMuch) input wish old new asks responds = absurd responds

-- WHAT IS SENT
due : (token : Option (List ℕ)) (made : Made) (input : List ℕ) (old new : Records) → (is : Answers token (Ok made) input old new) → IsDue token input old (response_to old is.0) None new
due token made input old new is = (is.0, is.1, refl, is.3, is.4)

pub sends-response : (token : Option (List ℕ)) (result : Result Served HookFault) (made : Made) (input : List ℕ) (old new : Records) (before after : Option (List ℕ))
    → Answers token (Ok made) input old new → HasSent result (record { status = made.status; fault = None }) (string_bytes made.text) before after
    → AnswersOne token result input old new before after
sends-response token (Ok done) made input old new before after is sent =
    subst (λ (served : Served). AnswersOne token (Ok served) input old new before after) (sym sent.0)
    (response_to old is.0, due token made input old new is, is.2.status, subst (Appends before after) is.2.text sent.1)
sends-response token (Err Write) made input old new before after is sent = (
  response_to old is.0,
  None,
  due token made input old new is,
  subst (λ (text : List ℕ). (taken : ℕ) × (taken < length text) × Appends before after (take taken text)) is.2.text sent,
)
sends-response token (Err Read) made input old new before after is sent = absurd sent
sends-response token (Err (Gate fault)) made input old new before after is sent = absurd sent
sends-response token (Err TooMuch) made input old new before after is sent = absurd sent

pub sends-fault : (token : Option (List ℕ)) (result : Result Served HookFault) (fault : Fault) (input : List ℕ) (old new : Records) (before after : Option (List ℕ)) (text : List ℕ)
    → text ≡ response_text fault_response → Breaks token input fault old new → HasSent result (record { status = 503; fault = Some fault }) text before after
    → AnswersOne token result input old new before after
sends-fault token (Ok done) fault input old new before after text is breaks sent =
    subst (λ (served : Served). AnswersOne token (Ok served) input old new before after) (sym sent.0)
    (fault_response, (refl, breaks), refl, subst (Appends before after) is sent.1)
sends-fault token (Err Write) fault input old new before after text is breaks sent = (
  fault_response,
  Some fault,
  (refl, breaks),
  subst (λ (text : List ℕ). (taken : ℕ) × (taken < length text) × Appends before after (take taken text)) is sent,
)
sends-fault token (Err Read) fault input old new before after text is breaks sent = absurd sent
sends-fault token (Err (Gate other)) fault input old new before after text is breaks sent = absurd sent
sends-fault token (Err TooMuch) fault input old new before after text is breaks sent = absurd sent

pub sends-unread : (token : Option (List ℕ)) (fault : HookFault) (input : List ℕ) (old new : Records) (written : Option (List ℕ)) → fault ≡ Read
    → Answers token (Err fault) input old new → AnswersOne token (Err fault) input old new written written
sends-unread token fault input old new written read is =
    subst (λ (met : HookFault). AnswersOne token (Err met) input old new written written) (sym read)
    (subst (λ (met : HookFault). Answers token (Err met) input old new) read is, Appends-nil written)

-- It ends by a failed write alone, and then there is no fault to tell, or the fault that was met is told.
pub ends-sent : (result : Result Served HookFault) (served : Served) (text : List ℕ) (before after : Option (List ℕ)) → HasSent result served text before after
    → IfErr result (λ (fault : HookFault). (fault ≡ Read) ⊎ (fault ≡ Write))
ends-sent (Ok done) served text before after sent = tt
ends-sent (Err Write) served text before after sent = inr refl
ends-sent (Err Read) served text before after sent = inl refl
ends-sent (Err (Gate fault)) served text before after sent = absurd sent
ends-sent (Err TooMuch) served text before after sent = absurd sent

pub told-sent : (may_answer : Fault → Type 0) (result : Result Served HookFault) (served : Served) (text : List ℕ) (before after : Option (List ℕ))
    → IfSome served.fault (IsOfKeepers may_answer) → HasSent result served text before after
    → IfOk result (λ (done : Served). IfSome done.fault (IsOfKeepers may_answer))
told-sent may_answer (Ok done) served text before after cause sent =
    subst (λ (one : Served). IfSome one.fault (IsOfKeepers may_answer)) (sym sent.0) cause
told-sent may_answer (Err fault) served text before after cause sent = tt

-- THE TRANSCRIPT
pub consumed-anyhow : {X : Type 0} (result : Result X HookFault) (before after : Option (List ℕ)) (bytes : List ℕ) → Consumes before after bytes → HasConsumed result before after bytes
consumed-anyhow (Ok done) before after bytes consumed = consumed
consumed-anyhow (Err fault) before after bytes consumed = kept-all before after bytes consumed

pub written-down : (result : Result Served HookFault) (status : ℕ) (request response middle text : List ℕ) (before after old new : Option (List ℕ))
    → OnOk result (response ≡ text) → OnErr result (response ≡ middle) → middle ≡ [] → Consumes before after request
    → HasSent result (record { status = status; fault = None }) text old new
    → IsTranscript result request response before after old new
written-down (Ok done) status request response middle text before after old new told untold none consumed sent =
    subst (λ (served : Served). IsTranscript (Ok served) request response before after old new) (sym sent.0)
    (consumed, subst (Appends old new) (sym told) sent.1)
written-down (Err Write) status request response middle text before after old new told untold none consumed sent =
    (kept-all before after request consumed, untold ∙ none)
written-down (Err Read) status request response middle text before after old new told untold none consumed sent = absurd sent
written-down (Err (Gate fault)) status request response middle text before after old new told untold none consumed sent = absurd sent
written-down (Err TooMuch) status request response middle text before after old new told untold none consumed sent = absurd sent

pub fault-written-down : (result : Result Served HookFault) (fault : Fault) (request response text : List ℕ) (before after old new : Option (List ℕ))
    → text ≡ response_text fault_response → HasKept before after request → response ≡ []
    → HasSent result (record { status = 503; fault = Some fault }) text old new
    → IsTranscript result request response before after old new
fault-written-down (Ok done) fault request response text before after old new is kept none sent =
    subst (λ (served : Served). IsTranscript (Ok served) request response before after old new) (sym sent.0) (kept, none)
fault-written-down (Err Write) fault request response text before after old new is kept none sent = (kept, none)
fault-written-down (Err Read) fault request response text before after old new is kept none sent = absurd sent
fault-written-down (Err (Gate other)) fault request response text before after old new is kept none sent = absurd sent
fault-written-down (Err TooMuch) fault request response text before after old new is kept none sent = absurd sent

-- WHAT IS TOLD OF A BOOK THAT WAS SOUND AND IS HONEST
pub stays-response : (result : Result Served HookFault) (made : Made) (sound : Type 0) (before after : Option (List ℕ))
    → sound → HasSent result (record { status = made.status; fault = None }) (string_bytes made.text) before after → StaysServing result sound before after
stays-response (Ok done) made sound before after is sent =
    subst (λ (served : Served). StaysServing (Ok served) sound before after) (sym sent.0) is
stays-response (Err Write) made sound before after is sent = (None, is)
stays-response (Err Read) made sound before after is sent = absurd sent
stays-response (Err (Gate fault)) made sound before after is sent = absurd sent
stays-response (Err TooMuch) made sound before after is sent = absurd sent

pub stays-fault : (result : Result Served HookFault) (fault : Fault) (sound : Type 0) (before after : Option (List ℕ)) (text : List ℕ)
    → text ≡ response_text fault_response → IsOpenAfter fault sound → HasSent result (record { status = 503; fault = Some fault }) text before after
    → StaysServing result sound before after
stays-fault (Ok done) fault sound before after text is stays sent =
    subst (λ (served : Served). StaysServing (Ok served) sound before after) (sym sent.0) (stays, (refl, subst (Appends before after) is sent.1))
stays-fault (Err Write) fault sound before after text is stays sent =
    (Some fault, (stays, subst (λ (text : List ℕ). IsCutOff text before after) is sent))
stays-fault (Err Read) fault sound before after text is stays sent = absurd sent
stays-fault (Err (Gate other)) fault sound before after text is stays sent = absurd sent
stays-fault (Err TooMuch) fault sound before after text is stays sent = absurd sent

pub read-stays : (fault : HookFault) (sound : Type 0) (before after : Option (List ℕ)) → fault ≡ Read → IsSoundAfter fault sound → StaysServing (Err fault) sound before after
read-stays fault sound before after read is =
    subst (λ (met : HookFault). StaysServing (Err met) sound before after) (sym read) (subst (λ (met : HookFault). IsSoundAfter met sound) read is)

-- WHAT NEEDS NO BOOK
pub report-anyhow : (made : Made) (wish : Result Request Refusal) (report : About) → wish ≡ Ok (Report report)
    → ((records : Records) × IsResponse made (response_to records (Ok (Report report))))
    → NeedsNoBook wish × ((records : Records) × IsResponse made (response_to records wish))
report-anyhow made wish report is anyhow =
    subst (λ (asked : Result Request Refusal). NeedsNoBook asked × ((records : Records) × IsResponse made (response_to records asked))) (sym is) (tt, anyhow)

pub makes-anyhow : (token : Option (List ℕ)) (result : Result Made HookFault) (input : List ℕ) (wish : Result Request Refusal)
    → Asks token input wish → RespondsAnyhow result wish → MakesAnyhow token result input
makes-anyhow token (Ok made) input wish asks anyhow = (wish, asks, anyhow.0, anyhow.1)
makes-anyhow token (Err fault) input wish asks anyhow = tt

pub sends-anyhow : (token : Option (List ℕ)) (result : Result Served HookFault) (made : Made) (input : List ℕ) (before after : Option (List ℕ))
    → MakesAnyhow token (Ok made) input → HasSent result (record { status = made.status; fault = None }) (string_bytes made.text) before after
    → AnswersAnyhow token result input before after
sends-anyhow token (Ok done) made input before after is sent =
    subst (λ (served : Served). AnswersAnyhow token (Ok served) input before after) (sym sent.0) (
      response_to is.3.0 is.0,
      (is.0, is.1, is.2, (is.3.0, refl)),
      is.3.1.status,
      subst (Appends before after) is.3.1.text sent.1,
    )
sends-anyhow token (Err Write) made input before after is sent = (
  response_to is.3.0 is.0,
  None,
  (is.0, is.1, is.2, (is.3.0, refl)),
  subst (λ (text : List ℕ). IsCutOff text before after) is.3.1.text sent,
)
sends-anyhow token (Err Read) made input before after is sent = absurd sent
sends-anyhow token (Err (Gate fault)) made input before after is sent = absurd sent
sends-anyhow token (Err TooMuch) made input before after is sent = absurd sent

pub fault-anyhow : (token : Option (List ℕ)) (result : Result Served HookFault) (fault : Fault) (input : List ℕ) (before after : Option (List ℕ)) (text : List ℕ)
    → text ≡ response_text fault_response → HasSent result (record { status = 503; fault = Some fault }) text before after
    → AnswersAnyhow token result input before after
fault-anyhow token (Ok done) fault input before after text is sent =
    subst (λ (served : Served). AnswersAnyhow token (Ok served) input before after) (sym sent.0)
    (fault_response, refl, refl, subst (Appends before after) is sent.1)
fault-anyhow token (Err Write) fault input before after text is sent =
    (fault_response, Some fault, refl, subst (λ (told : List ℕ). IsCutOff told before after) is sent)
fault-anyhow token (Err Read) fault input before after text is sent = absurd sent
fault-anyhow token (Err (Gate other)) fault input before after text is sent = absurd sent
fault-anyhow token (Err TooMuch) fault input before after text is sent = absurd sent

pub unread-anyhow : (token : Option (List ℕ)) (fault : HookFault) (input : List ℕ) (written : Option (List ℕ)) → fault ≡ Read
    → AnswersAnyhow token (Err fault) input written written
unread-anyhow token fault input written read =
    subst (λ (met : HookFault). AnswersAnyhow token (Err met) input written written) (sym read) (Appends-nil written)

-- INPUT THAT ASKS FOR NO DELIVERY
known-input : (after : Option (List ℕ)) (whole input : List ℕ) → IsInput (Some whole) after input → input ≡ whole
known-input None whole input is = absurd is.2
known-input (Some known) whole input is = is.4 ∙ ap (λ (rest : List ℕ). is.0 ++ rest) is.3 ∙ sym is.2

same-input : (before after : Option (List ℕ)) (whole input : List ℕ) → before ≡ Some whole → IsInput before after input → input ≡ whole
same-input before after whole input known is = known-input after whole input (subst (λ (old : Option (List ℕ)). IsInput old after input) known is)

quiet-wish : (token : Option (List ℕ)) (wish : Result Request Refusal) (input : List ℕ) (old new : Records) → AsksNoDelivery token input → Asks token input wish → new ≡ after_wish old wish → new ≡ old
quiet-wish token (Ok (Delivery delivery)) input old new none asks is = absurd (none delivery asks)
quiet-wish token (Ok (Report report)) input old new none asks is = is
quiet-wish token (Err refusal) input old new none asks is = is

pub quiet-same : (token : Option (List ℕ)) (result : Result Made HookFault) (input : List ℕ) (old new : Records) → AsksNoDelivery token input → Answers token result input old new → new ≡ old
quiet-same token (Ok made) input old new none is = quiet-wish token is.0 input old new none is.1 is.3
quiet-same token (Err (Gate Memory)) input old new none (inl same) = same
quiet-same token (Err (Gate Memory)) input old new none (inr kept) = quiet-wish token kept.0 input old new none kept.1 kept.2
quiet-same token (Err (Gate Store)) input old new none is = is.0
quiet-same token (Err (Gate Full)) input old new none is = is.0
quiet-same token (Err (Gate Foreign)) input old new none is = absurd is
quiet-same token (Err Read) input old new none is = is
quiet-same token (Err Write) input old new none is = absurd is
quiet-same token (Err TooMuch) input old new none is = absurd is

pub unchanged : (token : Option (List ℕ)) (result : Result Made HookFault) (before after : Option (List ℕ)) (whole input : List ℕ) (old new : Records)
    → before ≡ Some whole → IsInput before after input → Answers token result input old new → AsksNoDelivery token whole → new ≡ old
unchanged token result before after whole input old new known is answers none =
    quiet-same token result input old new (subst (AsksNoDelivery token) (sym (same-input before after whole input known is)) none) answers

-- 503 IS THE STATUS AFTER A FAULT ALONE
report-not_503 : (text : Option (List ℕ)) → (response_to_report text).status ≡ 503 → ⊥
report-not_503 (Some text) is = grind (arith, is)
report-not_503 None is = grind (arith, is)

not_503 : (records : Records) (wish : Result Request Refusal) → (response_to records wish).status ≡ 503 → ⊥
not_503 records (Ok (Delivery delivery)) is = grind (arith, is)
not_503 records (Ok (Report report)) is = report-not_503 (report_in records.state report) is
not_503 records (Err BadRequest) is = grind (arith, is)
not_503 records (Err Unauthorized) is = grind (arith, is)
not_503 records (Err NotFound) is = grind (arith, is)
not_503 records (Err (MethodNotAllowed target)) is = grind (arith, is)
not_503 records (Err NotImplemented) is = grind (arith, is)
not_503 records (Err LengthRequired) is = grind (arith, is)
not_503 records (Err ContentTooLarge) is = grind (arith, is)
not_503 records (Err (NoDelivery NotJson)) is = grind (arith, is)
not_503 records (Err (NoDelivery (BadField field))) is = grind (arith, is)
not_503 records (Err (NoDelivery UnknownEvent)) is = grind (arith, is)
not_503 records (Err (NoDelivery NoMemory)) is = grind (arith, is)

told : (token : Option (List ℕ)) (status : ℕ) (fault : Option Fault) (input : List ℕ) (old new : Records) (response : Response) → IsDue token input old response fault new → status ≡ response.status
    → (status ≡ 503) ↔ IsSome fault
told token status None input old new response is_due is = (λ (unavailable : status ≡ 503). absurd (not_503 old is_due.0 (sym (ap (λ (one : Response). one.status) is_due.2) ∙ sym is ∙ unavailable)), λ some. absurd (true≢false (sym some)))
told token status (Some fault) input old new response is_due is = (λ unavailable. refl, λ some. is ∙ ap (λ (one : Response). one.status) is_due.0)

pub exact-one : (token : Option (List ℕ)) (result : Result Served HookFault) (input : List ℕ) (old new : Records) (before after : Option (List ℕ))
    → AnswersOne token result input old new before after → IfOk result (λ (served : Served). (served.status ≡ 503) ↔ IsSome served.fault)
exact-one token (Ok served) input old new before after is = told token served.status served.fault input old new is.0 is.1 is.2
exact-one token (Err fault) input old new before after is = tt
