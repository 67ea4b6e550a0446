-- REQUESTS: what a request asks for, or why it is refused, in the order of the checks.
use Rattle.std.specs.Prelude.{◌≡◌, ◌⊎◌, ℕ, ◌<◌, ◌≤◌, nat_le, List, length, take, Option, Result, Ok, Err, if◌then◌else◌}
use Rattle.httparse.specs.Grammar.{RequestHead}
use Rattle.gate_text.specs.Steps.{◌>>=◌}
use Rattle.gate_deliveries.specs.declared.delivery.Delivery.{Delivery}
use Rattle.gate_deliveries.specs.Deliveries.{delivery_of}
use Rattle.gate_http.specs.Heads.{BeginsWith, HasNoHead, ask_in, max_head, needed_by}
use Rattle.gate_http.specs.declared.head.Ask.{Ask}
use Rattle.gate_http.specs.declared.head.Ask.TheVariants.{Delivery as TheDelivery, Report as TheReport}
use Rattle.gate_deliveries.specs.declared.reading.DeliveryFault.{DeliveryFault}
use Rattle.gate_http.specs.declared.refusal.Refusal.{Refusal}
use Rattle.gate_http.specs.declared.refusal.Refusal.TheVariants.{BadRequest, NoDelivery}
use Rattle.gate_hook.specs.declared.requests.Request.{Request}
use Rattle.gate_hook.specs.declared.requests.Request.TheVariants.{Delivery as DeliveryOf, Report as ReportOf}

-- so many bytes of the rest are the body
abbrev pub body_in : ℕ → List ℕ → Result (List ℕ) Refusal
body_in size rest = if nat_le size (length rest) then Ok (take size rest) else Err BadRequest

abbrev pub delivery_or_refusal : Result Delivery DeliveryFault → Result Request Refusal
delivery_or_refusal (Ok delivery) = Ok (DeliveryOf delivery)
delivery_or_refusal (Err fault) = Err (NoDelivery fault)

-- what the bytes behind a head ask for, by what the head asks for
abbrev pub asked_for : Ask → List ℕ → Result Request Refusal
asked_for (TheDelivery size) rest = do
  body ← body_in size rest
  delivery_or_refusal (delivery_of body)
asked_for (TheReport report) rest = Ok (ReportOf report)

abbrev pub asked_by : Result Ask Refusal → List ℕ → Result Request Refusal
asked_by said rest = do
  ask ← said
  asked_for ask rest

-- what the request asks for, if this token is needed, or none
abbrev pub asked : Option (List ℕ) → RequestHead → List ℕ → Result Request Refusal
asked token head rest = asked_by (ask_in token head) rest

-- what the input asks for: it has one head at the most, and input without a head is refused
abbrev pub Asks : Option (List ℕ) → List ℕ → Result Request Refusal → Type 0
Asks token input wish =
    ((head : RequestHead) × (rest : List ℕ) × BeginsWith input head rest × (wish ≡ asked token head rest))
    ⊎ (HasNoHead input × (wish ≡ Err BadRequest))

-- so many bytes are read at once
abbrev pub piece : ℕ
piece = 1024

-- HOW MUCH IS TAKEN. Behind a head stand as many bytes of the input as the answer needs, or fewer than a piece: they may have come with
-- the end of the head. Of input that shows no head, as many are taken as a head may have.
pub record TakesAsNeeded (token : Option (List ℕ)) (taken : List ℕ) : Type 0 where
  pub behind : (head : RequestHead) (rest : List ℕ) → BeginsWith taken head rest → (length rest < piece) ⊎ (length rest ≤ needed_by (ask_in token head))
  pub before : HasNoHead taken → length taken ≤ max_head
