-- RESPONSES as bytes (RFC 9112): a status line, fields, an empty line and a body.
use Rattle.std.specs.Prelude.{◌≡◌, ℕ, List, [], ◌∷◌, ◌++◌, length, Option, Some, None, decimal, codes}
use Rattle.std.specs.String.{string_bytes}
use Rattle.http.specs.StatusCode.{status_text}
use Rattle.gate_deliveries.specs.Errors.{error_text_of}
use Rattle.gate_http.specs.Targets.{method_of}
use Rattle.gate_deliveries.specs.declared.reading.DeliveryFault.{DeliveryFault}
use Rattle.gate_deliveries.specs.declared.reading.DeliveryFault.TheVariants.{NotJson, BadField, UnknownEvent, Memory}
use Rattle.gate_http.specs.declared.response.Response.{Response as ResponseOf}
use Rattle.gate_http.specs.declared.refusal.Refusal.{Refusal}
use Rattle.gate_http.specs.declared.refusal.Refusal.TheVariants.{BadRequest, Unauthorized, NotFound, MethodNotAllowed, NotImplemented, LengthRequired, ContentTooLarge, NoDelivery}

-- what is sent: the kind of the body if there is one, the method of the target if another was used, and what a token is asked for by
pub record Response : Type 0 where
  pub status : ℕ
  pub kind : Option (List ℕ)
  pub allow : Option (List ℕ)
  pub challenge : Option (List ℕ)
  pub body : List ℕ

-- each line ends so
abbrev pub line_end : List ℕ
line_end = 13 ∷ 10 ∷ []

abbrev pub field : List ℕ → List ℕ → List ℕ
field name value = name ++ (codes ": " ++ (value ++ line_end))

abbrev pub field_if : List ℕ → Option (List ℕ) → List ℕ
field_if name (Some value) = field name value
field_if name None = []

-- the message, of which three fields stand here only if they are needed
abbrev pub message : ℕ → List ℕ → List ℕ → List ℕ → List ℕ → List ℕ
message status kind allow challenge body =
    (codes "HTTP/1.1 " ++ status_text status ++ line_end)
    ++ (kind
    ++ (field (codes "Content-Length") (decimal (length body))
    ++ (allow
    ++ (challenge
    ++ (field (codes "Connection") (codes "close")
    ++ (line_end
    ++ body))))))

unfoldable pub response_text : Response → List ℕ
response_text response =
    message response.status (field_if (codes "Content-Type") response.kind) (field_if (codes "Allow") response.allow)
    (field_if (codes "WWW-Authenticate") response.challenge) response.body

-- the kind of a body that is JSON, and of one that is a report
abbrev pub json : List ℕ
json = codes "application/json"

abbrev pub plain : List ℕ
plain = codes "text/plain; charset=utf-8"

-- the scheme by which a token is asked for (RFC 6750, section 3)
abbrev pub bearer : List ℕ
bearer = codes "Bearer realm=\"gate\""

-- WHICH RESPONSE. One without a body:
abbrev pub bare : ℕ → Response
bare status = record { status = status; kind = None; allow = None; challenge = None; body = [] }

-- one whose body is a JSON text and a line feed
abbrev pub of_json : ℕ → List ℕ → Response
of_json status text = record { status = status; kind = Some json; allow = None; challenge = None; body = text ++ 10 ∷ [] }

-- of a body that is no delivery; `Memory` isn't what a body says, and never comes here
abbrev pub fault_status : DeliveryFault → ℕ
fault_status NotJson = 400
fault_status (BadField field) = 422
fault_status UnknownEvent = 422
fault_status Memory = 400

abbrev pub refusal_response : Refusal → Response
refusal_response BadRequest = bare 400
refusal_response Unauthorized = record { status = 401; kind = None; allow = None; challenge = Some bearer; body = [] }
refusal_response NotFound = bare 404
refusal_response (MethodNotAllowed target) = record { status = 405; kind = None; allow = Some (method_of target); challenge = None; body = [] }
refusal_response NotImplemented = bare 501
refusal_response LengthRequired = bare 411
refusal_response ContentTooLarge = bare 413
refusal_response (NoDelivery fault) = of_json (fault_status fault) (error_text_of fault)

-- the answer to a delivery
abbrev pub answer_response : List ℕ → Response
answer_response text = of_json 200 text

-- a report
abbrev pub report_response : List ℕ → Response
report_response text = record { status = 200; kind = Some plain; allow = None; challenge = None; body = text }

-- after a fault
abbrev pub fault_response : Response
fault_response = bare 503

-- WHAT THE CODE HOLDS, as clauses see it: a response that is ready to be sent
pub record IsResponse (made : ResponseOf) (response : Response) : Type 0 where
  pub status : made.status ≡ response.status
  pub text : string_bytes made.text ≡ response_text response
