-- THE HEADLINE OF LINES AND REQUESTS: of what is written for them, and of the records after them.
use Rattle.std.specs.Prelude.{◌≡◌, ℕ, true, false, List, [], ◌∷◌, Option, Some, None, Ok, codes, if◌then◌else◌}
use Rattle.std.specs.List.{filter_map}
use Rattle.std.specs.Result.{result_ok}
use Rattle.httparse.specs.Grammar.{RequestHead}
use Rattle.gate_queue.specs.History.{Entry, Legal}
use Rattle.gate_store.specs.Headline.{Headline, HistoryTells}
use Rattle.gate_store.specs.Run.{Records, answer_to, answers_to, after_delivery, meets_full}
use Rattle.gate_deliveries.specs.declared.delivery.Delivery.{Delivery}
use Rattle.gate_deliveries.specs.Deliveries.{delivery_of}
use Rattle.gate_hook.specs.Lines.{is_too_long, after_lines, NoLineMeetsFull}
use Rattle.gate_http.specs.Heads.{BeginsWith, values_of}
use Rattle.gate_hook.specs.Requests.{Asks}
use Rattle.gate_http.specs.Tokens.{bears}
use Rattle.gate_hook.specs.declared.requests.Request.{Request}
use Rattle.gate_hook.specs.declared.requests.Request.TheVariants.{Delivery as DeliveryOf}

-- the deliveries that lines are, in order
abbrev pub delivery_on : List ℕ → Option Delivery
delivery_on line = if is_too_long line then None else result_ok (delivery_of line)

abbrev pub deliveries_on : List (List ℕ) → List Delivery
deliveries_on lines = filter_map delivery_on lines

-- If none of the lines is a delivery of which an act meets a full gate, the headline holds of their deliveries, of the answers of
-- which the texts are written, and of the records after the lines.
abbrev pub LawOfLines : Type 0
LawOfLines = (old : Records) (lines : List (List ℕ)) → NoLineMeetsFull old lines
    → Headline old (deliveries_on lines) (answers_to old (deliveries_on lines)) (after_lines old lines)

abbrev pub LawOfLineHistories : Type 0
LawOfLineHistories = (old : Records) (lines : List (List ℕ)) → NoLineMeetsFull old lines
    → (history : List Entry) → Legal history old.state → HistoryTells old (deliveries_on lines) (after_lines old lines) history

-- If a token is needed, input that asks for something and isn't refused begins with a head that has one field `Authorization`, which
-- bears the token.
abbrev pub LawOfTokens : Type 0
LawOfTokens = (token input : List ℕ) (request : Request) → Asks (Some token) input (Ok request)
    → (head : RequestHead) × (rest value : List ℕ) × BeginsWith input head rest × (values_of (codes "authorization") head ≡ value ∷ []) × (bears token value ≡ true)

-- If a request asks for a delivery of which no act meets a full gate, the headline holds of that delivery, of the answer of which the
-- text is written, and of the records after it.
abbrev pub LawOfRequests : Type 0
LawOfRequests = (token : Option (List ℕ)) (old : Records) (input : List ℕ) (delivery : Delivery) → Asks token input (Ok (DeliveryOf delivery)) → meets_full old delivery ≡ false
    → Headline old (delivery ∷ []) (answer_to old delivery ∷ []) (after_delivery old delivery)

abbrev pub LawOfRequestHistories : Type 0
LawOfRequestHistories = (token : Option (List ℕ)) (old : Records) (input : List ℕ) (delivery : Delivery) → Asks token input (Ok (DeliveryOf delivery)) → meets_full old delivery ≡ false
    → (history : List Entry) → Legal history old.state → HistoryTells old (delivery ∷ []) (after_delivery old delivery) history
