-- A delivery that a request asks for keeps the limits of its type, and is served as the run on it.
use Rattle.std.proofs.Common.{ℕ, List, [], Option, Result, Ok, Err, inl, inr, IfOk, sym, subst}
use Rattle.std.specs.Prelude.{⊤}
use Rattle.std.proofs.lemmas.List.Elements.{All-nil, All-cons}
use Rattle.gate_text.specs.Steps.{◌>>=◌}
use Rattle.gate_store.specs.Headline.{LawOfHeadlines, LawOfTelling}
use Rattle.gate_deliveries.specs.declared.delivery.Delivery.{Delivery}
use Rattle.gate_deliveries.specs.Deliveries.{delivery_of}
use Rattle.gate_http.specs.Heads.{ask_in}
use Rattle.gate_hook.specs.Requests.{Asks, asked_by, body_in, delivery_or_refusal}
use Rattle.gate_hook.specs.Told.{LawOfRequests, LawOfRequestHistories}
use Rattle.gate_http.specs.declared.head.Ask.{Ask}
use Rattle.gate_http.specs.declared.head.Ask.TheVariants as ask
use Rattle.gate_deliveries.specs.declared.reading.DeliveryFault.{DeliveryFault}
use Rattle.gate_http.specs.declared.refusal.Refusal.{Refusal}
use Rattle.gate_hook.specs.declared.requests.Request.{Request}
use Rattle.gate_hook.specs.declared.requests.Request.TheVariants as request
use Rattle.gate_hook.proofs.OnLines.{DeliveryKeeps, read_keeps}

abbrev pub WishKeeps : Result Request Refusal → Type 0
WishKeeps (Ok (request.Delivery delivery)) = DeliveryKeeps delivery
WishKeeps (Ok (request.Report report)) = ⊤
WishKeeps (Err refusal) = ⊤

told_keeps : (reading : Result Delivery DeliveryFault) → IfOk reading DeliveryKeeps → WishKeeps (delivery_or_refusal reading)
told_keeps (Ok delivery) keeps = keeps
told_keeps (Err fault) keeps = tt

body_keeps : (body : Result (List ℕ) Refusal) → WishKeeps (body >>= (λ text. delivery_or_refusal (delivery_of text)))
body_keeps (Ok text) = told_keeps (delivery_of text) (read_keeps text)
body_keeps (Err refusal) = tt

asked_keeps : (said : Result Ask Refusal) (rest : List ℕ) → WishKeeps (asked_by said rest)
asked_keeps (Ok (ask.Delivery size)) rest = body_keeps (body_in size rest)
asked_keeps (Ok (ask.Report report)) rest = tt
asked_keeps (Err refusal) rest = tt

wish_keeps : (token : Option (List ℕ)) (input : List ℕ) (wish : Result Request Refusal) → Asks token input wish → WishKeeps wish
wish_keeps token input wish (inl asks) = subst WishKeeps (sym asks.3) (asked_keeps (ask_in token asks.0) asks.1)
wish_keeps token input wish (inr none) = subst WishKeeps (sym none.1) tt

-- THE LAW
pub requests_law : LawOfHeadlines → LawOfRequests
requests_law law token old input delivery asks room = law old _ (All-cons DeliveryKeeps delivery [] (wish_keeps token input _ asks) (All-nil DeliveryKeeps)) (room, tt)

pub request_histories_law : LawOfTelling → LawOfRequestHistories
request_histories_law law token old input delivery asks room = law old _ (All-cons DeliveryKeeps delivery [] (wish_keeps token input _ asks) (All-nil DeliveryKeeps)) (room, tt)
