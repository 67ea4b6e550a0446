-- What it tells of a request that it isn't refused, if a token is needed.
use Rattle.std.proofs.Common.{◌≡◌, ℕ, ◌==◌, Bool, true, false, true≢false, inl, inr, List, [], ◌∷◌, length, Some, Result, Ok, Err, codes, refl, sym, arith}
use Rattle.std.proofs.lemmas.Bool.Decides.{Decides-eqb}
use Rattle.httparse.specs.Grammar.{RequestHead}
use Rattle.gate_http.proofs.Numerals.{both}
use Rattle.gate_http.specs.Heads.{values_of}
use Rattle.gate_hook.specs.Requests.{asked}
use Rattle.gate_hook.specs.Told.{LawOfTokens}
use Rattle.gate_http.specs.Tokens.{bears, is_let_in}
use Rattle.gate_http.specs.declared.refusal.Refusal.{Refusal}
use Rattle.gate_http.specs.declared.refusal.Refusal.TheVariants.{BadRequest, Unauthorized}
use Rattle.gate_hook.specs.declared.requests.Request.{Request}

abbrev Wish : Type 0
Wish = Result Request Refusal

no_refusal : (request : Request) (refusal : Refusal) (wish : Wish) → wish ≡ Ok request → wish ≡ Err refusal → ⊥
no_refusal request refusal wish is other = grind (arith, is, other)

-- who isn't let in is refused
refused : (token : List ℕ) (head : RequestHead) (rest : List ℕ) → is_let_in (Some token) (values_of (codes "authorization") head) ≡ false → asked (Some token) head rest ≡ Err Unauthorized
refused token head rest shut = rw shut refl

let_in : (token : List ℕ) (head : RequestHead) (rest : List ℕ) (request : Request) → Ok request ≡ asked (Some token) head rest → (passes : Bool)
    → is_let_in (Some token) (values_of (codes "authorization") head) ≡ passes → is_let_in (Some token) (values_of (codes "authorization") head) ≡ true
let_in token head rest request asks true is = is
let_in token head rest request asks false is = absurd (no_refusal request Unauthorized (asked (Some token) head rest) (sym asks) (refused token head rest is))

some-other : (other : List ℕ) (others : List (List ℕ)) → length (other ∷ others) ≡ 0 → ⊥
some-other other others is = omega (arith, is)

-- one value, which bears the token
one-bears : (token : List ℕ) (values : List (List ℕ)) → is_let_in (Some token) values ≡ true → (value : List ℕ) × (values ≡ value ∷ []) × (bears token value ≡ true)
one-bears token [] is = absurd (true≢false (sym is))
one-bears token (value ∷ []) is = (value, refl, (both (length {A = List ℕ} [] == 0) (bears token value) is).1)
one-bears token (value ∷ (other ∷ others)) is =
    absurd (some-other other others ((Decides-eqb (length (other ∷ others)) 0).0 (both (length (other ∷ others) == 0) (bears token value) is).0))

pub tokens_law : LawOfTokens
tokens_law token input request (inl (head, rest, begins, asks)) =
    let one = one-bears token _ (let_in token head rest request asks _ refl) in
    (head, rest, one.0, begins, one.1, one.2)
tokens_law token input request (inr (none, refused)) = absurd (no_refusal request BadRequest (Ok request) refl refused)
