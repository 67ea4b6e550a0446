-- Input asks for one thing at the most.
use Rattle.std.proofs.Common.{◌≡◌, ℕ, inl, inr, List, Option, Result, sym, ap, ◌∙◌}
use Rattle.httparse.proofs.GrammarLemmas.{request_unique}
use Rattle.httparse.specs.Grammar.{RequestHead}
use Rattle.gate_hook.specs.Requests.{Asks, asked}
use Rattle.gate_http.specs.declared.refusal.Refusal.{Refusal}
use Rattle.gate_hook.specs.declared.requests.Request.{Request}

pub one-wish : (token : Option (List ℕ)) (input : List ℕ) (wish other : Result Request Refusal) → Asks token input wish → Asks token input other → wish ≡ other
one-wish token input wish other (inl (head, rest, begins, is)) (inl (head', rest', begins', is')) =
    let same = request_unique input head head' rest rest' begins.reads begins'.reads in
    is ∙ ap (λ (one : RequestHead). asked token one rest) same.0 ∙ ap (asked token head') same.1 ∙ sym is'
one-wish token input wish other (inl (head, rest, begins, is)) (inr (none, is')) = absurd (none head rest begins)
one-wish token input wish other (inr (none, is)) (inl (head, rest, begins, is')) = absurd (none head rest begins)
one-wish token input wish other (inr (none, is)) (inr (none', is')) = is ∙ sym is'
