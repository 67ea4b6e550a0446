-- A file that was read for a token, as far as it had to be.
use Rattle.std.proofs.Common.{◌≡◌, ℕ, ◌+◌, ◌-◌, ◌≤◌, ◌⊎◌, inl, inr, List, [], ◌++◌, length, Option, Ok, refl, sym, ap, ◌∙◌, length-append, arith}
use Rattle.std.proofs.lemmas.List.{append-nil}
use Rattle.std.specs.Io.KnownBytes.{IsAtEnd}
use Rattle.gate_http.specs.Tokens.{max_token, token_in}
use Rattle.gate_http.proofs.Tokens.{no-token}
use Rattle.gate_hook.specs.Receiving.{HasReadBody, IsInput}
use Rattle.gate_hook.proofs.Asking.{left-none}
use Rattle.gate_hook.proofs.NoHead.{is-left, left_of}

-- A file that was read: to its end, or as far as shows that it holds no token.
read-whole : (more : List ℕ) (after : Option (List ℕ)) → (max_token + 3 ≤ length more) ⊎ IsAtEnd after → token_in more ≡ token_in (more ++ left_of after)
read-whole more after (inl long) =
    no-token more long ∙ sym (no-token (more ++ left_of after) (omega (arith, long, length-append more (left_of after))))
read-whole more after (inr end) =
    ap token_in (sym (ap (λ (rest : List ℕ). more ++ rest) (left-none after end) ∙ append-nil more))

pub token-read : (before after : Option (List ℕ)) (old bytes : List ℕ) (read : Option (List ℕ)) → old ≡ []
    → HasReadBody (Ok tt) before after old bytes 0 1027 → read ≡ token_in bytes → (input : List ℕ) × IsInput before after input × (read ≡ token_in input)
token-read before after old bytes read none body is =
    let more = body.0 in
    let all : bytes ≡ more = body.2 ∙ ap (λ (front : List ℕ). front ++ more) none in
    let enough : (max_token + 3 ≤ length more) ⊎ IsAtEnd after = ends more all body.3 in (
      more ++ left_of after,
      (more, left_of after, body.1, is-left after, refl),
      is ∙ ap token_in all ∙ read-whole more after enough,
    )
  where
    ends : (more : List ℕ) → bytes ≡ more → (1027 ≤ length bytes - 0) ⊎ IsAtEnd after → (max_token + 3 ≤ length more) ⊎ IsAtEnd after
    ends more all (inl long) = inl (omega (arith, long, ap length all))
    ends more all (inr end) = inr end
