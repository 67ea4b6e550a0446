-- What was told of a head stays true if more bytes come behind it.
use Rattle.std.proofs.Common.{◌≡◌, ℕ, ◌-◌, List, [], ◌∷◌, ◌++◌, length, take, drop, Option, Some, sym, ap, subst, ◌∙◌, append_assoc, length-append, length-drop, arith}
use Rattle.std.proofs.lemmas.List.{drop-append-le, take-append-le}
use Rattle.httparse.specs.Grammar.{HasNoRequest, print_request}
use Rattle.httparse.specs.Spans.{IsWithin, span_bytes}
use Rattle.httparse.specs.declared.spans.Span.{Span}
use Rattle.gate_http.specs.Heads.{HasLineAt, IsHeadOf, IsHeadRead}
use Rattle.gate_http.specs.declared.head.Head.{Head}

some-byte : (front target version end section rest : List ℕ) (byte : ℕ) → [] ≡ (((front ++ byte ∷ target) ++ version) ++ end) ++ section ++ rest → ⊥
some-byte front target version end section rest byte is = omega (
  arith,
  ap length is,
  length-append ((((front ++ byte ∷ target) ++ version) ++ end) ++ section) rest,
  length-append (((front ++ byte ∷ target) ++ version) ++ end) section,
  length-append ((front ++ byte ∷ target) ++ version) end,
  length-append (front ++ byte ∷ target) version,
  length-append front (byte ∷ target),
)

-- no head stands in no bytes
pub none-yet : HasNoRequest []
unfolding print_request
none-yet head rest reads = some-byte _ head.target _ _ _ rest _ reads.1

-- a part of the first bytes
same-part : (bytes more : List ℕ) (part : Span) → IsWithin (length bytes) part → span_bytes (bytes ++ more) part ≡ span_bytes bytes part
same-part bytes more part within =
    ap (take (part.end - part.start)) (drop-append-le part.start bytes more (omega (arith, within.0, within.1)))
    ∙ take-append-le (part.end - part.start) (drop part.start bytes) more (omega (arith, within.0, within.1, length-drop part.start bytes))

still-within : (bytes more : List ℕ) (part : Span) → IsWithin (length bytes) part → IsWithin (length (bytes ++ more)) part
still-within bytes more part within = (within.0, omega (arith, within.1, length-append bytes more))

line-on : {token : Option (List ℕ)} (told : Head) (bytes more : List ℕ) → IsHeadOf token told bytes → HasLineAt told (bytes ++ more)
line-on told bytes more is = (
  is.head,
  drop told.len bytes ++ more,
  (is.reads.0, ap (λ (front : List ℕ). front ++ more) is.reads.1 ∙ append_assoc (print_request is.head) (drop told.len bytes) more),
  record {
    method_within = still-within bytes more told.method is.line.method_within;
    target_within = still-within bytes more told.target is.line.target_within;
    method = same-part bytes more told.method is.line.method_within ∙ is.line.method;
    target = same-part bytes more told.target is.line.target_within ∙ is.line.target;
  },
)

pub read-on : {token : Option (List ℕ)} (told : Head) (first more bytes : List ℕ) → IsHeadOf token told first → bytes ≡ first ++ more → IsHeadRead (Some told) bytes
read-on told first more bytes is same = subst (HasLineAt told) (sym same) (line-on told first more is)
