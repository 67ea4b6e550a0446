-- When bytes show that no head comes.
use Rattle.std.proofs.Common.{◌≡◌, ℕ, ◌≤◌, List, [], ◌++◌, length, take, drop, Option, Some, None, refl, sym, ap, ◌∙◌, arith}
use Rattle.std.proofs.Math.Seq.{take-append_seam}
use Rattle.std.proofs.lemmas.List.{take-append-drop, take-append-le}
use Rattle.httparse.specs.Grammar.{HasNoRequest, print_request}
use Rattle.httparse.specs.Spans.{RequestOverflows}
use Rattle.gate_http.specs.Heads.{HasNoHead, max_fields, max_head}
use Rattle.gate_hook.specs.Receiving.{IsLeft}

-- with what is left of the input, these bytes have no head
abbrev pub NoHeadFor : Option (List ℕ) → List ℕ → Type 0
NoHeadFor after bytes = (rest : List ℕ) × IsLeft after rest × HasNoHead (bytes ++ rest)

-- what is left, or nothing if that isn't known
abbrev pub left_of : Option (List ℕ) → List ℕ
left_of None = []
left_of (Some known) = known

pub is-left : (after : Option (List ℕ)) → IsLeft after (left_of after)
is-left None = tt
is-left (Some known) = refl

pub none-ever : (after : Option (List ℕ)) (bytes : List ℕ) → RequestOverflows max_fields bytes → NoHeadFor after bytes
none-ever after bytes overflows =
    (left_of after, is-left after, λ head rest begins. absurd (omega (arith, overflows (left_of after) head rest begins.reads, begins.fields)))

-- A front of these bytes stands in as many of them as it has.
pub within : (front rest bytes more : List ℕ) → front ++ rest ≡ bytes ++ more → length front ≤ length bytes → bytes ≡ front ++ drop (length front) bytes
within front rest bytes more same fits =
    let taken : take (length front) bytes ≡ front = sym (take-append-le _ bytes more fits) ∙ ap (take (length front)) (sym same) ∙ take-append_seam front rest in
    sym (take-append-drop (length front) bytes) ∙ ap (λ (first : List ℕ). first ++ drop (length front) bytes) taken

pub none-when-full : (after : Option (List ℕ)) (bytes : List ℕ) → length bytes ≡ max_head → HasNoRequest bytes → NoHeadFor after bytes
none-when-full after bytes full none = (
  left_of after,
  is-left after,
  λ head rest begins.
      none head (drop (length (print_request head)) bytes)
      (begins.reads.0, within (print_request head) rest bytes (left_of after) (sym begins.reads.1) (omega (arith, begins.size, full))),
)
