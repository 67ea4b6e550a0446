-- Texts that are compared byte by byte, places in a text, and texts that are too long for a token.
use Rattle.std.proofs.Common.{◌≡◌, ℕ, ◌+◌, ◌-◌, ◌<◌, ◌≤◌, Bool, true, false, ◌&&◌, ◌==◌, cond, nat_eq, nat_lt, List, [], ◌∷◌, ◌++◌, length, get_or, take, drop, Some, None, refl, sym, ap, ◌∙◌, add-one, arith}
use Rattle.std.proofs.Math.Seq.{take-suc}
use Rattle.std.proofs.lemmas.Bool.{lt-leb, ltb-false}
use Rattle.std.proofs.lemmas.Bool.Decides.{Decides-eqb}
use Rattle.std.proofs.lemmas.List.{drop_all, length-drop, length-take-le, take_all}
use Rattle.std.proofs.lemmas.Option.{cond_some, none-some}
use Rattle.std.proofs.lemmas.Slice.Eq.{bytes_eq-Decides}
use Rattle.std.proofs.lemmas.Nat.{and_le_l, and_le_r}
use Rattle.std.specs.Int.Bits.{bit_or, bit_xor, or_add_and, xor_add_and, xor_self}
use Rattle.std.specs.Bool.{one_answer}
use Rattle.std.specs.List.{ends_with, list_all, position, position_or_len}
use Rattle.std.specs.Str.{bytes_eq}
use Rattle.gate_http.specs.Tokens.{before_equals_sign, is_equals_sign, is_token, is_token_byte, max_token, token_in, without_line_end}

-- DIFFERENCES, gathered in the bits of a number
no_bits : (a b : ℕ) → bit_or a b ≡ 0 → (a ≡ 0) × (b ≡ 0)
no_bits a b none = (
  omega (arith, none, or_add_and a b, and_le_l a b, and_le_r a b),
  omega (arith, none, or_add_and a b, and_le_l a b, and_le_r a b),
)

no_difference : (a b : ℕ) → bit_xor a b ≡ 0 → a ≡ b
no_difference a b none = omega (arith, none, xor_add_and a b, and_le_l a b, and_le_r a b)

-- what is known of two texts when so many of their bytes were compared
abbrev pub Tells : List ℕ → List ℕ → ℕ → ℕ → Type 0
Tells text other place difference = (difference ≡ 0 → take place text ≡ take place other) × (text ≡ other → difference ≡ 0)

pub tells-more : (text other : List ℕ) (place difference : ℕ) → place < length text → place < length other
    → Tells text other place difference → Tells text other (place + 1) (bit_or difference (bit_xor (get_or text place 0) (get_or other place 0)))
tells-more text other place difference inside within so_far = (
  λ none.
      let both = no_bits difference (bit_xor (get_or text place 0) (get_or other place 0)) none in
      rw (add-one place)
      (take-suc text place 0 inside
      ∙ ap (λ (front : List ℕ). front ++ get_or text place 0 ∷ []) (so_far.0 both.0)
      ∙ ap (λ (byte : ℕ). take place other ++ byte ∷ []) (no_difference _ _ both.1)
      ∙ sym (take-suc other place 0 within)),
  λ same. rw (so_far.1 same, same, xor_self (get_or other place 0)) refl,
)

pub tells-all : (text other : List ℕ) (place difference : ℕ) → length text ≡ length other → length text ≤ place
    → Tells text other place difference → (difference == 0) ≡ bytes_eq text other
tells-all text other place difference sizes all so_far = one_answer (difference == 0) (bytes_eq text other) (
  λ none. sym (take_all place text all) ∙ so_far.0 ((Decides-eqb difference 0).0 none) ∙ take_all place other (omega (arith, sizes, all)),
  λ same. (Decides-eqb difference 0).1 (so_far.1 same),
)
    (bytes_eq-Decides text other)

-- PLACES: what stands from the first byte on that passes
pub from-found : (passes : ℕ → Bool) (text : List ℕ) (place : ℕ) → position passes text ≡ Some place
    → take (length text - place) (drop place text) ≡ drop (position_or_len passes text) text
from-found passes text place is =
    take_all _ (drop place text) (omega (arith, length-drop place text)) ∙ ap (λ (n : ℕ). drop n text) (sym (cond_some _ _ _ is).1)

pub from-none : (passes : ℕ → Bool) (text : List ℕ) → position passes text ≡ None
    → take (length text - length text) (drop (length text) text) ≡ drop (position_or_len passes text) text
from-none passes text is =
    take_all _ (drop (length text) text) (omega (arith, length-drop (length text) text))
    ∙ drop_all (length text) text (omega (arith))
    ∙ sym (drop_all (position_or_len passes text) text (by (nat_lt (position_or_len passes text) (length text)) refl))
  where
    by : (within : Bool) → nat_lt (position_or_len passes text) (length text) ≡ within → length text ≤ position_or_len passes text
    by true inside = absurd (none-some _ (sym is ∙ ap (λ (b : Bool). cond b (Some (position_or_len passes text)) None) inside))
    by false past = ltb-false _ _ past

-- TOO LONG: whatever the end of the line takes away, more is left than a token has
none-of : (b c d : Bool) → b && (c && (d && false)) ≡ false
none-of true true true = refl
none-of true true false = refl
none-of true false d = refl
none-of false c d = refl

long-none : (text : List ℕ) → max_token < length text → is_token text ≡ false
long-none text long = rw (lt-leb (length text) max_token long)
    (none-of (nat_lt 0 (length (before_equals_sign text))) (list_all is_token_byte (before_equals_sign text))
    (list_all is_equals_sign (drop (length (before_equals_sign text)) text)))

still-long : (text : List ℕ) → max_token + 3 ≤ length text → max_token < length (without_line_end text)
still-long text long = by (ends_with nat_eq text (13 ∷ 10 ∷ [])) (ends_with nat_eq text (10 ∷ [])) refl refl
  where
    by : (both one : Bool) → ends_with nat_eq text (13 ∷ 10 ∷ []) ≡ both → ends_with nat_eq text (10 ∷ []) ≡ one → max_token < length (without_line_end text)
    by true one is end = rw is (omega (arith, long, length-take-le (length text - 2) text (omega (arith, long))))
    by false true is end = rw (is, end) (omega (arith, long, length-take-le (length text - 1) text (omega (arith, long))))
    by false false is end = rw (is, end) (omega (arith, long))

pub no-token : (text : List ℕ) → max_token + 3 ≤ length text → token_in text ≡ None
no-token text long = rw (long-none (without_line_end text) (still-long text long)) refl
