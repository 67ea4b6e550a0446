-- Which texts are the number of a change: decimal digits alone.
use Rattle.std.proofs.Common.{◌≡◌, ℕ, ◌+◌, Bool, true, false, not, nat_lt, List, [], ◌∷◌, length, Some, None, refl, sym, ◌∙◌, cond, arith, ◌==◌, true≢false, ◌&&◌}
use Rattle.std.proofs.lemmas.Bool.Decides.{nat_tests}
use Rattle.std.proofs.lemmas.Iterator.Adapters.{position_from-zero}
use Rattle.std.specs.Char.{is_ascii_digit}
use Rattle.std.specs.List.{list_all, position_from}
use Rattle.matchit.specs.Seek.{has_slash}
use Rattle.gate_text.specs.SmallTexts.{change_no_of, first_bad, number_from, unless_refused}
use Rattle.gate_text.specs.declared.fault.TextFault.TheVariants.{BadByte, Empty, TooLong}
use Rattle.gate_http.specs.Targets.{change_of, change_read}

-- a byte that is no digit has a place
bad-from : (text : List ℕ) (i : ℕ) → list_all is_ascii_digit text ≡ false → (place : ℕ) × (position_from (λ byte. not (is_ascii_digit byte)) i text ≡ Some place)
bad-from [] i bad = absurd (true≢false bad)
bad-from (b ∷ text) i bad = by (is_ascii_digit b) refl (bad-from text (i + 1))
  where
    by : (digit : Bool) → is_ascii_digit b ≡ digit
        → (list_all is_ascii_digit text ≡ false → (place : ℕ) × (position_from (λ byte. not (is_ascii_digit byte)) (i + 1) text ≡ Some place))
        → (place : ℕ) × (position_from (λ byte. not (is_ascii_digit byte)) i (b ∷ text) ≡ Some place)
    by true is rest = rw is (rest (rw is at bad))
    by false is rest = (i, rw is refl)

bad-place : (text : List ℕ) → list_all is_ascii_digit text ≡ false → (place : ℕ) × (first_bad is_ascii_digit text ≡ Some place)
bad-place text bad =
    let found = bad-from text 0 bad in
    (found.0, position_from-zero (λ byte. not (is_ascii_digit byte)) text ∙ found.1)

refused : (empty long : Bool) (place : ℕ) (text : List ℕ)
    → change_read (unless_refused (cond empty (Some Empty) (cond long (Some TooLong) (Some (BadByte place)))) (number_from text)) ≡ None
refused true long place text = refl
refused false true place text = refl
refused false false place text = refl

-- a text of other bytes is no number
pub no-number : (text : List ℕ) → list_all is_ascii_digit text ≡ false → change_of text ≡ None
unfolding change_no_of
no-number text bad =
    let found = bad-place text bad in
    rw found.1 (refused (length text == 0) (nat_lt 10 (length text)) found.0 text)

pub none-empty : change_of [] ≡ None
unfolding change_no_of
none-empty = refl

and-false : (b : Bool) → b && false ≡ false
and-false true = refl
and-false false = refl

-- a slash is no digit
pub slash-bad : (text : List ℕ) → has_slash text ≡ true → list_all is_ascii_digit text ≡ false
slash-bad [] slash = absurd (true≢false (sym slash))
slash-bad (b ∷ text) slash = by (b == 47) refl (slash-bad text)
  where
    by : (is_slash : Bool) → (b == 47) ≡ is_slash → (has_slash text ≡ true → list_all is_ascii_digit text ≡ false) → list_all is_ascii_digit (b ∷ text) ≡ false
    by true is rest =
        let bad : is_ascii_digit b ≡ false = grind (arith, nat_tests) in
        rw bad refl
    by false is rest = rw (rest (rw is at slash)) (and-false (is_ascii_digit b))
