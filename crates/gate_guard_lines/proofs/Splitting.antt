-- The first line of a text, and the others.
use Rattle.std.proofs.Common.{◌≡◌, ◌≢◌, ◌<◌, ◌+◌, ◌-◌, ℕ, suc, nat_lt, Bool, true, false, ◌&&◌, cond, List, [], ◌∷◌, ◌++◌, length, refl, sym, ◌∙◌, ap, subst, eqb, arith}
use Rattle.std.proofs.lemmas.Bool.Decides.{nat_tests}
use Rattle.std.specs.Io.BufRead.{drop_through, strip_last, take_through}
use Rattle.std.specs.Prelude.{slice_index, take}
use Rattle.std.proofs.BufReadLemmas.{drop_through-append, take_through-append}
use Rattle.std.proofs.lemmas.List.{length-append, take_all, take_more}
use Rattle.std.proofs.lemmas.List.Elements.{All-append, All-cons, All-head, All-nil, All-tail}
use Rattle.std.specs.Io.{StopsAt}
use Rattle.std.specs.List.{All}
use Rattle.gate_guard_lines.specs.Serving.{IsPlain}
use Rattle.gate_hook.specs.Lines.{begin_with, ended_lines, last_line, lines_of, open_line}

not_empty : (line : List ℕ) (lines : List (List ℕ)) → eqb (length (line ∷ lines)) 0 ≡ false
not_empty line lines = grind (arith, nat_tests)

-- one byte more in front of a line that is open or has ended
pushed : (x : ℕ) (ended : List (List ℕ)) (left line : List ℕ) (others : List (List ℕ)) → ended ++ last_line left ≡ line ∷ others
    → begin_with x ended ++ last_line (cond (eqb (length ended) 0 && true) (x ∷ left) left) ≡ (x ∷ line) ∷ others
pushed x [] [] line others is = cc is
pushed x [] (b ∷ left) line others is = ap (begin_with x) is
pushed x (first ∷ ended) left line others is =
    ap (λ b. begin_with x (first ∷ ended) ++ last_line (cond (b && true) (x ∷ left) left)) (not_empty first ended) ∙ ap (begin_with x) is

-- the line feed at the end of a line of several bytes
strip_more : (x y : ℕ) (ys : List ℕ) → strip_last 10 (x ∷ y ∷ ys) ≡ x ∷ strip_last 10 (y ∷ ys)
strip_more x y ys =
    let two : length (x ∷ y ∷ ys) - 1 ≡ suc (length ys) = omega arith in
    let one : length (y ∷ ys) - 1 ≡ length ys = omega arith in
    let some : nat_lt 0 (length (x ∷ y ∷ ys)) ≡ true = grind (arith, nat_tests) in
    let more : nat_lt 0 (length (y ∷ ys)) ≡ true = grind (arith, nat_tests) in
    rw (two, one, some, more) (by (eqb (slice_index (y ∷ ys) (length ys)) 10)) where
      by : (b : Bool) → cond b (x ∷ take (length ys) (y ∷ ys)) (x ∷ y ∷ ys) ≡ x ∷ cond b (take (length ys) (y ∷ ys)) (y ∷ ys)
      by true = refl
      by false = refl

strip_one : (x : ℕ) → eqb x 10 ≡ false → strip_last 10 (x ∷ []) ≡ x ∷ []
strip_one x other = ap (λ b. cond b [] (x ∷ [])) other

strip_rest : (x : ℕ) (xs : List ℕ) → 0 < length xs → strip_last 10 (x ∷ take_through 10 xs) ≡ x ∷ strip_last 10 (take_through 10 xs)
strip_rest x [] some = absurd (omega (arith, some))
strip_rest x (y ∷ ys) some = by (eqb y 10) where
  by : (same : Bool) → strip_last 10 (x ∷ cond same (y ∷ []) (y ∷ take_through 10 ys)) ≡ x ∷ strip_last 10 (cond same (y ∷ []) (y ∷ take_through 10 ys))
  by true = strip_more x y []
  by false = strip_more x y (take_through 10 ys)

-- A text that isn't empty has its first line, and then those behind the line feed.
abbrev pub Splits : List ℕ → Type 0
Splits xs = lines_of xs ≡ strip_last 10 (take_through 10 xs) ∷ lines_of (drop_through 10 xs)

none_begun : (b : Bool) (begun rest : List ℕ) → cond (b && false) begun rest ≡ rest
none_begun true begun rest = refl
none_begun false begun rest = refl

-- a line feed in front
split_feed : (x : ℕ) (xs : List ℕ) → eqb x 10 ≡ true → Splits (x ∷ xs)
split_feed x xs is =
    rw is (ap (λ (line : List ℕ). ([] ∷ ended_lines xs) ++ last_line line) (none_begun (eqb (length (ended_lines xs)) 0) (x ∷ open_line xs) (open_line xs))
    ∙ ap (λ b. cond b [] (x ∷ []) ∷ lines_of xs) (sym is))

-- another byte in front
split_other : (x : ℕ) (xs : List ℕ) → eqb x 10 ≡ false → (0 < length xs → Splits xs) → Splits (x ∷ xs)
split_other x [] other rest = rw other (ap (λ (line : List ℕ). line ∷ []) (sym (strip_one x other)))
split_other x (y ∷ ys) other rest =
    rw other (
    pushed x (ended_lines (y ∷ ys)) (open_line (y ∷ ys)) (strip_last 10 (take_through 10 (y ∷ ys))) (lines_of (drop_through 10 (y ∷ ys))) (rest (omega arith))
    ∙ ap (λ (line : List ℕ). line ∷ lines_of (drop_through 10 (y ∷ ys))) (sym (strip_rest x (y ∷ ys) (omega arith))))

pub first_line_of : (xs : List ℕ) → 0 < length xs → Splits xs
first_line_of [] some = absurd (omega (arith, some))
first_line_of (x ∷ xs) some = by (eqb x 10) refl (first_line_of xs) where
  by : (same : Bool) → eqb x 10 ≡ same → (0 < length xs → Splits xs) → Splits (x ∷ xs)
  by true is rest = split_feed x xs is
  by false is rest = split_other x xs is rest

-- LINES WITHOUT LINE FEEDS are those of the text in which each has one behind it.
pub joined : List (List ℕ) → List ℕ
joined [] = []
joined (line ∷ lines) = line ++ 10 ∷ joined lines

strip_fed : (line : List ℕ) → strip_last 10 (line ++ 10 ∷ []) ≡ line
strip_fed [] = refl
strip_fed (x ∷ []) = strip_more x 10 []
strip_fed (x ∷ y ∷ line) = strip_more x y (line ++ 10 ∷ []) ∙ ap (λ (rest : List ℕ). x ∷ rest) (strip_fed (y ∷ line))

pub lines_joined : (lines : List (List ℕ)) → All IsPlain lines → lines_of (joined lines) ≡ lines
unfolding joined
lines_joined [] plain = refl
lines_joined (line ∷ lines) plain =
    let first = All-head IsPlain line lines plain in
    first_line_of (line ++ 10 ∷ joined lines) (omega (arith, length-append line (10 ∷ joined lines)))
    ∙ ap (λ (front : List ℕ). strip_last 10 front ∷ lines_of (drop_through 10 (line ++ 10 ∷ joined lines))) (take_through-append 10 line (10 ∷ joined lines) first)
    ∙ ap (λ (front : List ℕ). front ∷ lines_of (drop_through 10 (line ++ 10 ∷ joined lines))) (strip_fed line)
    ∙ ap (λ (rest : List ℕ). line ∷ lines_of rest) (drop_through-append 10 line (10 ∷ joined lines) first)
    ∙ ap (λ (rest : List (List ℕ)). line ∷ rest) (lines_joined lines (All-tail IsPlain line lines plain))

-- What a read up to a line feed gives is one, without that.
pub read_plain : (read : List ℕ) → StopsAt read 10 → IsPlain (strip_last 10 read)
read_plain [] stops = All-nil (λ (byte : ℕ). byte ≢ 10)
read_plain (x ∷ xs) stops = by (eqb (slice_index (x ∷ xs) (length (x ∷ xs) - 1)) 10) refl where
  by : (same : Bool) → eqb (slice_index (x ∷ xs) (length (x ∷ xs) - 1)) 10 ≡ same → IsPlain (strip_last 10 (x ∷ xs))
  by true same =
      let some : nat_lt 0 (length (x ∷ xs)) ≡ true = grind (arith, nat_tests) in
      subst IsPlain (sym (ap (λ b. cond (b && eqb (slice_index (x ∷ xs) (length (x ∷ xs) - 1)) 10) (take (length (x ∷ xs) - 1) (x ∷ xs)) (x ∷ xs)) some
      ∙ ap (λ b. cond b (take (length (x ∷ xs) - 1) (x ∷ xs)) (x ∷ xs)) same)) stops
  by false same =
      let some : nat_lt 0 (length (x ∷ xs)) ≡ true = grind (arith, nat_tests) in
      let whole : x ∷ xs ≡ take (length (x ∷ xs) - 1) (x ∷ xs) ++ slice_index (x ∷ xs) (length (x ∷ xs) - 1) ∷ [] =
      sym (take_all (length (x ∷ xs) - 1 + 1) (x ∷ xs) (omega arith)) ∙ take_more (x ∷ xs) (length (x ∷ xs) - 1) 0 (omega arith) in
      let other : slice_index (x ∷ xs) (length (x ∷ xs) - 1) ≢ 10 = grind (arith, nat_tests) in
      subst IsPlain (sym (ap (λ b. cond (b && eqb (slice_index (x ∷ xs) (length (x ∷ xs) - 1)) 10) (take (length (x ∷ xs) - 1) (x ∷ xs)) (x ∷ xs)) some
      ∙ ap (λ b. cond b (take (length (x ∷ xs) - 1) (x ∷ xs)) (x ∷ xs)) same))
      (subst IsPlain (sym whole) (All-append (λ (byte : ℕ). byte ≢ 10) (take (length (x ∷ xs) - 1) (x ∷ xs)) (slice_index (x ∷ xs) (length (x ∷ xs) - 1) ∷ []) stops
      (All-cons (λ (byte : ℕ). byte ≢ 10) (slice_index (x ∷ xs) (length (x ∷ xs) - 1)) [] other (All-nil (λ (byte : ℕ). byte ≢ 10)))))
