-- The bytes that are kept of a line: of a line of more than `most` bytes the first `most + 1`, which show it.
use Rattle.std.proofs.Common.{◌≡◌, ℕ, ◌+◌, ◌<◌, ◌≤◌, inl, inr, true, cond, List, [], ◌∷◌, ◌++◌, length, take, set, refl, sym, ◌∙◌, ap, ltb, add-one, arith}
use Rattle.std.proofs.Math.Seq.{take-suc-set}
use Rattle.std.proofs.lemmas.Bool.Decides.{nat_tests}
use Rattle.std.proofs.lemmas.Bool.{cases_lt}
use Rattle.std.proofs.lemmas.List.{take_all, take-append-le, length-take-le, length_push}

-- a byte is stored behind those that a buffer of m bytes holds
pub added : (m i : ℕ) (bytes : List ℕ) (b : ℕ) → i < m → length bytes ≡ m → take (i + 1) (set bytes i b) ≡ take m (take i bytes ++ b ∷ [])
added m i bytes b room size =
    let size_of : length (take i bytes) ≡ i = length-take-le i bytes (omega arith) in
    rw (add-one, take-suc-set bytes i b (omega arith)) (sym (take_all m (take i bytes ++ b ∷ []) (omega (arith, length_push (take i bytes) b))))

-- a full buffer keeps what it holds
pub full : (m i : ℕ) (bytes : List ℕ) (b : ℕ) → m ≤ i → length bytes ≡ m → take i bytes ≡ take m (take i bytes ++ b ∷ [])
full m i bytes b past size =
    let all : take i bytes ≡ bytes = take_all i bytes (omega arith) in
    rw all (sym (take-append-le m bytes (b ∷ []) (omega arith) ∙ take_all m bytes (omega arith)))

-- one more byte, kept of what was kept or of the whole line
pub kept-push : (m : ℕ) (xs : List ℕ) (b : ℕ) → take m (take m xs ++ b ∷ []) ≡ take m (xs ++ b ∷ [])
kept-push m xs b = elim (cases_lt (length xs) m) [
  | inl short ↦ ap (λ (front : List ℕ). take m (front ++ b ∷ [])) (take_all m xs (omega arith))
  | inr long ↦
      let size : length (take m xs) ≡ m = length-take-le m xs long in
      take-append-le m (take m xs) (b ∷ []) (omega arith) ∙ take_all m (take m xs) (omega arith) ∙ sym (take-append-le m xs (b ∷ []) long)
]

-- what is said of a line of at most `most` bytes, and else of any longer one, can be said of what is kept
pub kept-says : {X : Type 0} (most : ℕ) (x : X) (f : List ℕ → X) (xs : List ℕ)
    → cond (ltb most (length (take (most + 1) xs))) x (f (take (most + 1) xs)) ≡ cond (ltb most (length xs)) x (f xs)
kept-says most x f xs = elim (cases_lt most (length xs)) [
  | inl long ↦
      let size : length (take (most + 1) xs) ≡ most + 1 = length-take-le (most + 1) xs (omega arith) in
      let shown : ltb most (length (take (most + 1) xs)) ≡ true = grind (arith, nat_tests) in
      let is : ltb most (length xs) ≡ true = grind (arith, nat_tests) in
      rw (shown, is) refl
  | inr short ↦ ap (λ (line : List ℕ). cond (ltb most (length line)) x (f line)) (take_all (most + 1) xs (omega arith))
]
