-- How a text splits into lines where a byte comes behind it.
use Rattle.std.proofs.Common.{◌≡◌, ◌≤◌, ℕ, suc, Bool, true, false, cond, not, ◌&&◌, List, [], ◌∷◌, ◌++◌, length, refl, ◌∙◌, ap, eqb, arith}
use Rattle.std.proofs.lemmas.Bool.Decides.{nat_tests}
use Rattle.gate_hook.specs.Lines.{begin_with, ended_lines, open_line}

not_empty : (line : List ℕ) (lines : List (List ℕ)) → eqb (length (line ∷ lines)) 0 ≡ false
not_empty line lines = grind (arith, nat_tests)

-- A LINE FEED
at_step : (b : Bool) (x : ℕ) (ended : List (List ℕ)) (line : List ℕ) (others : List (List ℕ))
    → cond b ([] ∷ (ended ++ line ∷ others)) (begin_with x (ended ++ line ∷ others))
    ≡ cond b ([] ∷ ended) (begin_with x ended) ++ cond ((eqb (length ended) 0) && not b) (x ∷ line) line ∷ others
at_step true x [] line others = refl
at_step true x (first ∷ ended) line others = rw (not_empty first ended) refl
at_step false x [] line others = refl
at_step false x (first ∷ ended) line others = rw (not_empty first ended) refl

-- a line feed ends the line that is open; what follows it splits by itself
pub ended_at : (xs ys : List ℕ) → ended_lines (xs ++ 10 ∷ ys) ≡ ended_lines xs ++ open_line xs ∷ ended_lines ys
ended_at [] ys = refl
ended_at (x ∷ xs) ys =
    ap (λ (lines : List (List ℕ)). cond (eqb x 10) ([] ∷ lines) (begin_with x lines)) (ended_at xs ys)
    ∙ at_step (eqb x 10) x (ended_lines xs) (open_line xs) (ended_lines ys)

passed : (ended : List (List ℕ)) (line : List ℕ) (others : List (List ℕ)) (b : Bool) (begun rest : List ℕ)
    → cond ((eqb (length (ended ++ line ∷ others)) 0) && not b) begun rest ≡ rest
passed [] line others b begun rest = rw (not_empty line others) refl
passed (first ∷ ended) line others b begun rest = rw (not_empty first (ended ++ line ∷ others)) refl

none_begun : (b : Bool) (begun rest : List ℕ) → cond (b && false) begun rest ≡ rest
none_begun true begun rest = refl
none_begun false begun rest = refl

open_at : (xs ys : List ℕ) → open_line (xs ++ 10 ∷ ys) ≡ open_line ys
open_at [] ys = none_begun _ _ _
open_at (x ∷ xs) ys =
    rw (ended_at xs ys) (passed (ended_lines xs) (open_line xs) (ended_lines ys) (eqb x 10) _ _) ∙ open_at xs ys

pub ended_lines-feed : (xs : List ℕ) → ended_lines (xs ++ 10 ∷ []) ≡ ended_lines xs ++ open_line xs ∷ []
ended_lines-feed xs = ended_at xs []

pub open_line-feed : (xs : List ℕ) → open_line (xs ++ 10 ∷ []) ≡ []
open_line-feed xs = open_at xs []

-- ANOTHER BYTE
pub ended_lines-push : (xs : List ℕ) (b : ℕ) → eqb b 10 ≡ false → ended_lines (xs ++ b ∷ []) ≡ ended_lines xs
ended_lines-push [] b other = rw other refl
ended_lines-push (x ∷ xs) b other = ap (λ (lines : List (List ℕ)). cond (eqb x 10) ([] ∷ lines) (begin_with x lines)) (ended_lines-push xs b other)

pushed : (b : Bool) (x : ℕ) (line : List ℕ) (y : ℕ) → cond b (x ∷ (line ++ y ∷ [])) (line ++ y ∷ []) ≡ cond b (x ∷ line) line ++ y ∷ []
pushed true x line y = refl
pushed false x line y = refl

pub open_line-push : (xs : List ℕ) (b : ℕ) → eqb b 10 ≡ false → open_line (xs ++ b ∷ []) ≡ open_line xs ++ b ∷ []
open_line-push [] b other = rw other refl
open_line-push (x ∷ xs) b other =
    rw (ended_lines-push xs b other, open_line-push xs b other) (pushed ((eqb (length (ended_lines xs)) 0) && not (eqb x 10)) x (open_line xs) b)

-- HOW MANY LINES END
fewer : (b : Bool) (x n : ℕ) (ended : List (List ℕ)) → length ended ≤ n → length (cond b ([] ∷ ended) (begin_with x ended)) ≤ suc n
fewer true x n ended within = omega arith
fewer false x n [] within = omega arith
fewer false x n (line ∷ ended) within = omega arith

-- no more than there are bytes
pub length-ended_lines : (xs : List ℕ) → length (ended_lines xs) ≤ length xs
length-ended_lines [] = omega arith
length-ended_lines (x ∷ xs) = fewer (eqb x 10) x (length xs) (ended_lines xs) (length-ended_lines xs)
