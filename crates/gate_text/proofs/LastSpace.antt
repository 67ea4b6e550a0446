-- The last space of a text, and how a text is cut at it.
use Rattle.std.proofs.Common.{◌≡◌, ℕ, suc, Bool, true, false, List, [], ◌∷◌, ◌++◌, length, take, drop, Option, Some, None, eqb, eqb-true, refl, ap, arith}
use Rattle.std.proofs.lemmas.Bool.Decides.{nat_tests}
use Rattle.std.specs.Bool.{then_some}
use Rattle.std.specs.Option.{option_map, option_or}
use Rattle.gate_text.specs.LastWhere.{last_where-behind}
use Rattle.gate_text.specs.Spaces.{last_space}

pub not_space : (b : ℕ) → (b ≡ 32 → ⊥) → eqb b 32 ≡ false
not_space b other = grind (arith, nat_tests)

cut_here : (b : ℕ) (bs : List ℕ) (place : ℕ) (here : Bool) → eqb b 32 ≡ here → then_some here 0 ≡ Some place → b ∷ bs ≡ take place (b ∷ bs) ++ 32 ∷ drop (suc place) (b ∷ bs)
cut_here b bs place true is found = let first : 0 ≡ place = cc found in rw (← first) (ap (λ (x : ℕ). x ∷ bs) (eqb-true b 32 is))
cut_here b bs place false is found = cc found

cut_later : (b : ℕ) (bs : List ℕ) (place : ℕ) (rest : Option ℕ) → ((later : ℕ) → rest ≡ Some later → bs ≡ take later bs ++ 32 ∷ drop (suc later) bs)
    → option_or (option_map suc rest) (then_some (eqb b 32) 0) ≡ Some place → b ∷ bs ≡ take place (b ∷ bs) ++ 32 ∷ drop (suc place) (b ∷ bs)
cut_later b bs place (Some later) cut found = let next : suc later ≡ place = cc found in rw (← next) (ap (λ (tail : List ℕ). b ∷ tail) (cut later refl))
cut_later b bs place None cut found = cut_here b bs place _ refl found

-- a text is cut at its last space
pub last_space-cut : (text : List ℕ) (place : ℕ) → last_space text ≡ Some place → text ≡ take place text ++ 32 ∷ drop (suc place) text
last_space-cut [] place found = cc found
last_space-cut (b ∷ bs) place found = cut_later b bs place (last_space bs) (λ later is. last_space-cut bs later is) found

-- and the last space of a text is the one behind which there is none
pub last_space-behind : (front rest : List ℕ) → last_space rest ≡ None → last_space (front ++ 32 ∷ rest) ≡ Some (length front)
last_space-behind front rest none = last_where-behind _ front 32 rest refl none
