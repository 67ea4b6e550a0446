-- What holds of each item of a list.
use Rattle.std.proofs.Common.{◌≡◌, ◌<◌, ℕ, suc, Bool, true, false, length, get_or, List, [], ◌∷◌, ◌++◌, map, flat_map, inl, inr, sym, subst, arith}
use Rattle.std.proofs.lemmas.Bool.{and_parts, or_parts}
use Rattle.std.specs.List.{AllByRecursion, list_all, list_any}
use Rattle.gate_rows.proofs.Elements.{Among}

pub all_joined : {X : Type 0} (P : X → Type 0) (xs ys : List X) → AllByRecursion P xs → AllByRecursion P ys → AllByRecursion P (xs ++ ys)
all_joined P [] ys p q = q
all_joined P (x ∷ xs) ys p q = (p.0, all_joined P xs ys p.1 q)

pub all_flat : {X Y : Type 0} (P : Y → Type 0) (f : X → List Y) (xs : List X) → AllByRecursion (λ x. AllByRecursion P (f x)) xs → AllByRecursion P (flat_map f xs)
all_flat P f [] p = tt
all_flat P f (x ∷ xs) p = all_joined P (f x) (flat_map f xs) p.0 (all_flat P f xs p.1)

pub all_mapped : {X Y : Type 0} (P : Y → Type 0) (f : X → Y) (xs : List X) → AllByRecursion (λ x. P (f x)) xs → AllByRecursion P (map f xs)
all_mapped P f [] p = tt
all_mapped P f (x ∷ xs) p = (p.0, all_mapped P f xs p.1)

pub all_weaker : {X : Type 0} (P Q : X → Type 0) → ((x : X) → P x → Q x) → (xs : List X) → AllByRecursion P xs → AllByRecursion Q xs
all_weaker P Q to [] p = tt
all_weaker P Q to (x ∷ xs) p = (to x p.0, all_weaker P Q to xs p.1)

pub all_of : {X : Type 0} (P : X → Type 0) → ((x : X) → P x) → (xs : List X) → AllByRecursion P xs
all_of P each [] = tt
all_of P each (x ∷ xs) = (each x, all_of P each xs)

pub all_among : {X : Type 0} (P : X → Type 0) (x : X) (xs : List X) → AllByRecursion P xs → Among x xs → P x
all_among P x [] all there = absurd there
all_among P x (y ∷ ys) all (inl is) = subst P (sym is) all.0
all_among P x (y ∷ ys) all (inr there) = all_among P x ys all.1 there

pub all_at : {X : Type 0} (P : X → Type 0) (xs : List X) → ((i : ℕ) (d : X) → i < length xs → P (get_or xs i d)) → AllByRecursion P xs
all_at P [] at = tt
all_at P (x ∷ xs) at = (at 0 x (omega arith), all_at P xs (λ i d lt. at (suc i) d (omega (arith, lt))))

-- by a test that all pass, and by one that none does
pub all_pass : {X : Type 0} (test : X → Bool) (P : X → Type 0) → ((x : X) → test x ≡ true → P x) → (xs : List X) → list_all test xs ≡ true → AllByRecursion P xs
all_pass test P each [] is = tt
all_pass test P each (x ∷ xs) is = let parts = and_parts (test x) (list_all test xs) is in (each x parts.0, all_pass test P each xs parts.1)

pub none_pass : {X : Type 0} (test : X → Bool) (P : X → Type 0) → ((x : X) → test x ≡ false → P x) → (xs : List X) → list_any test xs ≡ false → AllByRecursion P xs
none_pass test P each [] is = tt
none_pass test P each (x ∷ xs) is = let parts = or_parts (test x) (list_any test xs) is in (each x parts.0, none_pass test P each xs parts.1)
