-- Tests over lists and maps, and what they decide.
use Rattle.std.proofs.Common.{◌≡◌, ◌<◌, ◌≤◌, ℕ, ◌+◌, zero, suc, eqb, Bool, true, false, cond, not, List, [], ◌∷◌, length, get_or, Option, Some, None, is_some, IfSome, if◌then◌else◌, refl, sym, ◌∙◌, ap, arith}
use Rattle.std.proofs.lemmas.Bool.{not-true}
use Rattle.std.proofs.lemmas.Bool.Decides.{Decides-and, Decides-by_and, Decides-eqb, Decides-like, nat_tests}
use Rattle.std.proofs.lemmas.List.Sums.{sum_by-cons, AllPass-from_list_all, list_all-from_AllPass}
use Rattle.std.specs.Bool.{Decides}
use Rattle.std.specs.Cmp.{IsTotalOrder, tied_itself}
use Rattle.std.specs.FinMap as finite
use Rattle.std.specs.FinMap.{FinMap, IsAntisymmetric, find}
use Rattle.std.specs.List.{All, AllByRecursion, AllPairs, IsDistinct, count_by, list_all, list_any}
use Rattle.std.specs.List.Sorted.{IsStrictlySortedBy}
use Rattle.std.specs.Map.{keys_of}
use Rattle.std.specs.Option.{option_map_or}
use Rattle.std.specs.Ordering.{is_eq}
use Rattle.std.specs.declared.cmp.Ordering.{Ordering}
use Rattle.gate_text.specs.Finite.{entries-from_entries}
use Rattle.gate_text.specs.Values.{tied}
use Rattle.gate_state.specs.Checks.{all_pairs}

-- TESTS
-- if no element passes a test, each fails it
pub none_passes : {X : Type 0} (p : X → Bool) → (xs : List X) → not (list_any p xs) ≡ list_all (λ x. not (p x)) xs
none_passes p [] = refl
none_passes p (x ∷ xs) = grind (arith, none_passes p xs)

-- what a test says of itself
pub Decides-itself : (b : Bool) → Decides b (b ≡ true)
Decides-itself b = (λ is. is, λ is. is)

pub Decides-some : {X : Type 0} (p : X → Bool) (P : X → Type 0) → ((x : X) → Decides (p x) (P x)) → (o : Option X) → Decides (option_map_or p o true) (IfSome o P)
Decides-some p P each None = (λ _. tt, λ _. refl)
Decides-some p P each (Some x) = each x

-- LISTS
pub Decides-list_all : {X : Type 0} (p : X → Bool) (P : X → Type 0) → ((x : X) → Decides (p x) (P x)) → (xs : List X) → Decides (list_all p xs) (All P xs)
Decides-list_all p P each xs = Decides-by_and p P (list_all p) each refl (λ _ _. refl) xs

module _ {X : Type 0} (test : X → X → Bool) where
  abbrev passes : X → X → Type 0
  passes x y = test x y ≡ true

  pub Decides-all_pairs : (xs : List X) → Decides (all_pairs test xs) (AllPairs passes xs)
  Decides-all_pairs [] = (λ _ i j d before within. absurd (omega arith), λ _. refl)
  Decides-all_pairs (x ∷ xs) = Decides-like _ there back (Decides-and _ _ (Decides-itself (list_all (test x) xs)) (Decides-all_pairs xs)) where
    there : (list_all (test x) xs ≡ true) × AllPairs passes xs → (i j : ℕ) (d : X) → i < j → j < length (x ∷ xs) → test (get_or (x ∷ xs) i d) (get_or (x ∷ xs) j d) ≡ true
    there is zero zero d before within = absurd (omega arith)
    there is (suc i) zero d before within = absurd (omega arith)
    there is zero (suc j) d before within = AllPass-from_list_all (test x) xs is.0 j d (omega arith)
    there is (suc i) (suc j) d before within = is.1 i j d (omega arith) (omega arith)

    back : AllPairs passes (x ∷ xs) → (list_all (test x) xs ≡ true) × AllPairs passes xs
    back pairs = (
      list_all-from_AllPass (test x) xs (λ k d within. pairs 0 (suc k) d (omega arith) (omega arith)),
      λ i j d before within. pairs (suc i) (suc j) d (omega arith) (omega arith),
    )

-- no two keys of a list are equal
module _ {K : Type 0} (e : K → K → Bool) where
  Decides-differs : (x : K) (xs : List K) → Decides (list_all (λ y. not (e x y)) xs) (AllByRecursion (λ y. e x y ≡ false) xs)
  Decides-differs x [] = (λ _. tt, λ _. refl)
  Decides-differs x (y ∷ xs) = Decides-and _ _ (λ is. not-true _ is, λ is. ap not is) (Decides-differs x xs)

  pub Decides-distinct : (xs : List K) → Decides (all_pairs (λ x y. not (e x y)) xs) (IsDistinct e xs)
  unfolding IsDistinct
  Decides-distinct [] = (λ _. tt, λ _. refl)
  Decides-distinct (x ∷ xs) = Decides-and _ _ (Decides-differs x xs) (Decides-distinct xs)

-- THE NUMBERS of the elements of a list: how many have this one
abbrev pub tally : {X : Type 0} → (X → ℕ) → ℕ → List X → ℕ
tally number n xs = count_by (λ x. eqb n (number x)) xs

module _ {X : Type 0} (number : X → ℕ) where
  abbrev once : ℕ → X → ℕ
  once n x = if eqb n (number x) then 1 else 0

  tally-cons : (n : ℕ) (x : X) (xs : List X) → tally number n (x ∷ xs) ≡ once n x + tally number n xs
  tally-cons n x xs = sum_by-cons (once n) x xs

  once_itself : (x : X) → once (number x) x ≡ 1
  once_itself x = grind (arith, nat_tests)

  pub Decides-none : (n : ℕ) (xs : List X) → Decides (list_all (λ x. not (eqb n (number x))) xs) (tally number n xs ≡ 0)
  Decides-none n [] = (λ _. refl, λ _. refl)
  Decides-none n (x ∷ xs) = (λ is. grind (arith, tally-cons n x xs, Decides-none n xs), λ none. grind (arith, tally-cons n x xs, Decides-none n xs))

  pub Decides-different : (xs : List X) → Decides (all_pairs (λ x y. not (eqb (number x) (number y))) xs) ((n : ℕ) → tally number n xs ≤ 1)
  Decides-different [] = (λ _ n. omega arith, λ _. refl)
  Decides-different (x ∷ xs) = Decides-like _ there back (Decides-and _ _ (Decides-none (number x) xs) (Decides-different xs)) where
    there : (tally number (number x) xs ≡ 0) × ((n : ℕ) → tally number n xs ≤ 1) → (n : ℕ) → tally number n (x ∷ xs) ≤ 1
    there is n = by (eqb n (number x)) refl (tally-cons n x xs) where
      by : (b : Bool) → eqb n (number x) ≡ b → tally number n (x ∷ xs) ≡ (if b then 1 else 0) + tally number n xs → tally number n (x ∷ xs) ≤ 1
      by true same sum = omega (arith, sum, ap (λ (m : ℕ). tally number m xs) ((Decides-eqb n (number x)).0 same), is.0)
      by false other sum = omega (arith, sum, is.1 n)

    back : ((n : ℕ) → tally number n (x ∷ xs) ≤ 1) → (tally number (number x) xs ≡ 0) × ((n : ℕ) → tally number n xs ≤ 1)
    back at_most = (omega (arith, at_most (number x), tally-cons (number x) x xs, once_itself x), λ n. omega (arith, at_most n, tally-cons n x xs))

  -- a test of the numbers
  pub Decides-each : (q : ℕ → Bool) (xs : List X) → Decides (list_all (λ x. q (number x)) xs) ((n : ℕ) → 1 ≤ tally number n xs → q n ≡ true)
  Decides-each q [] = (λ _ n some. absurd (omega arith), λ _. refl)
  Decides-each q (x ∷ xs) = Decides-like _ (λ is n some. grind (arith, nat_tests, is.0, is.1 n, tally-cons n x xs))
      (λ each. (each (number x) (omega (arith, tally-cons (number x) x xs, once_itself x)), λ n some. each n (omega (arith, some, tally-cons n x xs))))
      (Decides-and _ _ (Decides-itself (q (number x))) (Decides-each q xs))

  pub Decides-some_has : (n : ℕ) (xs : List X) → Decides (list_any (λ x. eqb n (number x)) xs) (1 ≤ tally number n xs)
  Decides-some_has n [] = (λ is. cc, λ some. absurd (omega arith))
  Decides-some_has n (x ∷ xs) = (λ is. grind (arith, tally-cons n x xs, Decides-some_has n xs), λ some. grind (arith, tally-cons n x xs, Decides-some_has n xs))

-- THE ENTRIES of a map of the code are those of its finite map
pub entries_are : {K X : Type 0} {R : K → K → Ordering} → IsTotalOrder R → IsAntisymmetric R → (es : List (K × X)) (m : FinMap R X)
    → IsStrictlySortedBy R (keys_of es) → finite.from_entries es ≡ m → es ≡ finite.entries m
entries_are {R = R} total same es m sorted is = sym (entries-from_entries R total same es sorted) ∙ ap finite.entries is

-- a test of each key of a finite map
module _ {K X : Type 0} {R : K → K → Ordering} (total : IsTotalOrder R) (same : IsAntisymmetric R) (q : K → Bool) where
  abbrev keys_pass : List (K × X) → Bool
  keys_pass es = list_all (λ (e : K × X). q e.0) es

  abbrev KeysPass : List (K × X) → Type 0
  KeysPass es = (k : K) → is_some (find R k es) ≡ true → q k ≡ true

  Decides-listed : (es : List (K × X)) → Decides (keys_pass es) (KeysPass es)
  Decides-listed [] = (λ _ k some. cc, λ _. refl)
  Decides-listed (e ∷ es) = Decides-like _ (λ is k some. grind (arith, is.0, is.1 k, tied same k e.0))
      (λ each. (each e.0 (ap (λ (r : Ordering). is_some (cond (is_eq r) (Some e.1) (find R e.0 es))) (tied_itself total e.0)), λ k some. each k (grind (arith, some))))
      (Decides-and _ _ (Decides-itself (q e.0)) (Decides-listed es))

  pub Decides-keys : (m : FinMap R X) → Decides (list_all (λ (e : K × X). q e.0) (finite.entries m)) ((k : K) → is_some (finite.get m k) ≡ true → q k ≡ true)
  Decides-keys m = (
    λ is k some. (Decides-listed (finite.entries m)).0 is k (ap (λ (o : Option X). is_some o) (sym (finite.get-entries m k)) ∙ some),
    λ each. (Decides-listed (finite.entries m)).1 (λ k some. each k (ap (λ (o : Option X). is_some o) (finite.get-entries m k) ∙ some)),
  )
