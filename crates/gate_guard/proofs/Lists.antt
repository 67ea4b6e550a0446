-- Lists of which each element is told of with those behind it, and counts of one.
use Rattle.std.proofs.Common.{◌≡◌, ◌⊎◌, ℕ, zero, suc, ◌+◌, ◌≤◌, Bool, true, false, cond, List, [], ◌∷◌, ◌++◌, refl, sym, ◌∙◌, ap, subst, inl, inr, arith}
use Rattle.std.proofs.lemmas.List.Elements.{Contains-append_right}
use Rattle.std.proofs.lemmas.List.Sums.{sum_by-cons}
use Rattle.std.specs.List.{Contains, count_by}

abbrev pub EachOf : {X : Type 0} → (X → List X → Type 0) → List X → Type 0
EachOf P [] = Unit
EachOf P (x ∷ xs) = P x xs × EachOf P xs

module _ {X : Type 0} where
  pub contains_cases : (x y : X) (xs : List X) → Contains (x ∷ xs) y → (x ≡ y) ⊎ Contains xs y
  contains_cases x y xs (zero, below, is) = inl is
  contains_cases x y xs (suc k, below, is) = inr (k, omega arith, is)

  pub contains_first : (x : X) (xs : List X) → Contains (x ∷ xs) x
  contains_first x xs = (0, omega arith, refl)

  pub contains_more : (x y : X) (xs : List X) → Contains xs y → Contains (x ∷ xs) y
  contains_more x y xs (k, below, is) = (suc k, omega arith, is)

  pub contains_none : (y : X) → Contains [] y → ⊥
  contains_none y (k, below, is) = omega arith

  pub contains_at : (later : List X) (x : X) (before : List X) → Contains (later ++ x ∷ before) x
  contains_at later x before = Contains-append_right later (x ∷ before) x (contains_first x before)

  -- EACH, with those behind it
  module _ (P : X → List X → Type 0) where
    pub each_at : (later before : List X) (x : X) → EachOf P (later ++ x ∷ before) → P x before
    each_at [] before x (this, rest) = this
    each_at (y ∷ later) before x (this, rest) = each_at later before x rest

    pub each_behind : (later before : List X) → EachOf P (later ++ before) → EachOf P before
    each_behind [] before each = each
    each_behind (y ∷ later) before (this, rest) = each_behind later before rest

    pub each_found : (xs : List X) (x : X) → Contains xs x → EachOf P xs → (before : List X) × P x before
    each_found [] x among each = absurd (contains_none x among)
    each_found (y ∷ xs) x among (this, rest) = elim (contains_cases y x xs among) [
      | inl same ↦ (xs, subst (λ z. P z xs) same this)
      | inr behind ↦ each_found xs x behind rest
    ]

  pub each_so : (P Q : X → List X → Type 0) → ((x : X) (before : List X) → P x before → Q x before) → (xs : List X) → EachOf P xs → EachOf Q xs
  each_so P Q so [] each = tt
  each_so P Q so (x ∷ xs) (this, rest) = (so x xs this, each_so P Q so xs rest)

  -- AT MOST ONE passes.
  module _ (p : X → Bool) where
    counted : (x : X) (xs : List X) → count_by p (x ∷ xs) ≡ cond (p x) 1 0 + count_by p xs
    counted x xs = sum_by-cons (λ y. cond (p y) 1 0) x xs

    pub count_one : (x : X) (xs : List X) → p x ≡ true → count_by p (x ∷ xs) ≡ 1 + count_by p xs
    count_one x xs passes = counted x xs ∙ ap (λ b. cond b 1 0 + count_by p xs) passes

    pub count_rest : (x : X) (xs : List X) (n : ℕ) → count_by p (x ∷ xs) ≤ n → count_by p xs ≤ n
    count_rest x xs n few = let so = counted x xs in omega arith

    pub count_behind : (later xs : List X) (n : ℕ) → count_by p (later ++ xs) ≤ n → count_by p xs ≤ n
    count_behind [] xs n few = few
    count_behind (x ∷ later) xs n few = count_behind later xs n (count_rest x (later ++ xs) n few)

    pub some_counted : (xs : List X) (x : X) → Contains xs x → p x ≡ true → 1 ≤ count_by p xs
    some_counted [] x among passes = absurd (contains_none x among)
    some_counted (y ∷ xs) x among passes = elim (contains_cases y x xs among) [
      | inl same ↦ let so = count_one y xs (ap p same ∙ passes) in omega arith
      | inr behind ↦ let more = some_counted xs x behind passes in let so = counted y xs in omega arith
    ]

    -- one that passes has none behind it that does
    alone : (x y : X) (xs : List X) → count_by p (x ∷ xs) ≤ 1 → p x ≡ true → Contains xs y → p y ≡ true → ⊥
    alone x y xs few passes among other = let some = some_counted xs y among other in let so = count_one x xs passes in omega arith

    pub only_one : (xs : List X) (x y : X) → count_by p xs ≤ 1 → Contains xs x → p x ≡ true → Contains xs y → p y ≡ true → x ≡ y
    only_one [] x y few among passes other too = absurd (contains_none x among)
    only_one (z ∷ xs) x y few among passes other too = elim (contains_cases z x xs among) [
      | inl same ↦ elim (contains_cases z y xs other) [
        | inl so ↦ sym same ∙ so
        | inr behind ↦ absurd (alone z y xs few (ap p same ∙ passes) behind too)
      ]
      | inr behind ↦ elim (contains_cases z y xs other) [
        | inl so ↦ absurd (alone z x xs few (ap p so ∙ too) behind passes)
        | inr both ↦ only_one xs x y (count_rest z xs 1 few) behind passes both too
      ]
    ]

    -- the first doesn't pass if one behind it does
    pub first_fails : (x y : X) (xs : List X) → count_by p (x ∷ xs) ≤ 1 → Contains xs y → p y ≡ true → p x ≡ false
    first_fails x y xs few among passes = by (p x) refl where
      by : (b : Bool) → p x ≡ b → b ≡ false
      by true is = absurd (alone x y xs few is among passes)
      by false is = refl
