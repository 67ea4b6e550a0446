-- Lists that have the same elements, in whatever order and however often.
use Rattle.std.proofs.Common.{◌≡◌, ◌⊎◌, inl, inr, ◌↔◌, ◌<◌, ℕ, zero, suc, length, get_or, arith, Bool, true, false, cond, List, [], ◌∷◌, ◌++◌, map, refl, sym, ◌∙◌, ap, subst, Contains, IsPermutation}
use Rattle.std.proofs.lemmas.List.Sorted.{Contains-permutation, IsPermutation-sym}
use Rattle.std.specs.List.{filter, flat_map}

abbrev pub Among : {X : Type 0} → X → List X → Type 0
Among x [] = ⊥
Among x (y ∷ ys) = (x ≡ y) ⊎ Among x ys

abbrev pub HaveSame : {X : Type 0} → List X → List X → Type 0
HaveSame {X} xs ys = (x : X) → Among x xs ↔ Among x ys

module _ {X : Type 0} where
  pub among-append_left : (x : X) (xs ys : List X) → Among x xs → Among x (xs ++ ys)
  among-append_left x [] ys there = absurd there
  among-append_left x (z ∷ xs) ys (inl is) = inl is
  among-append_left x (z ∷ xs) ys (inr there) = inr (among-append_left x xs ys there)

  pub among-append_right : (x : X) (xs ys : List X) → Among x ys → Among x (xs ++ ys)
  among-append_right x [] ys there = there
  among-append_right x (z ∷ xs) ys there = inr (among-append_right x xs ys there)

  pub among-append : (x : X) (xs ys : List X) → Among x (xs ++ ys) → Among x xs ⊎ Among x ys
  among-append x [] ys there = inr there
  among-append x (z ∷ xs) ys (inl is) = inl (inl is)
  among-append x (z ∷ xs) ys (inr there) = elim (among-append x xs ys there) [ inl first ↦ inl (inr first) | inr second ↦ inr second ]

  pub same-sym : (xs ys : List X) → HaveSame xs ys → HaveSame ys xs
  same-sym xs ys same x = ((same x).1, (same x).0)

  pub same-trans : (xs ys zs : List X) → HaveSame xs ys → HaveSame ys zs → HaveSame xs zs
  same-trans xs ys zs one other x = (λ there. (other x).0 ((one x).0 there), λ there. (one x).1 ((other x).1 there))

  -- FILTERS
  pub among-filter : (test : X → Bool) (x : X) (xs : List X) → Among x (filter test xs) → Among x xs × (test x ≡ true)
  among-filter test x [] there = absurd there
  among-filter test x (y ∷ ys) there = by (test y) refl (among-filter test x ys) there where
    by : (b : Bool) → test y ≡ b → (Among x (filter test ys) → Among x ys × (test x ≡ true)) → Among x (cond b (y ∷ filter test ys) (filter test ys)) → Among x (y ∷ ys) × (test x ≡ true)
    by true passes rest (inl is) = (inl is, ap test is ∙ passes)
    by true passes rest (inr there) = (inr (rest there).0, (rest there).1)
    by false fails rest there = (inr (rest there).0, (rest there).1)

  pub filter-among : (test : X → Bool) (x : X) (xs : List X) → Among x xs → test x ≡ true → Among x (filter test xs)
  filter-among test x [] there passes = absurd there
  filter-among test x (y ∷ ys) there passes = by (test y) refl (λ later. filter-among test x ys later passes) there where
    by : (b : Bool) → test y ≡ b → (Among x ys → Among x (filter test ys)) → Among x (y ∷ ys) → Among x (cond b (y ∷ filter test ys) (filter test ys))
    by true is rest (inl same) = inl same
    by true is rest (inr later) = inr (rest later)
    by false is rest (inl same) = cc (sym passes ∙ ap test same ∙ is)
    by false is rest (inr later) = rest later

  pub same-filter : (test : X → Bool) (xs ys : List X) → HaveSame xs ys → HaveSame (filter test xs) (filter test ys)
  same-filter test xs ys same x = (
    λ there. let is = among-filter test x xs there in filter-among test x ys ((same x).0 is.0) is.1,
    λ there. let is = among-filter test x ys there in filter-among test x xs ((same x).1 is.0) is.1,
  )

-- MAPS
module _ {X Y : Type 0} (f : X → Y) where
  pub among-map : (x : X) (xs : List X) → Among x xs → Among (f x) (map f xs)
  among-map x [] there = absurd there
  among-map x (y ∷ ys) (inl is) = inl (ap f is)
  among-map x (y ∷ ys) (inr there) = inr (among-map x ys there)

  pub map-among : (y : Y) (xs : List X) → Among y (map f xs) → (x : X) × Among x xs × (y ≡ f x)
  map-among y [] there = absurd there
  map-among y (x ∷ xs) (inl is) = (x, inl refl, is)
  map-among y (x ∷ xs) (inr there) = let found = map-among y xs there in (found.0, inr found.1, found.2)

  pub same-map : (xs ys : List X) → HaveSame xs ys → HaveSame (map f xs) (map f ys)
  same-map xs ys same y = (
    λ there. let found = map-among y xs there in subst (λ z. Among z (map f ys)) (sym found.2) (among-map found.0 ys ((same found.0).0 found.1)),
    λ there. let found = map-among y ys there in subst (λ z. Among z (map f xs)) (sym found.2) (among-map found.0 xs ((same found.0).1 found.1)),
  )

-- LISTS FOR EACH
module _ {X Y : Type 0} (f : X → List Y) where
  pub among-flat_map : (y : Y) (x : X) (xs : List X) → Among x xs → Among y (f x) → Among y (flat_map f xs)
  among-flat_map y x [] among there = absurd among
  among-flat_map y x (z ∷ xs) (inl is) there = among-append_left y (f z) (flat_map f xs) (subst (λ w. Among y (f w)) is there)
  among-flat_map y x (z ∷ xs) (inr later) there = among-append_right y (f z) (flat_map f xs) (among-flat_map y x xs later there)

  pub flat_map-among : (y : Y) (xs : List X) → Among y (flat_map f xs) → (x : X) × Among x xs × Among y (f x)
  flat_map-among y [] there = absurd there
  flat_map-among y (x ∷ xs) there = by (among-append y (f x) (flat_map f xs) there) (flat_map-among y xs) where
    by : Among y (f x) ⊎ Among y (flat_map f xs) → (Among y (flat_map f xs) → (z : X) × Among z xs × Among y (f z)) → (z : X) × Among z (x ∷ xs) × Among y (f z)
    by (inl here) rest = (x, inl refl, here)
    by (inr later) rest = let found = rest later in (found.0, inr found.1, found.2)

-- PERMUTATIONS
module _ {X : Type 0} where
  among-get_or : (xs : List X) (i : ℕ) (d : X) → i < length xs → Among (get_or xs i d) xs
  among-get_or [] i d within = absurd (omega (arith, within))
  among-get_or (y ∷ ys) zero d within = inl refl
  among-get_or (y ∷ ys) (suc i) d within = inr (among-get_or ys i d (omega (arith, within)))

  among-contains : (x : X) (xs : List X) → Contains xs x → Among x xs
  among-contains x xs there = subst (λ (y : X). Among y xs) there.2 (among-get_or xs there.0 x there.1)

  contains-among : (x : X) (xs : List X) → Among x xs → Contains xs x
  contains-among x [] there = absurd there
  contains-among x (y ∷ ys) (inl is) = (0, omega arith, sym is)
  contains-among x (y ∷ ys) (inr later) = let at = contains-among x ys later in (suc at.0, omega (arith, at.1), at.2)

  pub same-permutation : (xs ys : List X) → IsPermutation xs ys → HaveSame xs ys
  same-permutation xs ys shuffled x = (
    λ there. among-contains x ys (Contains-permutation xs ys x shuffled (contains-among x xs there)),
    λ there. among-contains x xs (Contains-permutation ys xs x (IsPermutation-sym xs ys shuffled) (contains-among x ys there)),
  )
