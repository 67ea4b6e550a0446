-- The place of the last item that passes a test, and how a proof finds it. For proofs of this crate and of those above it.
use Rattle.std.specs.Prelude.{◌≡◌, ℕ, suc, ◌+◌, ◌<◌, ◌≤◌, Bool, true, false, List, [], ◌∷◌, ◌++◌, length, take, drop, Option, Some, None}
use Rattle.std.proofs.Common.{All, get_or, min, refl, sym, subst, ◌∙◌, ap, arith, length-drop, take-append-drop}
use Rattle.std.proofs.lemmas.List.{drop_more, get_or-drop, length-take}
use Rattle.std.proofs.lemmas.List.Elements.{All-head, All-tail, All-from_get_or}
use Rattle.std.specs.Bool.{then_some}
use Rattle.std.specs.Option.{option_map, option_or}

abbrev pub last_where : {X : Type 0} → (X → Bool) → List X → Option ℕ
last_where test [] = None
last_where test (x ∷ xs) = option_or (option_map suc (last_where test xs)) (then_some (test x) 0)

module _ {X : Type 0} (test : X → Bool) where
  abbrev pub Fails : X → Type 0
  Fails x = test x ≡ false

  -- if none passes, there is no such place
  pub last_where-none : (xs : List X) → All Fails xs → last_where test xs ≡ None
  last_where-none [] none = refl
  last_where-none (x ∷ xs) none = rw (last_where-none xs (All-tail Fails x xs none), All-head Fails x xs none) refl

  -- if an item passes and none behind it does, its place is the one
  pub last_where-behind : (front : List X) (x : X) (rest : List X) → test x ≡ true → last_where test rest ≡ None → last_where test (front ++ x ∷ rest) ≡ Some (length front)
  last_where-behind [] x rest passes none = rw (none, passes) refl
  last_where-behind (y ∷ front) x rest passes none = rw (last_where-behind front x rest passes none) refl

  -- the same by places: the item at one passes, and those behind it don't
  found_at : (default : X) (xs : List X) (place : ℕ) → place < length xs → test (get_or xs place default) ≡ true
      → ((k : ℕ) → place + 1 ≤ k → k < length xs → test (get_or xs k default) ≡ false) → last_where test xs ≡ Some place
  found_at default xs place within passes none =
      let rest = drop (place + 1) xs in
      let cut : xs ≡ take place xs ++ get_or xs place default ∷ rest = sym (take-append-drop place xs) ∙ ap (λ back. take place xs ++ back) (drop_more xs place default within) in
      let others : All Fails rest = All-from_get_or Fails rest default (λ k inside. subst Fails (sym (get_or-drop (place + 1) xs k default)) (none (place + 1 + k) (omega arith) (omega (arith, length-drop (place + 1) xs)))) in
      let least : min place (length xs) ≡ place = omega arith in
      ap (last_where test) cut ∙ last_where-behind (take place xs) _ rest passes (last_where-none rest others) ∙ ap Some (length-take place xs ∙ least)

  pub last_where-at : (xs : List X) (place : ℕ) → place < length xs → ((default : X) → test (get_or xs place default) ≡ true)
      → ((k : ℕ) → place + 1 ≤ k → k < length xs → (default : X) → test (get_or xs k default) ≡ false) → last_where test xs ≡ Some place
  last_where-at [] place within passes none = absurd (omega (arith, within))
  last_where-at (x ∷ xs) place within passes none = found_at x (x ∷ xs) place within (passes x) (λ k after inside. none k after inside x)
