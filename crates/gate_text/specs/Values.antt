-- A test of each value of a finite map under numbers, and what it decides. For proofs of the crates above.
use Rattle.std.proofs.Common.{◌≡◌, ℕ, Bool, true, false, cond, ◌&&◌, List, [], ◌∷◌, Option, Some, None, IfSome, refl, sym, ◌∙◌, ap, subst}
use Rattle.std.proofs.lemmas.Bool.{and_parts}
use Rattle.std.specs.Bool.{Decides}
use Rattle.std.specs.Cmp.{nat_cmp_total, tied_itself}
use Rattle.std.specs.FinMap as finite
use Rattle.std.specs.FinMap.{FinMap, IsAntisymmetric, find, nat_cmp-IsAntisymmetric}
use Rattle.std.specs.FinMap.Entries.{is_sorted, below_all}
use Rattle.std.specs.List.{list_all}
use Rattle.std.specs.Ordering.{eq_by_cmp, is_eq, is_lt, nat_cmp}
use Rattle.std.specs.Prelude.{T}
use Rattle.std.specs.declared.cmp.Ordering.{Ordering}
use Rattle.std.specs.declared.cmp.Ordering.TheVariants.{Less, Equal, Greater}

both_true : (a b : Bool) → a ≡ true → b ≡ true → (a && b) ≡ true
both_true true b first second = second
both_true false b first second = cc

true_from_T : (b : Bool) → T b → b ≡ true
true_from_T true is = refl
true_from_T false is = absurd is

pub tied : {K : Type 0} {R : K → K → Ordering} → IsAntisymmetric R → (x y : K) → eq_by_cmp R x y ≡ true → x ≡ y
tied {R = R} same x y is = same x y (equal (R x y) is) where
  equal : (o : Ordering) → is_eq o ≡ true → o ≡ Equal
  equal Less is = cc
  equal Equal is = refl
  equal Greater is = cc

not_below-step : {X : Type 0} (r : Ordering) (x : X) (found : Option X) → found ≡ None → is_lt r ≡ true → cond (is_eq r) (Some x) found ≡ None
not_below-step Less x found none is = none
not_below-step Equal x found none is = cc
not_below-step Greater x found none is = cc

module _ {X : Type 0} (p : X → Bool) (P : X → Type 0) (decides : (x : X) → Decides (p x) (P x)) where
  not_below : (k : ℕ) (es : List (ℕ × X)) → below_all nat_cmp k es ≡ true → find nat_cmp k es ≡ None
  not_below k [] below = refl
  not_below k (e ∷ es) below = not_below-step (nat_cmp k e.0) e.1 (find nat_cmp k es) (not_below k es (and_parts _ _ below).1) (and_parts _ _ below).0

  abbrev values_pass : List (ℕ × X) → Bool
  values_pass es = list_all (λ (e : ℕ × X). p e.1) es

  abbrev ValuesPass : List (ℕ × X) → Type 0
  ValuesPass es = (k : ℕ) → IfSome (find nat_cmp k es) P

  values-step : (e : ℕ × X) (es : List (ℕ × X)) → below_all nat_cmp e.0 es ≡ true → Decides (values_pass es) (ValuesPass es) → Decides (values_pass (e ∷ es)) (ValuesPass (e ∷ es))
  values-step e es below rest = (there, back) where
    there : values_pass (e ∷ es) ≡ true → ValuesPass (e ∷ es)
    there is k = by (eq_by_cmp nat_cmp k e.0) where
      by : (b : Bool) → IfSome (cond b (Some e.1) (find nat_cmp k es)) P
      by true = (decides e.1).0 (and_parts _ _ is).0
      by false = rest.0 (and_parts _ _ is).1 k

    back : ValuesPass (e ∷ es) → values_pass (e ∷ es) ≡ true
    back each = both_true _ _ ((decides e.1).1 (subst (λ (r : Ordering). IfSome (cond (is_eq r) (Some e.1) (find nat_cmp e.0 es)) P) (tied_itself nat_cmp_total e.0) (each e.0)))
        (rest.1 (λ k. later k (eq_by_cmp nat_cmp k e.0) refl (each k))) where
          later : (k : ℕ) (b : Bool) → eq_by_cmp nat_cmp k e.0 ≡ b → IfSome (cond b (Some e.1) (find nat_cmp k es)) P → IfSome (find nat_cmp k es) P
          later k true ties here =
              let gone : find nat_cmp k es ≡ None = ap (λ (n : ℕ). find nat_cmp n es) (tied nat_cmp-IsAntisymmetric k e.0 ties) ∙ not_below e.0 es below in
              subst (λ (o : Option X). IfSome o P) (sym gone) tt
          later k false other here = here

  Decides-found : (es : List (ℕ × X)) → is_sorted nat_cmp es ≡ true → Decides (values_pass es) (ValuesPass es)
  Decides-found [] sorted = (λ _ k. tt, λ _. refl)
  Decides-found (e ∷ es) sorted = values-step e es (and_parts _ _ sorted).0 (Decides-found es (and_parts _ _ sorted).1)

  pub Decides-values : (m : FinMap nat_cmp X) → Decides (list_all (λ (e : ℕ × X). p e.1) (finite.entries m)) ((k : ℕ) → IfSome (finite.get m k) P)
  Decides-values m = (λ is k. subst (λ (o : Option X). IfSome o P) (sym (finite.get-entries m k)) (listed.0 is k), λ each. listed.1 (λ k. subst (λ (o : Option X). IfSome o P) (finite.get-entries m k) (each k))) where
    listed : Decides (list_all (λ (e : ℕ × X). p e.1) (finite.entries m)) ((k : ℕ) → IfSome (find nat_cmp k (finite.entries m)) P)
    listed = Decides-found (finite.entries m) (true_from_T _ (finite.entries_sorted m))
