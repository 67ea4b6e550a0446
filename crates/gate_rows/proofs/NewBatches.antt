-- The batches that were noted, and those under new numbers: as entries by number, of which none has a batch then under a new number.
use Rattle.std.proofs.Common.{◌≡◌, ◌<◌, ◌≤◌, ◌+◌, ◌==◌, ℕ, zero, suc, Bool, true, false, cond, nat_lt, T, List, [], ◌∷◌, ◌++◌, map, Option, Some, None, ◌⊎◌, inl, inr, refl, sym, ◌∙◌, ap, subst, arith}
use Rattle.std.proofs.lemmas.Bool.{and_parts}
use Rattle.std.proofs.lemmas.Bool.Decides.{nat_tests}
use Rattle.std.proofs.lemmas.List.{append-nil, map-append}
use Rattle.std.proofs.lemmas.List.Elements.{filter_map-append}
use Rattle.std.specs.Cmp.{nat_cmp_is, nat_cmp_total, unsigned_tied}
use Rattle.std.specs.FinMap as finite
use Rattle.std.specs.FinMap.{FinMap, entries_sorted, find, is_sorted, nat_cmp-IsAntisymmetric}
use Rattle.std.specs.FinMap.Entries.{below_all}
use Rattle.std.specs.List.{cons_option, filter_map, list_all, range_with_len}
use Rattle.std.specs.List as list
use Rattle.std.specs.Option.{is_some, option_or}
use Rattle.std.specs.Ordering.{eq_by_cmp, is_lt, nat_cmp}
use Rattle.std.specs.declared.cmp.Ordering.{Ordering}
use Rattle.std.specs.declared.cmp.Ordering.TheVariants.{Less}
use Rattle.gate_queue.specs.Before.{Tells}
use Rattle.gate_state.specs.declared.batch.Batch.{Batch}
use Rattle.gate_rows.proofs.Canonical.{both, got}
use Rattle.gate_rows.proofs.Elements.{Among}
use Rattle.gate_rows.proofs.Lanes.{both_true}
use Rattle.gate_rows.specs.Parts.{are_there, named, were_there}

-- no batch of a list has a number from the next one on
pub none_from : (next n : ℕ) → next ≤ n → (batches : List Batch) → list_all (λ (b : Batch). nat_lt b.number next) batches ≡ true → list.find (λ (b : Batch). b.number == n) batches ≡ None
none_from next n above [] all = refl
none_from next n above (b ∷ batches) all =
    let parts = and_parts (nat_lt b.number next) (list_all (λ (b : Batch). nat_lt b.number next) batches) all in
    ap (λ (c : Bool). cond c (Some b) (list.find (λ (b : Batch). b.number == n) batches)) (other parts.0) ∙ none_from next n above batches parts.1
  where
    other : nat_lt b.number next ≡ true → (b.number == n) ≡ false
    other is = grind (arith, nat_tests)

find_joined : {K X : Type 0} (R : K → K → Ordering) (q : K) (es fs : List (K × X)) → find R q (es ++ fs) ≡ option_or (find R q es) (find R q fs)
find_joined R q [] fs = refl
find_joined {X = X} R q (e ∷ es) fs = ap (λ (found : Option X). cond (eq_by_cmp R q e.0) (Some e.1) found) (find_joined R q es fs) ∙ by (eq_by_cmp R q e.0) where
  by : (b : Bool) → cond b (Some e.1) (option_or (find R q es) (find R q fs)) ≡ option_or (cond b (Some e.1) (find R q es)) (find R q fs)
  by true = refl
  by false = refl

-- NUMBERS UNDER WHICH NOTHING WAS
abbrev pub nothing_at : {X : Type 0} → ℕ → ℕ × Option X
nothing_at n = (n, None)

abbrev pub nothing_from : {X : Type 0} → ℕ → ℕ → List (ℕ × Option X)
nothing_from from count = map nothing_at (range_with_len from count)

less : (k n : ℕ) → k < n → T (is_lt (nat_cmp k n))
less k n below = subst (λ (o : Ordering). T (is_lt o)) (nat_cmp_is k n Less below) tt

module _ (X : Type 0) where
  below_new : (k from count : ℕ) → k < from → T (below_all nat_cmp k (nothing_from {X = X} from count))
  below_new k from zero below = tt
  below_new k from (suc count) below = both_true (is_lt (nat_cmp k from)) (below_all nat_cmp k (nothing_from {X = X} (from + 1) count)) (less k from below) (below_new k (from + 1) count (omega (arith, below)))

  new_sorted : (from count : ℕ) → T (is_sorted nat_cmp (nothing_from {X = X} from count))
  new_sorted from zero = tt
  new_sorted from (suc count) = both_true (below_all nat_cmp from (nothing_from {X = X} (from + 1) count)) (is_sorted nat_cmp (nothing_from {X = X} (from + 1) count)) (below_new from (from + 1) count (omega arith)) (new_sorted (from + 1) count)

-- behind entries below them
below_joined : {X : Type 0} (k : ℕ) (es fs : List (ℕ × X)) → T (below_all nat_cmp k es) → T (below_all nat_cmp k fs) → T (below_all nat_cmp k (es ++ fs))
below_joined k [] fs one other = other
below_joined k (e ∷ es) fs one other =
    let parts = both (is_lt (nat_cmp k e.0)) (below_all nat_cmp k es) one in both_true (is_lt (nat_cmp k e.0)) (below_all nat_cmp k (es ++ fs)) parts.0 (below_joined k es fs parts.1 other)

module _ {X : Type 0} where
  joined_sorted : (from count : ℕ) (es : List (ℕ × Option X)) → T (is_sorted nat_cmp es) → ((e : ℕ × Option X) → Among e es → e.0 < from) → T (is_sorted nat_cmp (es ++ nothing_from from count))
  joined_sorted from count [] sorted below = new_sorted X from count
  joined_sorted from count (e ∷ es) sorted below =
      let parts = both (below_all nat_cmp e.0 es) (is_sorted nat_cmp es) sorted in
      both_true (below_all nat_cmp e.0 (es ++ nothing_from from count)) (is_sorted nat_cmp (es ++ nothing_from from count))
      (below_joined e.0 es (nothing_from from count) parts.0 (below_new X e.0 from count (below e (inl refl))))
      (joined_sorted from count es parts.1 (λ f there. below f (inr there)))

  tells_new : (q from count : ℕ) (old new : Option X) → (from ≤ q → old ≡ None) → (from + count ≤ q → new ≡ None) → (q < from → new ≡ old) → Tells (find nat_cmp q (nothing_from from count)) old new
  tells_new q from zero old new old_none new_none same = by (nat_lt q from) refl where
    by : (b : Bool) → nat_lt q from ≡ b → new ≡ old
    by true is = same (grind (arith, nat_tests))
    by false is = new_none (grind (arith, nat_tests)) ∙ sym (old_none (grind (arith, nat_tests)))
  tells_new q from (suc count) old new old_none new_none same = by (eq_by_cmp nat_cmp q from) (sym (unsigned_tied q from)) (tells_new q (from + 1) count old new) where
    by : (b : Bool) → (q == from) ≡ b → ((from + 1 ≤ q → old ≡ None) → ((from + 1) + count ≤ q → new ≡ None) → (q < from + 1 → new ≡ old) → Tells (find nat_cmp q (nothing_from (from + 1) count)) old new)
        → Tells (cond b (Some None) (find nat_cmp q (nothing_from (from + 1) count))) old new
    by true is rest = sym (old_none (grind (arith, nat_tests)))
    by false is rest = rest (λ above. old_none (omega (arith, above))) (λ above. new_none (omega (arith, above))) (λ below. same (grind (arith, nat_tests)))

-- WHAT WAS NOTED, and the new numbers behind it
module _ {X : Type 0} (noted : FinMap nat_cmp (Option X)) (from count : ℕ) (unused : (n : ℕ) → from ≤ n → finite.get noted n ≡ None) where
  abbrev pub known : List (ℕ × Option X)
  known = finite.entries noted ++ nothing_from from count

  noted_below : (e : ℕ × Option X) → Among e (finite.entries noted) → e.0 < from
  noted_below e there = by (nat_lt e.0 from) refl where
    by : (b : Bool) → nat_lt e.0 from ≡ b → e.0 < from
    by true is = grind (arith, nat_tests)
    by false is =
        let none = unused e.0 (grind (arith, nat_tests)) in
        let some = got nat_cmp_total nat_cmp-IsAntisymmetric noted e.0 e.1 there in
        let no : false ≡ true = ap is_some (sym none ∙ some) in absurd cc

  pub known_sorted : T (is_sorted nat_cmp known)
  known_sorted = joined_sorted from count (finite.entries noted) (entries_sorted noted) noted_below

  pub known_tells : (q : ℕ) (old new : Option X) → (q < from → Tells (finite.get noted q) old new) → (from ≤ q → old ≡ None) → (from + count ≤ q → new ≡ None) → Tells (find nat_cmp q known) old new
  known_tells q old new tells old_none new_none =
      subst (λ (found : Option (Option X)). Tells found old new) (sym (find_joined nat_cmp q (finite.entries noted) (nothing_from from count)))
      (by (find nat_cmp q (finite.entries noted)) (finite.get-entries noted q))
    where
      below_or : (found : Option (Option X)) → finite.get noted q ≡ found → (b : Bool) → nat_lt q from ≡ b → Tells found old new ⊎ (found ≡ None)
      below_or found is true below = inl (subst (λ (f : Option (Option X)). Tells f old new) is (tells (grind (arith, nat_tests))))
      below_or found is false above = inr (sym is ∙ unused q (grind (arith, nat_tests)))

      by : (found : Option (Option X)) → finite.get noted q ≡ found → Tells (option_or found (find nat_cmp q (nothing_from from count))) old new
      by None is = tells_new q from count old new old_none new_none (λ below. subst (λ (f : Option (Option X)). Tells f old new) is (tells below))
      by (Some value) is = elim (below_or (Some value) is (nat_lt q from) refl) [ inl told ↦ told | inr none ↦ (let no : true ≡ false = ap is_some none in absurd cc) ]

-- THEIR VALUES
module _ {K X Y : Type 0} (f : K → X → Option Y) where
  values_given : (es : List (K × X)) → map (λ (e : K × Y). e.1) (filter_map (λ e. named e.0 (f e.0 e.1)) es) ≡ filter_map (λ e. f e.0 e.1) es
  values_given [] = refl
  values_given (e ∷ es) = by (f e.0 e.1) (values_given es) where
    by : (value : Option Y) → map (λ (e : K × Y). e.1) (filter_map (λ e. named e.0 (f e.0 e.1)) es) ≡ filter_map (λ e. f e.0 e.1) es
        → map (λ (e : K × Y). e.1) (cons_option (named e.0 value) (filter_map (λ e. named e.0 (f e.0 e.1)) es)) ≡ cons_option value (filter_map (λ e. f e.0 e.1) es)
    by None rest = rest
    by (Some y) rest = ap (λ ys. y ∷ ys) rest

filter_map-map : {X Y Z : Type 0} (f : Y → Option Z) (g : X → Y) (xs : List X) → filter_map f (map g xs) ≡ filter_map (λ x. f (g x)) xs
filter_map-map f g [] = refl
filter_map-map f g (x ∷ xs) = ap (cons_option (f (g x))) (filter_map-map f g xs)

keys_again : (X : Type 0) (ns : List ℕ) → map (λ (e : ℕ × Option X). e.0) (map nothing_at ns) ≡ ns
keys_again X [] = refl
keys_again X (n ∷ ns) = ap (λ ms. n ∷ ms) (keys_again X ns)

module _ {X : Type 0} where
  no_values : (ns : List ℕ) → filter_map (λ (e : ℕ × Option X). e.1) (map nothing_at ns) ≡ []
  no_values [] = refl
  no_values (n ∷ ns) = no_values ns

  pub values_then : (es : List (ℕ × Option X)) (ns : List ℕ) → map (λ (e : ℕ × X). e.1) (were_there (es ++ map nothing_at ns)) ≡ filter_map (λ (e : ℕ × Option X). e.1) es
  values_then es ns =
      values_given (λ k value. value) (es ++ map nothing_at ns) ∙ filter_map-append (λ (e : ℕ × Option X). e.1) es (map nothing_at ns)
      ∙ ap (λ xs. filter_map (λ (e : ℕ × Option X). e.1) es ++ xs) (no_values ns) ∙ append-nil (filter_map (λ (e : ℕ × Option X). e.1) es)

  pub values_now : (m : FinMap nat_cmp X) (es : List (ℕ × Option X)) (ns : List ℕ)
      → map (λ (e : ℕ × X). e.1) (are_there m (es ++ map nothing_at ns)) ≡ filter_map (λ n. finite.get m n) (map (λ (e : ℕ × Option X). e.0) es ++ ns)
  values_now m es ns =
      values_given (λ k value. finite.get m k) (es ++ map nothing_at ns)
      ∙ sym (filter_map-map (λ n. finite.get m n) (λ (e : ℕ × Option X). e.0) (es ++ map nothing_at ns))
      ∙ ap (filter_map (λ n. finite.get m n)) (map-append (λ (e : ℕ × Option X). e.0) es (map nothing_at ns) ∙ ap (λ ks. map (λ (e : ℕ × Option X). e.0) es ++ ks) (keys_again X ns))
