-- Entries that were noted of a map before it changed: with the entries that weren't, they are the entries of the map then; and what there
-- is now under their keys is, with the same others, the entries of the map now.
use Rattle.std.proofs.Common.{◌≡◌, Bool, true, false, not, cond, T, List, [], ◌∷◌, ◌++◌, filter, Option, Some, None, is_some, IsPermutation, refl, sym, ◌∙◌, ap, subst}
use Rattle.std.proofs.lemmas.Bool.{false_from_ne_true}
use Rattle.std.proofs.lemmas.List.Sorted.{IsPermutation-filter_both, IsPermutation-sym}
use Rattle.std.specs.Cmp.{IsTotalOrder}
use Rattle.std.specs.FinMap as finite
use Rattle.std.specs.FinMap.{FinMap, IsAntisymmetric, find, entries_sorted, is_sorted}
use Rattle.std.specs.FinMap.Entries.{below_all, find-where_key, is_sorted-where_key, same_entries}
use Rattle.std.specs.List.{filter_map, cons_option}
use Rattle.std.specs.Option.{option_and_then}
use Rattle.std.specs.Ordering.{eq_by_cmp, is_eq, is_lt}
use Rattle.std.specs.declared.cmp.Ordering.{Ordering}
use Rattle.gate_queue.specs.Before.{Tells}
use Rattle.gate_rows.proofs.ByKey.{equal_is}
use Rattle.gate_rows.proofs.Canonical.{both}
use Rattle.gate_rows.proofs.Keys.{less_or_tied}
use Rattle.gate_rows.proofs.Lanes.{both_true}
use Rattle.gate_rows.proofs.Parted.{Parted}
use Rattle.gate_rows.specs.Parts.{named, were_there, are_there}

module _ {K : Type 0} {R : K → K → Ordering} (total : IsTotalOrder R) (same : IsAntisymmetric R) where
  one_key : (q k : K) → eq_by_cmp R q k ≡ true → q ≡ k
  one_key q k is = same q k (equal_is (R q k) is)

  -- below the first entry nothing is found
  found_none : {X : Type 0} (q : K) (es : List (K × X)) → T (below_all R q es) → find R q es ≡ None
  found_none q [] below = refl
  found_none q (e ∷ es) below =
      let parts = both (is_lt (R q e.0)) (below_all R q es) below in ap (λ (b : Bool). cond b (Some e.1) (find R q es)) (false_from_ne_true (is_eq (R q e.0)) (less_or_tied (R q e.0) parts.0)) ∙ found_none q es parts.1

  -- WHAT A FUNCTION GIVES OF ENTRIES, each value under its own key
  module _ {X Y : Type 0} (f : K → X → Option Y) where
    abbrev given : List (K × X) → List (K × Y)
    given es = filter_map (λ e. named e.0 (f e.0 e.1)) es

    given_below : (k : K) (es : List (K × X)) → T (below_all R k es) → T (below_all R k (given es))
    given_below k [] below = tt
    given_below k (e ∷ es) below = let parts = both (is_lt (R k e.0)) (below_all R k es) below in by (f e.0 e.1) parts.0 (given_below k es parts.1) where
      by : (value : Option Y) → T (is_lt (R k e.0)) → T (below_all R k (given es)) → T (below_all R k (cons_option (named e.0 value) (given es)))
      by None less rest = rest
      by (Some y) less rest = both_true (is_lt (R k e.0)) (below_all R k (given es)) less rest

    given_sorted : (es : List (K × X)) → T (is_sorted R es) → T (is_sorted R (given es))
    given_sorted [] sorted = tt
    given_sorted (e ∷ es) sorted = let parts = both (below_all R e.0 es) (is_sorted R es) sorted in by (f e.0 e.1) (given_below e.0 es parts.0) (given_sorted es parts.1) where
      by : (value : Option Y) → T (below_all R e.0 (given es)) → T (is_sorted R (given es)) → T (is_sorted R (cons_option (named e.0 value) (given es)))
      by None below rest = rest
      by (Some y) below rest = both_true (below_all R e.0 (given es)) (is_sorted R (given es)) below rest

    find_given : (q : K) (es : List (K × X)) → T (is_sorted R es) → find R q (given es) ≡ option_and_then (f q) (find R q es)
    find_given q [] sorted = refl
    find_given q (e ∷ es) sorted =
        let parts = both (below_all R e.0 es) (is_sorted R es) sorted in by (eq_by_cmp R q e.0) refl (f e.0 e.1) refl (find_given q es parts.1) (found_none e.0 es parts.0)
      where
        by : (b : Bool) → eq_by_cmp R q e.0 ≡ b → (value : Option Y) → f e.0 e.1 ≡ value → find R q (given es) ≡ option_and_then (f q) (find R q es) → find R e.0 es ≡ None
            → find R q (cons_option (named e.0 value) (given es)) ≡ option_and_then (f q) (cond b (Some e.1) (find R q es))
        by true is None gives rest none =
            rest ∙ ap (λ (found : Option X). option_and_then (f q) found) (ap (λ (k : K). find R k es) (one_key q e.0 is) ∙ none) ∙ sym (ap (λ (k : K). f k e.1) (one_key q e.0 is) ∙ gives)
        by true is (Some y) gives rest none =
            ap (λ (b : Bool). cond b (Some y) (find R q (given es))) is ∙ sym (ap (λ (k : K). f k e.1) (one_key q e.0 is) ∙ gives)
        by false is None gives rest none = rest
        by false is (Some y) gives rest none = ap (λ (b : Bool). cond b (Some y) (find R q (given es))) is ∙ rest

  -- THE PARTS
  module _ {X : Type 0} (noted : List (K × Option X)) (sorted : T (is_sorted R noted)) (old new : FinMap R X) (tells : (q : K) → Tells (find R q noted) (finite.get old q) (finite.get new q)) where
    abbrev is_noted : K → Bool
    is_noted q = is_some (find R q noted)

    -- the entries that a test keeps
    kept : (test : K → Bool) (m : FinMap R X) (q : K) → find R q (filter (λ (e : K × X). test e.0) (finite.entries m)) ≡ cond (test q) (finite.get m q) None
    kept test m q = find-where_key R test q (λ x is. ap test (sym (same q x is))) (finite.entries m) ∙ ap (λ (found : Option X). cond (test q) found None) (sym (finite.get-entries m q))

    kept_sorted : (test : K → Bool) (m : FinMap R X) → T (is_sorted R (filter (λ (e : K × X). test e.0) (finite.entries m)))
    kept_sorted test m = is_sorted-where_key R test (finite.entries m) (entries_sorted m)

    one_list : (es fs : List (K × X)) → T (is_sorted R es) → T (is_sorted R fs) → ((q : K) → find R q es ≡ find R q fs) → es ≡ fs
    one_list = same_entries R total same

    abbrev noted_of : FinMap R X → List (K × X)
    noted_of m = filter (λ (e : K × X). is_noted e.0) (finite.entries m)

    abbrev others_of : FinMap R X → List (K × X)
    others_of m = filter (λ (e : K × X). not (is_noted e.0)) (finite.entries m)

    then_noted : were_there noted ≡ noted_of old
    then_noted = one_list (were_there noted) (noted_of old) (given_sorted (λ k value. value) noted sorted) (kept_sorted is_noted old)
        (λ q. find_given (λ k value. value) q noted sorted ∙ by q (find R q noted) (tells q) ∙ sym (kept is_noted old q))
      where
        by : (q : K) (found : Option (Option X)) → Tells found (finite.get old q) (finite.get new q) → option_and_then (λ value. value) found ≡ cond (is_some found) (finite.get old q) None
        by q None told = refl
        by q (Some value) told = told

    now_noted : are_there new noted ≡ noted_of new
    now_noted = one_list (are_there new noted) (noted_of new) (given_sorted (λ k value. finite.get new k) noted sorted) (kept_sorted is_noted new)
        (λ q. find_given (λ k value. finite.get new k) q noted sorted ∙ by q (find R q noted) ∙ sym (kept is_noted new q))
      where
        by : (q : K) (found : Option (Option X)) → option_and_then (λ value. finite.get new q) found ≡ cond (is_some found) (finite.get new q) None
        by q None = refl
        by q (Some value) = refl

    same_others : others_of new ≡ others_of old
    same_others = one_list (others_of new) (others_of old) (kept_sorted (λ q. not (is_noted q)) new) (kept_sorted (λ q. not (is_noted q)) old)
        (λ q. kept (λ k. not (is_noted k)) new q ∙ by q (find R q noted) (tells q) ∙ sym (kept (λ k. not (is_noted k)) old q))
      where
        by : (q : K) (found : Option (Option X)) → Tells found (finite.get old q) (finite.get new q) → cond (not (is_some found)) (finite.get new q) None ≡ cond (not (is_some found)) (finite.get old q) None
        by q None told = told
        by q (Some value) told = refl

    parted : (m : FinMap R X) → IsPermutation (noted_of m ++ others_of m) (finite.entries m)
    parted m = IsPermutation-sym (finite.entries m) (noted_of m ++ others_of m) (IsPermutation-filter_both (λ (e : K × X). is_noted e.0) (λ (e : K × X). not (is_noted e.0)) (λ e. refl) (finite.entries m))

    pub noted_parted : Parted (were_there noted) (are_there new noted) (finite.entries old) (finite.entries new)
    noted_parted = record {
      others = others_of old;
      was = subst (λ (front : List (K × X)). IsPermutation (front ++ others_of old) (finite.entries old)) (sym then_noted) (parted old);
      is = subst (λ (all : List (K × X)). IsPermutation all (finite.entries new)) (λ i. sym now_noted i ++ same_others i) (parted new);
    }
