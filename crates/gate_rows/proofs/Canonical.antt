-- A finite map from a list of entries is the one of the list in the order of its keys.
use Rattle.std.proofs.Common.{◌≡◌, inl, inr, Bool, true, false, cond, ◌&&◌, T, List, [], ◌∷◌, map, Option, Some, None, refl, sym, ◌∙◌, ap, subst}
use Rattle.std.specs.Cmp.{IsTotalOrder, eq_by_cmp_equiv}
use Rattle.std.specs.FinMap as finite
use Rattle.std.specs.FinMap.{FinMap, IsAntisymmetric, find, is_sorted, from_entries, from_sorted, same_map, get-from_entries, get-from_sorted, entries-from_sorted, entries_sorted, same_entries_map}
use Rattle.std.specs.FinMap.Entries.{below_all}
use Rattle.std.specs.Ordering.{eq_by_cmp, is_lt, is_eq}
use Rattle.std.specs.declared.cmp.Ordering.{Ordering}
use Rattle.std.specs.declared.cmp.Ordering.TheVariants.{Less, Equal, Greater}
use Rattle.gate_rows.proofs.Elements.{Among, HaveSame, among-map, map-among}

pub equal : (r : Ordering) → is_eq r ≡ true → r ≡ Equal
equal Less is = cc is
equal Equal is = refl
equal Greater is = cc is

not_equal : (r : Ordering) → T (is_lt r) → is_eq r ≡ false
not_equal Less is = refl
not_equal Equal is = absurd is
not_equal Greater is = absurd is

pub both : (a b : Bool) → T (a && b) → T a × T b
both true b is = (tt, is)
both false b is = absurd is

some_or_none : {X : Type 0} (one other : Option X) → ((x : X) → one ≡ Some x → other ≡ Some x) → ((x : X) → other ≡ Some x → one ≡ Some x) → one ≡ other
some_or_none None None to from = refl
some_or_none None (Some x) to from = from x refl
some_or_none (Some x) other to from = sym (to x refl)

module _ {K X : Type 0} {R : K → K → Ordering} (total : IsTotalOrder R) (apart : IsAntisymmetric R) where
  -- what is found is among the entries
  pub found-among : (q : K) (x : X) (es : List (K × X)) → find R q es ≡ Some x → Among (q, x) es
  found-among q x [] found = cc found
  found-among q x (e ∷ es) found = by (eq_by_cmp R q e.0) refl (found-among q x es) found where
    by : (b : Bool) → eq_by_cmp R q e.0 ≡ b → (find R q es ≡ Some x → Among (q, x) es) → cond b (Some e.1) (find R q es) ≡ Some x → Among (q, x) (e ∷ es)
    by true is rest found = let same : e.1 ≡ x = cc found in inl (λ i. (apart q e.0 (equal (R q e.0) is) i, sym same i))
    by false is rest found = inr (rest found)

  -- in the order of keys, what is among the entries is found
  below : (k q : K) (x : X) (es : List (K × X)) → T (below_all R k es) → Among (q, x) es → T (is_lt (R k q))
  below k q x [] less there = absurd there
  below k q x (e ∷ es) less (inl is) = subst (λ (other : K). T (is_lt (R k other))) (sym (ap (λ (p : K × X). p.0) is)) (both (is_lt (R k e.0)) (below_all R k es) less).0
  below k q x (e ∷ es) less (inr later) = below k q x es (both (is_lt (R k e.0)) (below_all R k es) less).1 later

  among-found : (q : K) (x : X) (es : List (K × X)) → T (is_sorted R es) → Among (q, x) es → find R q es ≡ Some x
  among-found q x [] sorted there = absurd there
  among-found q x (e ∷ es) sorted (inl is) =
      let tied : eq_by_cmp R q e.0 ≡ true = ap (λ (p : K × X). eq_by_cmp R q p.0) (sym is) ∙ (eq_by_cmp_equiv total).refl q in
      ap (λ (b : Bool). cond b (Some e.1) (find R q es)) tied ∙ ap (λ (p : K × X). Some p.1) (sym is)
  among-found q x (e ∷ es) sorted (inr later) =
      let parts = both (below_all R e.0 es) (is_sorted R es) sorted in
      let untied : eq_by_cmp R q e.0 ≡ false = (eq_by_cmp_equiv total).symm q e.0 ∙ not_equal (R e.0 q) (below e.0 q x es parts.0 later) in
      ap (λ (b : Bool). cond b (Some e.1) (find R q es)) untied ∙ among-found q x es parts.1 later

  -- what is among the entries, in whatever order, lets something be found
  pub among-some : (q : K) (x : X) (es : List (K × X)) → Among (q, x) es → (found : X) × (find R q es ≡ Some found)
  among-some q x [] there = absurd there
  among-some q x (e ∷ es) (inl is) =
      (e.1, ap (λ (b : Bool). cond b (Some e.1) (find R q es)) (ap (λ (p : K × X). eq_by_cmp R q p.0) (sym is) ∙ (eq_by_cmp_equiv total).refl q))
  among-some q x (e ∷ es) (inr later) = by (eq_by_cmp R q e.0) (among-some q x es later) where
    by : (b : Bool) → (found : X) × (find R q es ≡ Some found) → (found : X) × (cond b (Some e.1) (find R q es) ≡ Some found)
    by true rest = (e.1, refl)
    by false rest = rest

  -- entries that are those of a list in the order of keys make the map of that list
  pub canonical : (es sorted : List (K × X)) → T (is_sorted R sorted) → HaveSame es sorted → from_entries {R = R} es ≡ from_sorted {R = R} sorted
  canonical es sorted in_order same = same_map total apart (from_entries {R = R} es) (from_sorted {R = R} sorted) at where
    to : (q : K) (x : X) → find R q es ≡ Some x → find R q sorted ≡ Some x
    to q x found = among-found q x sorted in_order ((same (q, x)).0 (found-among q x es found))

    there : (q : K) (x : X) → find R q sorted ≡ Some x → find R q es ≡ Some x
    there q x found =
        let any = among-some q x es ((same (q, x)).1 (found-among q x sorted found)) in
        any.1 ∙ sym (to q any.0 any.1) ∙ found

    at : (q : K) → finite.get (from_entries {R = R} es) q ≡ finite.get (from_sorted {R = R} sorted) q
    at q = get-from_entries total es q ∙ some_or_none (find R q es) (find R q sorted) (to q) (there q) ∙ sym (get-from_sorted R sorted q in_order)

  -- the same entries make a map again
  pub map_again : (es : List (K × X)) (m : FinMap R X) → HaveSame es (finite.entries m) → from_entries {R = R} es ≡ m
  map_again es m same =
      let sorted = entries_sorted m in
      canonical es (finite.entries m) sorted same ∙ same_entries_map (from_sorted {R = R} (finite.entries m)) m (entries-from_sorted R (finite.entries m) sorted)

  -- and their values, in the order of their keys, are those of the list
  pub values_again : (es sorted : List (K × X)) → T (is_sorted R sorted) → HaveSame es sorted → finite.entries (from_entries {R = R} es) ≡ sorted
  values_again es sorted in_order same = ap finite.entries (canonical es sorted in_order same) ∙ entries-from_sorted R sorted in_order

  -- one entry alone has a key
  pub one_of_key : (m : FinMap R X) (q : K) (x y : X) → Among (q, x) (finite.entries m) → Among (q, y) (finite.entries m) → x ≡ y
  one_of_key m q x y first second =
      let found = among-found q x (finite.entries m) (entries_sorted m) first in
      let same : Some x ≡ Some y = sym found ∙ among-found q y (finite.entries m) (entries_sorted m) second in
      cc same

  -- an entry is found by its key
  pub got : (m : FinMap R X) (q : K) (x : X) → Among (q, x) (finite.entries m) → finite.get m q ≡ Some x
  got m q x there = finite.get-entries m q ∙ among-found q x (finite.entries m) (entries_sorted m) there

-- the keys of a map that has nothing but keys
pub same-keys : {K : Type 0} {R : K → K → Ordering} → IsTotalOrder R → IsAntisymmetric R → (ks : List K)
    → HaveSame (map (λ (entry : K × Unit {0}). entry.0) (finite.entries (from_entries {R = R} (map (λ (k : K). (k, tt)) ks)))) ks
same-keys {K} {R = R} total apart ks q = (to, from) where
  to : Among q (map (λ (entry : K × Unit {0}). entry.0) (finite.entries (from_entries {R = R} (map (λ (k : K). (k, tt)) ks)))) → Among q ks
  to there =
      let listed = map-among (λ (entry : K × Unit {0}). entry.0) q (finite.entries (from_entries {R = R} (map (λ (k : K). (k, tt)) ks))) there in
      let found = sym (get-from_entries total (map (λ (k : K). (k, tt)) ks) listed.0.0) ∙ got total apart (from_entries {R = R} (map (λ (k : K). (k, tt)) ks)) listed.0.0 listed.0.1 listed.1 in
      let of = map-among (λ (k : K). (k, tt)) (listed.0.0, listed.0.1) ks (found-among total apart listed.0.0 listed.0.1 (map (λ (k : K). (k, tt)) ks) found) in
      subst (λ (k : K). Among k ks) (sym (listed.2 ∙ ap (λ (entry : K × Unit {0}). entry.0) of.2)) of.1

  from : Among q ks → Among q (map (λ (entry : K × Unit {0}). entry.0) (finite.entries (from_entries {R = R} (map (λ (k : K). (k, tt)) ks))))
  from there =
      let es = map (λ (k : K). (k, tt)) ks in
      let some = among-some total apart q tt es (among-map (λ (k : K). (k, tt)) q ks there) in
      let found = sym (finite.get-entries (from_entries {R = R} es) q) ∙ get-from_entries total es q ∙ some.1 in
      among-map (λ (entry : K × Unit {0}). entry.0) (q, some.0) (finite.entries (from_entries {R = R} es)) (found-among total apart q some.0 (finite.entries (from_entries {R = R} es)) found)
