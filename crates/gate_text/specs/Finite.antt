-- Maps and sets of the code as finite maps and sets: what the clauses of `BTreeMap` and `BTreeSet` say in the words of
-- `FinMap` and `FinSet`. For proofs of this crate and of those above it. The specs above cite `words_of`.
use Rattle.std.specs.Prelude.{map as list_map, ◌≡◌, ℕ, ◌+◌, Bool, true, false, cond, not, ◌&&◌, ◌||◌, List, [], ◌∷◌, length, Option, Some, None}
use Rattle.std.proofs.Common.{refl, sym, ◌∙◌, ap, subst, add-one, Less}
use Rattle.std.specs.List.Sorted.{IsStrictlySortedBy}
use Rattle.std.specs.Ordering.{eq_by_cmp, is_eq, nat_cmp}
use Rattle.std.specs.declared.cmp.Ordering.{Ordering}
use Rattle.std.specs.BTreeMap as tree
use Rattle.std.specs.BTreeMap.{BTreeMap}
use Rattle.std.specs.Cmp.{IsEquivalence, IsTotalOrder, eq_by_cmp_equiv, first_so, second_so, both_ways}
use Rattle.std.proofs.Math.Bool.{and_comm, or-false}
use Rattle.std.specs.FinMap.{IsAntisymmetric, from_entries, get, insert, remove, find, get-from_entries, get-insert, get-remove, same_map}
use Rattle.std.specs.Cmp.Lexicographic.{slice_cmp, nat_list_cmp_total}
use Rattle.std.specs.FinMap as map
use Rattle.std.specs.FinSet as set
use Rattle.std.specs.FinSet.{slice_cmp-IsAntisymmetric, nat_cmp-IsAntisymmetric}
use Rattle.std.specs.BTreeSet as tree_set
use Rattle.std.specs.BTreeSet.{BTreeSet}
use Rattle.std.specs.List.{AllByRecursion, fold, list_any}
use Rattle.std.proofs.lemmas.Float.{T_from_true}
use Rattle.std.proofs.lemmas.Map.Text.{is_eq-slice_cmp}
use Rattle.std.specs.FinMap.Entries.{below_all}
use Rattle.std.specs.Map.{keys_of, lookup}
use Rattle.std.specs.Option.{option_map}
use Rattle.std.specs.Str.{bytes_eq}

-- the codes of finite maps and sets, by which a record that has them as fields is a model's value
pub ruleset finite_codes = (map.code, set.code)

module _ {K X : Type 0} (R : K → K → Ordering) where
  find-lookup : (q : K) (es : List (K × X)) → find R q es ≡ lookup (λ k. is_eq (R q k)) es
  find-lookup q [] = refl
  find-lookup q (e ∷ es) = ap (λ (rest : Option X). cond (eq_by_cmp R q e.0) (Some e.1) rest) (find-lookup q es)

module _ {K X : Type 0} {R : K → K → Ordering} (total : IsTotalOrder R) where
  -- a look-up in a map of the code is one in its finite map
  pub get-entries : (m : BTreeMap K X) (q : K) → get (from_entries {R = R} m.entries) q ≡ tree.get R m q
  get-entries m q = get-from_entries total m.entries q ∙ find-lookup R q m.entries

  -- a map that was updated at one key, entry by entry
  gets-updated : (old new : BTreeMap K X) (k : K) (w : Option X) → tree.Updates R old new k w
      → (q : K) → get (from_entries {R = R} new.entries) q ≡ cond (eq_by_cmp R q k) w (get (from_entries {R = R} old.entries) q)
  gets-updated old new k w updates q =
      get-entries new q ∙ updates.0 q
      ∙ ap (λ (b : Bool). cond b w (tree.get R old q)) ((eq_by_cmp_equiv total).symm k q)
      ∙ ap (λ (had : Option X). cond (eq_by_cmp R q k) w had) (sym (get-entries old q))

  pub inserted : IsAntisymmetric R → (old new : BTreeMap K X) (k : K) (v : X) → tree.Updates R old new k (Some v)
      → from_entries {R = R} new.entries ≡ insert (from_entries old.entries) k v
  inserted same old new k v updates = same_map total same _ _ (λ q. gets-updated old new k (Some v) updates q ∙ sym (get-insert total _ k v q))

  pub removed : IsAntisymmetric R → (old new : BTreeMap K X) (k : K) → tree.Updates R old new k None
      → from_entries {R = R} new.entries ≡ remove (from_entries old.entries) k
  removed same old new k updates = same_map total same _ _ (λ q. gets-updated old new k None updates q ∙ sym (get-remove total _ k q))

-- a finite map with each value changed
abbrev pub values_mapped : {K X Y : Type 0} → (X → Y) → List (K × X) → List (K × Y)
values_mapped f es = list_map (λ e. (e.0, f e.1)) es

abbrev pub mapped_values : {K X Y : Type 0} {R : K → K → Ordering} → (X → Y) → map.FinMap R X → map.FinMap R Y
mapped_values f m = from_entries (values_mapped f (map.entries m))

found_mapped : {X Y : Type 0} (f : X → Y) (b : Bool) (x : X) (rest : Option X) → cond b (Some (f x)) (option_map f rest) ≡ option_map f (cond b (Some x) rest)
found_mapped f true x rest = refl
found_mapped f false x rest = refl

module _ {K X Y : Type 0} (R : K → K → Ordering) (f : X → Y) where
  find-mapped : (q : K) (es : List (K × X)) → find R q (values_mapped f es) ≡ option_map f (find R q es)
  find-mapped q [] = refl
  find-mapped q (e ∷ es) = ap (λ (rest : Option Y). cond (eq_by_cmp R q e.0) (Some (f e.1)) rest) (find-mapped q es) ∙ found_mapped f (eq_by_cmp R q e.0) e.1 (find R q es)

  pub get-mapped : IsTotalOrder R → (m : map.FinMap R X) (q : K) → get (mapped_values f m) q ≡ option_map f (get m q)
  get-mapped total m q = get-from_entries total (values_mapped f (map.entries m)) q ∙ find-mapped q (map.entries m) ∙ ap (option_map f) (sym (map.get-entries m q))

  -- a map of the code whose values were changed
  pub mapped : IsTotalOrder R → IsAntisymmetric R → (es : List (K × X)) → from_entries {R = R} (values_mapped f es) ≡ mapped_values f (from_entries es)
  mapped total same es = same_map total same _ _ (λ q.
      get-from_entries total (values_mapped f es) q ∙ find-mapped q es ∙ ap (option_map f) (sym (get-from_entries total es q))
      ∙ sym (get-mapped total (from_entries es) q))

module _ {K X : Type 0} (R : K → K → Ordering) where
  below_each : (k : K) (es : List (K × X)) → AllByRecursion (λ other. R k other ≡ Less) (keys_of es) → below_all R k es ≡ true
  below_each k [] before = refl
  below_each k (e ∷ es) before = rw before.0 (below_each k es before.1)

  rises : (es : List (K × X)) → IsStrictlySortedBy R (keys_of es) → map.is_sorted R es ≡ true
  unfolding IsStrictlySortedBy
  rises [] sorted = refl
  rises (e ∷ es) sorted = rw (below_each e.0 es sorted.0) (rises es sorted.1)

  -- the entries of a map of the code are those of its finite map
  pub entries-from_entries : IsTotalOrder R → IsAntisymmetric R → (es : List (K × X)) → IsStrictlySortedBy R (keys_of es) → map.entries (from_entries {R = R} es) ≡ es
  entries-from_entries total same es sorted =
      let rise = T_from_true _ (rises es sorted) in
      ap map.entries (same_map total same (from_entries es) (map.from_sorted es) (λ q. get-from_entries total es q ∙ sym (map.get-from_sorted R es q rise)))
      ∙ map.entries-from_sorted R es rise

-- SETS
pub true_or : (b c : Bool) → cond b true c ≡ (b || c)
true_or true c = refl
true_or false c = refl

pub false_unless : (b c : Bool) → cond b false c ≡ (not b && c)
false_unless true c = refl
false_unless false c = refl

-- whether two sets have the same keys
abbrev pub is_same : {K : Type 0} {R : K → K → Ordering} → set.FinSet R → set.FinSet R → Bool
is_same s t = set.is_subset s t && set.is_subset t s

or_later : (a b c : Bool) → ((a || b) || c) ≡ (b || (a || c))
or_later true true c = refl
or_later true false c = refl
or_later false b c = refl

module _ {K : Type 0} {R : K → K → Ordering} (total : IsTotalOrder R) where
  -- a test in a set of the code is one in its finite set
  pub contains-keys : (s : BTreeSet K) (q : K) → set.contains (set.from_list {R = R} s.keys) q ≡ tree_set.contains R s q
  contains-keys s q = set.contains-from_list total s.keys q

  pub added : IsAntisymmetric R → (old new : BTreeSet K) (k : K) → tree_set.Updates R old new k true
      → set.from_list {R = R} new.keys ≡ set.insert (set.from_list old.keys) k
  added same old new k updates = set.same_set total same _ _ (λ q.
      contains-keys new q ∙ updates.0 q ∙ true_or (eq_by_cmp R k q) _
      ∙ ap (λ (b : Bool). b || tree_set.contains R old q) ((eq_by_cmp_equiv total).symm k q)
      ∙ ap (λ (b : Bool). eq_by_cmp R q k || b) (sym (contains-keys old q))
      ∙ sym (set.contains-insert total _ k q))

  pub taken : IsAntisymmetric R → (old new : BTreeSet K) (k : K) → tree_set.Updates R old new k false
      → set.from_list {R = R} new.keys ≡ set.remove (set.from_list old.keys) k
  taken same old new k updates = set.same_set total same _ _ (λ q.
      contains-keys new q ∙ updates.0 q ∙ false_unless (eq_by_cmp R k q) _
      ∙ ap (λ (b : Bool). not b && tree_set.contains R old q) ((eq_by_cmp_equiv total).symm k q)
      ∙ ap (λ (b : Bool). not (eq_by_cmp R q k) && b) (sym (contains-keys old q))
      ∙ sym (set.contains-remove total _ k q))

  none_before : (k : K) (ks : List K) → AllByRecursion (λ other. R k other ≡ Less) ks → list_any (eq_by_cmp R k) ks ≡ false
  none_before k [] before = refl
  none_before k (other ∷ ks) before = rw before.0 (none_before k ks before.1)

  -- how many keys a set of the code has
  len-sorted : (ks : List K) → IsStrictlySortedBy R ks → set.len (set.from_list {R = R} ks) ≡ length ks
  unfolding IsStrictlySortedBy
  len-sorted [] sorted = set.len-empty R
  len-sorted (k ∷ ks) sorted =
      set.len-insert total (set.from_list ks) k
      ∙ ap (λ (b : Bool). cond b (set.len (set.from_list {R = R} ks)) (set.len (set.from_list {R = R} ks) + 1)) (set.contains-from_list total ks k ∙ none_before k ks sorted.0)
      ∙ ap (λ (n : ℕ). n + 1) (len-sorted ks sorted.1) ∙ add-one (length ks)

  pub len-keys : (s : BTreeSet K) → tree_set.IsOrdered R s → set.len (set.from_list {R = R} s.keys) ≡ tree_set.btree_set_len s
  len-keys s ordered = len-sorted s.keys ordered

  pub contains-each : (s : set.FinSet R) (ks : List K) (q : K) → set.contains (fold set.insert s ks) q ≡ (set.contains s q || list_any (eq_by_cmp R q) ks)
  contains-each s [] q = sym (or-false _)
  contains-each s (k ∷ ks) q =
      contains-each (set.insert s k) ks q
      ∙ ap (λ (b : Bool). b || list_any (eq_by_cmp R q) ks) (set.contains-insert total s k q)
      ∙ or_later (eq_by_cmp R q k) (set.contains s q) _

  -- keys that are added one after the other
  pub added-each : IsAntisymmetric R → (ks : List K) → fold set.insert (set.empty {R = R}) ks ≡ set.from_list ks
  added-each same ks = set.same_set total same _ _ (λ q.
      contains-each set.empty ks q
      ∙ ap (λ (b : Bool). b || list_any (eq_by_cmp R q) ks) (set.contains-empty R q)
      ∙ sym (set.contains-from_list total ks q))

  subsets_same : IsAntisymmetric R → (s t : set.FinSet R) → is_same s t ≡ true → s ≡ t
  subsets_same same s t both = set.same_set total same s t (λ q. both_ways _ _
      (λ there. set.is_subset-contains total s t (first_so (set.is_subset s t) (set.is_subset t s) both) q there)
      (λ back. set.is_subset-contains total t s (second_so (set.is_subset s t) (set.is_subset t s) both) q back))

  same_itself : (s : set.FinSet R) → is_same s s ≡ true
  same_itself s = rw (set.contains-is_subset total s s (λ q there. there)) refl

  pub is_same-equiv : IsAntisymmetric R → IsEquivalence (is_same {R = R})
  is_same-equiv same = record {
    refl = same_itself;
    symm = λ s t. and_comm (set.is_subset s t) (set.is_subset t s);
    congr = λ s t u is. ap (λ (v : set.FinSet R). is_same v u) (subsets_same same s t is);
  }

  -- `is_subset` in sets of the code and in their finite sets
  pub subset-keys : (s t : BTreeSet K) (b : Bool) → (b ≡ true → tree_set.IsSubset R s t) → (tree_set.IsSubset R s t → b ≡ true)
      → b ≡ set.is_subset (set.from_list {R = R} s.keys) (set.from_list t.keys)
  subset-keys s t b there back = both_ways _ _
      (λ yes. set.contains-is_subset total _ _ (λ q in_s. contains-keys t q ∙ there yes q (sym (contains-keys s q) ∙ in_s)))
      (λ yes. back (λ q in_s. sym (contains-keys t q) ∙ set.is_subset-contains total _ _ yes q (contains-keys s q ∙ in_s)))

pub is_same_words-equiv : IsEquivalence (is_same {R = slice_cmp nat_cmp})
is_same_words-equiv = is_same-equiv nat_list_cmp_total (slice_cmp-IsAntisymmetric nat_cmp-IsAntisymmetric)

-- a text is in a list by its order exactly if it is by its bytes
pub known_by_order : (name : List ℕ) (names : List (List ℕ)) → list_any (eq_by_cmp (slice_cmp nat_cmp) name) names ≡ list_any (bytes_eq name) names
known_by_order name [] = refl
known_by_order name (other ∷ names) = λ i. is_eq-slice_cmp name other i || known_by_order name names i

-- a set is a map to nothing
abbrev pub marked : {K : Type 0} → List K → List (K × Unit {0})
marked keys = list_map (λ key. (key, tt)) keys

-- THE WORDS OF A SET, in the order of their bytes: the keys of the map that has them
abbrev pub words_of : set.FinSet (slice_cmp nat_cmp) → List (List ℕ)
words_of words = map.keys {R = slice_cmp nat_cmp} (from_entries (marked (set.items words)))

keys_marked : {K : Type 0} (ks : List K) → keys_of (marked ks) ≡ ks
keys_marked [] = refl
keys_marked (k ∷ ks) = ap (λ others. k ∷ others) (keys_marked ks)

abbrev found_if : Bool → Option (Unit {0})
found_if b = cond b (Some tt) None

or_found : (b c : Bool) → cond b (Some tt) (found_if c) ≡ found_if (b || c)
or_found true c = refl
or_found false c = refl

module _ {K : Type 0} {R : K → K → Ordering} (total : IsTotalOrder R) (same : IsAntisymmetric R) where
  find-marked : (q : K) (ks : List K) → find R q (marked ks) ≡ found_if (list_any (eq_by_cmp R q) ks)
  find-marked q [] = refl
  find-marked q (k ∷ ks) = ap (λ (rest : Option (Unit {0})). cond (eq_by_cmp R q k) (Some tt) rest) (find-marked q ks) ∙ or_found (eq_by_cmp R q k) _

  -- the keys of a set of the code are those of the map that has the keys of its finite set
  keys_are : (ks : List K) (s : set.FinSet R) → IsStrictlySortedBy R ks → set.from_list ks ≡ s → ks ≡ map.keys {R = R} (from_entries (marked (set.items s)))
  keys_are ks s sorted is =
      let rising = subst (λ those. IsStrictlySortedBy R those) (sym (keys_marked ks)) sorted in
      let had : (q : K) → list_any (eq_by_cmp R q) ks ≡ list_any (eq_by_cmp R q) (set.items s) =
      λ q. sym (set.contains-from_list total ks q) ∙ ap (λ (t : set.FinSet R). set.contains t q) is ∙ set.contains-items s q in
      let one : from_entries {R = R} (marked ks) ≡ from_entries (marked (set.items s)) =
      same_map total same _ _ (λ q.
      get-from_entries total (marked ks) q ∙ find-marked q ks ∙ ap found_if (had q)
      ∙ sym (get-from_entries total (marked (set.items s)) q ∙ find-marked q (set.items s))) in
      sym (keys_marked ks) ∙ ap keys_of (sym (entries-from_entries R total same (marked ks) rising) ∙ ap map.entries one)

pub words_are : (ks : List (List ℕ)) (s : set.FinSet (slice_cmp nat_cmp)) → IsStrictlySortedBy (slice_cmp nat_cmp) ks → set.from_list ks ≡ s → ks ≡ words_of s
words_are = keys_are nat_list_cmp_total (slice_cmp-IsAntisymmetric nat_cmp-IsAntisymmetric)
