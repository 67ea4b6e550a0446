-- The index of changes by their heads, after the numbers of one head were changed.
use Rattle.std.proofs.Common.{◌≡◌, ◌≢◌, ℕ, ◌==◌, Bool, true, false, cond, not, ◌&&◌, ◌||◌, List, [], ◌∷◌, length, Option, Some, None, IfSome, refl, sym, ◌∙◌, ap}
use Rattle.std.proofs.lemmas.Slice.Eq.{bytes_eq-Decides}
use Rattle.std.proofs.lemmas.Map.Text.{is_eq-slice_cmp}
use Rattle.std.specs.BTreeMap as tree
use Rattle.std.specs.BTreeMap.{BTreeMap}
use Rattle.std.specs.BTreeSet as tree_set
use Rattle.std.specs.BTreeSet.{BTreeSet}
use Rattle.std.specs.Cmp.{eq_by_cmp_equiv, nat_cmp_total, unsigned_ties}
use Rattle.std.specs.Cmp.Lexicographic.{slice_cmp, nat_list_cmp_total}
use Rattle.std.specs.Ordering.{eq_by_cmp, nat_cmp}
use Rattle.std.specs.Str.{bytes_eq}
use Rattle.std.specs.FinMap as map
use Rattle.std.specs.FinMap.{FinMap, get-insert, get-from_entries}
use Rattle.std.specs.Option.{option_and_then, option_map, option_map_or}
use Rattle.std.specs.Bool.{Decides}
use Rattle.std.specs.List.{list_all, list_any}
use Rattle.gate_text.specs.Values.{Decides-values}
use Rattle.gate_rules.specs.View.{DeskView, AreOpenAt, is_open_at, is_open_head}
use Rattle.std.proofs.lemmas.Bool.Decides.{Decides-eqb}
use Rattle.gate_text.specs.Finite.{mapped_values, get-mapped, true_or, false_unless}
use Rattle.gate_rules.specs.Heads.{among, has, is_head, is_place, open_head, open_head_at, IsIndexOf}
use Rattle.gate_rules.specs.Rules.{is_open_phase}
use Rattle.gate_rules.specs.declared.change.Change.{Change}
use Rattle.gate_rules.specs.declared.heads.Heads.{Heads}

abbrev Index : Type 0
Index = BTreeMap (List ℕ) (BTreeSet ℕ)

abbrev under : Index → List ℕ → Option (BTreeSet ℕ)
under index head = tree.get (slice_cmp nat_cmp) index head

-- A SET OF NUMBERS with one more, or one less
module _ (old new : BTreeSet ℕ) (number : ℕ) (n : ℕ) where
  same_way : eq_by_cmp nat_cmp number n ≡ (n == number)
  same_way = (eq_by_cmp_equiv nat_cmp_total).symm number n ∙ sym (unsigned_ties n number)

  pub one_more : tree_set.Updates nat_cmp old new number true → tree_set.contains nat_cmp new n ≡ ((n == number) || tree_set.contains nat_cmp old n)
  one_more updates = updates.0 n ∙ ap (λ (b : Bool). cond b true (tree_set.contains nat_cmp old n)) same_way ∙ true_or (n == number) (tree_set.contains nat_cmp old n)

  pub one_less : tree_set.Updates nat_cmp old new number false → tree_set.contains nat_cmp new n ≡ (not (n == number) && tree_set.contains nat_cmp old n)
  one_less updates = updates.0 n ∙ ap (λ (b : Bool). cond b false (tree_set.contains nat_cmp old n)) same_way ∙ false_unless (n == number) (tree_set.contains nat_cmp old n)

pub same_keys : (old new : BTreeSet ℕ) → new.keys ≡ old.keys → (n : ℕ) → tree_set.contains nat_cmp new n ≡ tree_set.contains nat_cmp old n
same_keys old new same n = ap (λ (keys : List ℕ). tree_set.contains nat_cmp (record { keys = keys }) n) same

pub empty_has : (numbers : BTreeSet ℕ) → tree_set.btree_set_len numbers ≡ 0 → (n : ℕ) → tree_set.contains nat_cmp numbers n ≡ false
empty_has numbers none n = by numbers.keys none where
  by : (keys : List ℕ) → length keys ≡ 0 → tree_set.contains nat_cmp (record { keys = keys }) n ≡ false
  by [] none = refl
  by (k ∷ keys) none = cc none

-- THE INDEX, if the numbers of one head are others now
module _ (old new : Index) (head : List ℕ) (now : Option (BTreeSet ℕ)) (updates : tree.Updates (slice_cmp nat_cmp) old new head now) where
  at_head : (other : List ℕ) (n : ℕ) → among n (under new other) ≡ cond (bytes_eq other head) (among n now) (among n (under old other))
  at_head other n =
      ap (among n) (updates.0 other)
      ∙ ap (λ (b : Bool). among n (cond b now (under old other))) ((eq_by_cmp_equiv nat_list_cmp_total).symm head other ∙ is_eq-slice_cmp other head)
      ∙ by (bytes_eq other head) where
        by : (b : Bool) → among n (cond b now (under old other)) ≡ cond b (among n now) (among n (under old other))
        by true = refl
        by false = refl

  pub changed_under : (to : ℕ → Bool → Bool) → ((n : ℕ) → among n now ≡ to n (among n (under old head)))
      → (other : List ℕ) (n : ℕ) → among n (under new other) ≡ cond (bytes_eq other head) (to n (among n (under old other))) (among n (under old other))
  changed_under to is other n = at_head other n ∙ by (bytes_eq other head) refl where
    by : (b : Bool) → bytes_eq other head ≡ b → cond b (among n now) (among n (under old other)) ≡ cond b (to n (among n (under old other))) (among n (under old other))
    by true same = is n ∙ ap (λ (h : List ℕ). to n (among n (under old h))) (sym ((bytes_eq-Decides other head).0 same))
    by false same = refl

  pub added_under : (number : ℕ) → ((n : ℕ) → among n now ≡ ((n == number) || among n (under old head)))
      → (other : List ℕ) (n : ℕ) → among n (under new other) ≡ (is_place head number other n || among n (under old other))
  added_under number is other n = changed_under (λ m b. (m == number) || b) is other n ∙ by (bytes_eq other head) where
    by : (b : Bool) → cond b ((n == number) || among n (under old other)) (among n (under old other)) ≡ ((b && (n == number)) || among n (under old other))
    by true = refl
    by false = refl

  pub removed_under : (number : ℕ) → ((n : ℕ) → among n now ≡ (not (n == number) && among n (under old head)))
      → (other : List ℕ) (n : ℕ) → among n (under new other) ≡ (not (is_place head number other n) && among n (under old other))
  removed_under number is other n = changed_under (λ m b. not (m == number) && b) is other n ∙ by (bytes_eq other head) where
    by : (b : Bool) → cond b (not (n == number) && among n (under old other)) (among n (under old other)) ≡ (not (b && (n == number)) && among n (under old other))
    by true = refl
    by false = refl

  pub same_under : ((n : ℕ) → among n now ≡ among n (under old head)) → (other : List ℕ) (n : ℕ) → among n (under new other) ≡ among n (under old other)
  same_under is other n = changed_under (λ m b. b) is other n ∙ by (bytes_eq other head) where
    by : (b : Bool) → cond b (among n (under old other)) (among n (under old other)) ≡ among n (under old other)
    by true = refl
    by false = refl

  pub here : (n : ℕ) → among n (under new head) ≡ among n now
  here n = at_head head n ∙ ap (λ (b : Bool). cond b (among n now) (among n (under old head))) ((bytes_eq-Decides head head).1 refl)

-- THE INDEX OF A DESK, whose changes are others now
both_or : (a b : Bool) → b ≡ a → ((a && true) || b) ≡ a
both_or true b same = refl
both_or false b same = same

neither : (a b : Bool) → ((a && false) || b) ≡ b
neither true b = refl
neither false b = refl

moved_on : (was a b : Bool) → b ≡ was → (was ≡ true → a ≡ true → ⊥) → (not (was && true) && ((a && true) || b)) ≡ a
moved_on true true b same apart = absurd (apart refl refl)
moved_on true false b same apart = refl
moved_on false true b same apart = refl
moved_on false false b same apart = same

left_alone : (was a b : Bool) → (not (was && false) && ((a && false) || b)) ≡ b
left_alone true true b = refl
left_alone true false b = refl
left_alone false true b = refl
left_alone false false b = refl

gone : (was b : Bool) → b ≡ was → (not (was && true) && b) ≡ false
gone true b same = refl
gone false b same = same

stays : (was b : Bool) → (not (was && false) && b) ≡ b
stays true b = refl
stays false b = refl

one_head : (was now : Option (List ℕ)) (h : List ℕ) → is_head was h ≡ true → is_head now h ≡ true → was ≡ now
one_head None now h was_so now_so = cc was_so
one_head (Some was) None h was_so now_so = cc now_so
one_head (Some was) (Some now) h was_so now_so = ap Some (sym ((bytes_eq-Decides h was).0 was_so) ∙ (bytes_eq-Decides h now).0 now_so)

module _ (changes : FinMap nat_cmp Change) (number : ℕ) (change : Change) where
  now : (n : ℕ) → open_head_at (map.insert changes number change) n ≡ cond (n == number) (open_head change) (open_head_at changes n)
  now n =
      ap (option_and_then open_head) (get-insert nat_cmp_total changes number change n ∙ ap (λ (b : Bool). cond b (Some change) (map.get changes n)) (sym (unsigned_ties n number)))
      ∙ by (n == number) where
        by : (b : Bool) → option_and_then open_head (cond b (Some change) (map.get changes n)) ≡ cond b (open_head change) (open_head_at changes n)
        by true = refl
        by false = refl

  -- a change that stands where it stood
  pub index_kept : (old new : Heads) → IsIndexOf changes old → ((h : List ℕ) (n : ℕ) → has new h n ≡ ((is_head (open_head change) h && (n == number)) || has old h n))
      → open_head_at changes number ≡ open_head change → IsIndexOf (map.insert changes number change) new
  index_kept old new is added same h n =
      added h n ∙ ap (λ (b : Bool). (is_head (open_head change) h && (n == number)) || b) (is h n) ∙ by (n == number) refl ∙ ap (λ (o : Option (List ℕ)). is_head o h) (sym (now n)) where
        by : (b : Bool) → (n == number) ≡ b
            → ((is_head (open_head change) h && b) || is_head (open_head_at changes n) h) ≡ is_head (cond b (open_head change) (open_head_at changes n)) h
        by true at = both_or _ _ (ap (λ m. is_head (open_head_at changes m) h) ((Decides-eqb n number).0 at) ∙ ap (λ (o : Option (List ℕ)). is_head o h) same)
        by false at = neither _ _

  -- one that was altered where it stands
  pub index_same : (heads : Heads) → IsIndexOf changes heads → open_head_at changes number ≡ open_head change → IsIndexOf (map.insert changes number change) heads
  index_same heads is same h n = is h n ∙ ap (λ (o : Option (List ℕ)). is_head o h) (by (n == number) refl ∙ sym (now n)) where
    by : (b : Bool) → (n == number) ≡ b → open_head_at changes n ≡ cond b (open_head change) (open_head_at changes n)
    by true at = ap (open_head_at changes) ((Decides-eqb n number).0 at) ∙ same
    by false at = refl

  -- one that isn't open any longer
  pub index_left : (old new : Heads) → IsIndexOf changes old → ((h : List ℕ) (n : ℕ) → has new h n ≡ (not (is_head (open_head_at changes number) h && (n == number)) && has old h n))
      → open_head change ≡ None → IsIndexOf (map.insert changes number change) new
  index_left old new is left shut h n =
      left h n ∙ ap (λ (b : Bool). not (is_head (open_head_at changes number) h && (n == number)) && b) (is h n) ∙ by (n == number) refl ∙ ap (λ (o : Option (List ℕ)). is_head o h) (sym (now n)) where
        by : (b : Bool) → (n == number) ≡ b
            → (not (is_head (open_head_at changes number) h && b) && is_head (open_head_at changes n) h) ≡ is_head (cond b (open_head change) (open_head_at changes n)) h
        by true at = gone (is_head (open_head_at changes number) h) _ (ap (λ m. is_head (open_head_at changes m) h) ((Decides-eqb n number).0 at)) ∙ ap (λ (o : Option (List ℕ)). is_head o h) (sym shut)
        by false at = stays (is_head (open_head_at changes number) h) _

  -- and one that has moved
  pub index_moved : (old between new : Heads) → IsIndexOf changes old → ((h : List ℕ) (n : ℕ) → has between h n ≡ ((is_head (open_head change) h && (n == number)) || has old h n))
      → ((h : List ℕ) (n : ℕ) → has new h n ≡ (not (is_head (open_head_at changes number) h && (n == number)) && has between h n))
      → open_head_at changes number ≢ open_head change → IsIndexOf (map.insert changes number change) new
  index_moved old between new is added left other h n =
      left h n ∙ ap (λ (b : Bool). not (was && (n == number)) && b) (added h n ∙ ap (λ (b : Bool). (is_head (open_head change) h && (n == number)) || b) (is h n))
      ∙ by (n == number) refl ∙ ap (λ (o : Option (List ℕ)). is_head o h) (sym (now n)) where
        was : Bool
        was = is_head (open_head_at changes number) h

        by : (b : Bool) → (n == number) ≡ b
            → (not (was && b) && ((is_head (open_head change) h && b) || is_head (open_head_at changes n) h)) ≡ is_head (cond b (open_head change) (open_head_at changes n)) h
        by true at = moved_on was _ _ (ap (λ m. is_head (open_head_at changes m) h) ((Decides-eqb n number).0 at)) (λ was_so now_so. other (one_head (open_head_at changes number) (open_head change) h was_so now_so))
        by false at = left_alone was _ _

-- an alteration that keeps the head of a change, and one that shuts it
pub same_head : (altered change : Change) → altered.head ≡ change.head → is_open_phase altered.phase ≡ is_open_phase change.phase → open_head altered ≡ open_head change
same_head altered change head opened = λ i. cond (opened i) (Some (head i)) None

pub no_head : (altered : Change) → is_open_phase altered.phase ≡ false → open_head altered ≡ None
no_head altered shut = ap (λ (b : Bool). cond b (Some altered.head) None) shut

-- changes that are altered where they stand
pub index_mapped : (changes : FinMap nat_cmp Change) (heads : Heads) (alter : Change → Change) → ((change : Change) → open_head (alter change) ≡ open_head change)
    → IsIndexOf changes heads → IsIndexOf (mapped_values alter changes) heads
index_mapped changes heads alter same is h n =
    is h n ∙ ap (λ (o : Option (List ℕ)). is_head o h) (by (map.get changes n) ∙ ap (option_and_then open_head) (sym (get-mapped nat_cmp alter nat_cmp_total changes n))) where
      by : (change : Option Change) → option_and_then open_head change ≡ option_and_then open_head (option_map alter change)
      by None = refl
      by (Some change) = sym (same change)

pub index_empty : (heads : Heads) → ((h : List ℕ) (n : ℕ) → has heads h n ≡ false) → IsIndexOf map.empty heads
index_empty heads none h n = none h n ∙ ap (λ (c : Option Change). is_head (option_and_then open_head c) h) (sym (get-from_entries nat_cmp_total [] n))

-- WHAT THE INDEX TELLS of an open change at a head
at_place : (head : List ℕ) (change : Option Change) → is_head (option_and_then open_head change) head ≡ option_map_or (is_open_at head) change false
at_place head None = refl
at_place head (Some change) = by (is_open_phase change.phase) where
  by : (b : Bool) → is_head (cond b (Some change.head) None) head ≡ (b && bytes_eq head change.head)
  by true = refl
  by false = refl

pub told_by : (desk : DeskView) (heads : Heads) (head : List ℕ) → IsIndexOf desk.changes heads → (n : ℕ)
    → among n (under heads.numbers head) ≡ option_map_or (is_open_at head) (map.get desk.changes n) false
told_by desk heads head is n = is head n ∙ at_place head (map.get desk.changes n)

any_listed : (n : ℕ) (keys : List ℕ) → list_any (λ other. n == other) keys ≡ tree_set.contains nat_cmp (record { keys = keys }) n
any_listed n [] = refl
any_listed n (k ∷ keys) = λ i. unsigned_ties n k i || any_listed n keys i

pub all_listed : (desk : DeskView) (heads : Heads) (head : List ℕ) (numbers : BTreeSet ℕ) → IsIndexOf desk.changes heads → under heads.numbers head ≡ Some numbers → AreOpenAt head desk numbers.keys
all_listed desk heads head numbers is found n = any_listed n numbers.keys ∙ ap (among n) (sym found) ∙ told_by desk heads head is n

pub none_listed : (desk : DeskView) (heads : Heads) (head : List ℕ) → IsIndexOf desk.changes heads → under heads.numbers head ≡ None → AreOpenAt head desk []
none_listed desk heads head is none n = ap (among n) (sym none) ∙ told_by desk heads head is n

any_unless : {X : Type 0} (p : X → Bool) (xs : List X) → list_any p xs ≡ not (list_all (λ x. not (p x)) xs)
any_unless p [] = refl
any_unless p (x ∷ xs) = by (p x) (any_unless p xs) where
  by : (b : Bool) → list_any p xs ≡ not (list_all (λ y. not (p y)) xs) → (b || list_any p xs) ≡ not (not b && list_all (λ y. not (p y)) xs)
  by true rest = refl
  by false rest = rest

module _ (desk : DeskView) (head : List ℕ) where
  abbrev nowhere : Bool
  nowhere = list_all (λ (entry : ℕ × Change). not (is_open_at head entry.1)) (map.entries desk.changes)

  decides : (change : Change) → Decides (not (is_open_at head change)) (not (is_open_at head change) ≡ true)
  decides change = ((λ is. is), (λ is. is))

  pub none_open : ((n : ℕ) → option_map_or (is_open_at head) (map.get desk.changes n) false ≡ false) → is_open_head head desk ≡ false
  none_open none =
      any_unless (λ (entry : ℕ × Change). is_open_at head entry.1) (map.entries desk.changes)
      ∙ ap not ((Decides-values (λ change. not (is_open_at head change)) (λ change. not (is_open_at head change) ≡ true) decides desk.changes).1 (λ n. by (map.get desk.changes n) (none n))) where
        by : (change : Option Change) → option_map_or (is_open_at head) change false ≡ false → IfSome change (λ c. not (is_open_at head c) ≡ true)
        by None is = tt
        by (Some change) is = ap not is

  pub one_open : (n : ℕ) → option_map_or (is_open_at head) (map.get desk.changes n) false ≡ true → is_open_head head desk ≡ true
  one_open n one = any_unless (λ (entry : ℕ × Change). is_open_at head entry.1) (map.entries desk.changes) ∙ ap not (by nowhere refl) where
    not_both : (change : Option Change) → option_map_or (is_open_at head) change false ≡ true → IfSome change (λ c. not (is_open_at head c) ≡ true) → ⊥
    not_both None is other = cc is
    not_both (Some change) is other = cc (sym other ∙ ap not is)

    by : (b : Bool) → nowhere ≡ b → b ≡ false
    by true is = absurd (not_both (map.get desk.changes n) one ((Decides-values (λ change. not (is_open_at head change)) (λ change. not (is_open_at head change) ≡ true) decides desk.changes).0 is n))
    by false is = refl

some_number : (numbers : BTreeSet ℕ) → (tree_set.btree_set_len numbers ≡ 0 → ⊥) → (n : ℕ) × (tree_set.contains nat_cmp numbers n ≡ true)
some_number numbers some = by numbers.keys some where
  by : (keys : List ℕ) → (length keys ≡ 0 → ⊥) → (n : ℕ) × (tree_set.contains nat_cmp (record { keys = keys }) n ≡ true)
  by [] some = absurd (some refl)
  by (k ∷ keys) some = (k, ap (λ (b : Bool). b || tree_set.contains nat_cmp (record { keys = keys }) k) (sym (unsigned_ties k k) ∙ (Decides-eqb k k).1 refl))

pub told_empty : (desk : DeskView) (heads : Heads) (head : List ℕ) (numbers : BTreeSet ℕ) → IsIndexOf desk.changes heads → under heads.numbers head ≡ Some numbers
    → (empty : Bool) → (empty ≡ true → tree_set.btree_set_len numbers ≡ 0) → (tree_set.btree_set_len numbers ≡ 0 → empty ≡ true) → not empty ≡ is_open_head head desk
told_empty desk heads head numbers is found true none back = sym (none_open desk head (λ n. sym (told_by desk heads head is n) ∙ ap (among n) found ∙ empty_has numbers (none refl) n))
told_empty desk heads head numbers is found false none back =
    let one = some_number numbers (λ so. cc (back so)) in
    sym (one_open desk head one.0 (sym (told_by desk heads head is one.0) ∙ ap (among one.0) found ∙ one.1))
