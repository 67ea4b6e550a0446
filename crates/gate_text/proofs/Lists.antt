-- A list that is read item by item, as a loop over the items goes.
use Rattle.std.proofs.Common.{◌≡◌, ℕ, ◌+◌, ◌<◌, true, false, ◌||◌, List, [], ◌∷◌, ◌++◌, map, length, drop, get_or, Option, Some, None, refl, sym, ◌∙◌, ap, add-one, arith}
use Rattle.std.proofs.Math.Seq.{drop-cons}
use Rattle.std.proofs.lemmas.Iterator.{YieldsList}
use Rattle.std.proofs.lemmas.Iterator.Consumers.{YieldsList-turn, YieldsList-end}
use Rattle.std.proofs.lemmas.List.{drop_all}
use Rattle.std.specs.Iterator.{Yields}
use Rattle.std.specs.Cmp.Lexicographic.{slice_cmp, nat_list_cmp_total, nat_list_eq_equiv}
use Rattle.std.specs.FinSet as set
use Rattle.std.specs.FinSet.{slice_cmp-IsAntisymmetric, nat_cmp-IsAntisymmetric}
use Rattle.std.specs.List.{list_any}
use Rattle.std.specs.Ordering.{nat_cmp}
use Rattle.std.specs.Str.{bytes_eq}
use Rattle.std.specs.Option.{option_map}
use Rattle.gate_text.specs.Arguments.{all_of, with_name}
use Rattle.gate_text.specs.Finite.{known_by_order}

-- `YieldsList-turn` and `YieldsList-end` with the list last, when its iterator is known
module _ {S A B : Type 0} {steps : S → Option A → S → Type 0} {v : A → B} {s : S} {all : List B} (xs : List A) (t : S) (yielded : Yields steps s xs t) (r : Option A) (u : S) where
  pub turn_of : (x : A) → r ≡ Some x → steps t r u → YieldsList steps v s all → (length xs < length all) × (v x ≡ get_or all (length xs) (v x))
  turn_of x is step items = YieldsList-turn items xs t yielded r u x is step

  pub end_of : r ≡ None → steps t r u → YieldsList steps v s all → length xs ≡ length all
  end_of is step items = (YieldsList-end items xs t yielded r u is step).1

-- what is left to read, behind what was read; nothing where one of the items can't be read
abbrev pub rest_read : {V X F Y : Type 0} → (V → Option X) → (F → List X → Y) → F → List V → Option Y
rest_read read joined front rest = option_map (joined front) (all_of (map read rest))

moved : {X F Y : Type 0} (joined : F → List X → Y) (front next : F) (x : X) (rest : Option (List X))
    → ((xs : List X) → joined next xs ≡ joined front (x ∷ xs))
    → option_map (joined next) rest ≡ option_map (joined front) (option_map (λ others. x ∷ others) rest)
moved joined front next x None law = refl
moved joined front next x (Some others) law = ap Some (law others)

module _ {V X F Y : Type 0} (read : V → Option X) (joined : F → List X → Y) (front : F) (items : List V) (n : ℕ) (item : V) where
  next_item : n < length items → item ≡ get_or items n item → drop n items ≡ item ∷ drop (n + 1) items
  next_item within is = drop-cons items n item within ∙ rw (← is, add-one) refl

  -- one more item that can be read
  pub item_read : (next : F) (x : X) → ((xs : List X) → joined next xs ≡ joined front (x ∷ xs)) → n < length items → item ≡ get_or items n item → Some x ≡ read item
      → rest_read read joined next (drop (n + 1) items) ≡ rest_read read joined front (drop n items)
  item_read next x law within is found = rw (next_item within is, ← found) (moved joined front next x (all_of (map read (drop (n + 1) items))) law)

  -- one that can't
  pub item_refused : n < length items → item ≡ get_or items n item → None ≡ read item → None ≡ rest_read read joined front (drop n items)
  item_refused within is found = rw (next_item within is, ← found) refl

-- the end: nothing is left
pub items_end : {V X F Y : Type 0} (read : V → Option X) (joined : F → List X → Y) (front : F) (items : List V) (n : ℕ)
    → n ≡ length items → Some (joined front []) ≡ rest_read read joined front (drop n items)
items_end read joined front items n is = rw (drop_all n items (omega arith)) refl

-- NAMES THAT ARE KNOWN
pub same_either_way : (name : List ℕ) (names : List (List ℕ)) → list_any (bytes_eq name) names ≡ list_any (λ other. bytes_eq other name) names
same_either_way name [] = refl
same_either_way name (other ∷ names) = λ i. nat_list_eq_equiv.symm name other i || same_either_way name names i

-- whether the set of the names has one is whether the list has it
pub known-is : (names : List (List ℕ)) (name : List ℕ) → set.contains (set.from_list {R = slice_cmp nat_cmp} names) name ≡ list_any (λ other. bytes_eq other name) names
known-is names name = set.contains-from_list nat_list_cmp_total names name ∙ known_by_order name names ∙ same_either_way name names

pub with_new : (names : List (List ℕ)) (name : List ℕ) (known : set.FinSet (slice_cmp nat_cmp)) → known ≡ set.from_list names → set.contains known name ≡ false
    → names ++ name ∷ [] ≡ with_name names name
with_new names name known is new = let there : list_any (λ other. bytes_eq other name) names ≡ false = sym (known-is names name) ∙ ap (λ s. set.contains s name) (sym is) ∙ new in rw there refl

pub with_known : (names : List (List ℕ)) (name : List ℕ) (known : set.FinSet (slice_cmp nat_cmp)) → known ≡ set.from_list names → set.contains known name ≡ true
    → names ≡ with_name names name
with_known names name known is old = let there : list_any (λ other. bytes_eq other name) names ≡ true = sym (known-is names name) ∙ ap (λ s. set.contains s name) (sym is) ∙ old in rw there refl

pub set_with_new : (names : List (List ℕ)) (name : List ℕ) (known : set.FinSet (slice_cmp nat_cmp)) → known ≡ set.from_list names
    → set.insert known name ≡ set.from_list (names ++ name ∷ [])
set_with_new names name known is =
    ap (λ s. set.insert s name) is ∙ sym (set.from_list_push nat_list_cmp_total (slice_cmp-IsAntisymmetric nat_cmp-IsAntisymmetric) names name)
