-- The rows without a match among others, found by a walk along both lists by key.
use Rattle.std.proofs.Common.{◌≡◌, Bool, true, false, not, ◌||◌, cond, List, [], ◌∷◌, filter, refl, sym, ap, ◌∙◌}
use Rattle.std.proofs.Math.Bool.{or-false}
use Rattle.std.proofs.lemmas.Bool.{false_from_ne_true}
use Rattle.std.specs.Cmp.{alike_right, tied_itself}
use Rattle.std.specs.List.{AllByRecursion, list_any}
use Rattle.std.specs.Ordering.{is_eq, is_lt}
use Rattle.std.specs.declared.cmp.Ordering.{Ordering}
use Rattle.std.specs.declared.cmp.Ordering.TheVariants.{Less, Equal, Greater}
use Rattle.gate_rows.proofs.ByKey.{Rise, total, less_is, equal_is, by_key_rises, tied_is}
use Rattle.gate_rows.specs.Changed.{key_cmp, by_key, from_key, begin_so, unmatched}
use Rattle.gate_tables.proofs.Differing.{same_is}
use Rattle.gate_tables.specs.Differences.{AreApart, gone, differing, is_same}
use Rattle.gate_tables.specs.Forms.{Form}
use Rattle.gate_tables.specs.Keys.{key_of, has_key}
use Rattle.gate_tables.specs.Known.{IsKeyed}

less_unequal : (o : Ordering) → is_lt o ≡ true → is_eq o ≡ false
less_unequal Less is = refl
less_unequal Equal is = absurd cc
less_unequal Greater is = absurd cc

filter_same : {R : Type 0} (p q : R → Bool) (xs : List R) → AllByRecursion (λ x. p x ≡ q x) xs → filter p xs ≡ filter q xs
filter_same p q [] all = refl
filter_same p q (x ∷ xs) all = λ i. cond (all.0 i) (x ∷ filter_same p q xs all.1 i) (filter_same p q xs all.1 i)

-- Rows match only if their keys are tied.
module _ {R : Type 0} (form : Form R) (match : R → R → Bool) (tied : (r x : R) → match r x ≡ true → is_eq (key_cmp form x r) ≡ true) where
  -- no row that comes before matches, and none behind the first one that doesn't
  before_unlike : (r x : R) → is_lt (key_cmp form x r) ≡ true → match r x ≡ false
  before_unlike r x less = false_from_ne_true (match r x) (λ is. cc (tied r x is, less_unequal (key_cmp form x r) less))

  behind_unlike : (r x y : R) → is_lt (key_cmp form x r) ≡ false → is_lt (key_cmp form x y) ≡ true → match r y ≡ false
  behind_unlike r x y not_before less = false_from_ne_true (match r y) (λ is. cc (sym (ap is_lt (alike_right (total form) y r x (equal_is (key_cmp form y r) (tied r y is)))) ∙ less, not_before))

  any_from : (r : R) (test : R → Bool) → ((x : R) → is_lt (key_cmp form x r) ≡ true → test x ≡ false) → (xs : List R) → list_any test (from_key form r xs) ≡ list_any test xs
  any_from r test none [] = refl
  any_from r test none (x ∷ xs) = by (is_lt (key_cmp form x r)) refl (any_from r test none xs) where
    by : (b : Bool) → is_lt (key_cmp form x r) ≡ b → list_any test (from_key form r xs) ≡ list_any test xs → list_any test (cond b (from_key form r xs) (x ∷ xs)) ≡ (test x || list_any test xs)
    by true is rest = rest ∙ sym (ap (λ (c : Bool). c || list_any test xs) (none x is))
    by false is rest = refl

  first_decides : (r : R) (xs : List R) → Rise form xs → list_any (match r) (from_key form r xs) ≡ begin_so (match r) (from_key form r xs)
  first_decides r [] rise = refl
  first_decides r (x ∷ xs) rise = by (is_lt (key_cmp form x r)) refl (first_decides r xs rise.1) where
    none : is_lt (key_cmp form x r) ≡ false → (ys : List R) → AllByRecursion (λ y. is_lt (key_cmp form x y) ≡ true) ys → list_any (match r) ys ≡ false
    none is [] all = refl
    none is (y ∷ ys) all = ap (λ (c : Bool). c || list_any (match r) ys) (behind_unlike r x y is all.0) ∙ none is ys all.1

    by : (b : Bool) → is_lt (key_cmp form x r) ≡ b → list_any (match r) (from_key form r xs) ≡ begin_so (match r) (from_key form r xs)
        → list_any (match r) (cond b (from_key form r xs) (x ∷ xs)) ≡ begin_so (match r) (cond b (from_key form r xs) (x ∷ xs))
    by true is rest = rest
    by false is rest = ap (λ (c : Bool). match r x || c) (none is xs rise.0) ∙ or-false (match r x)

  from_rises : (r : R) (xs : List R) → Rise form xs → Rise form (from_key form r xs)
  from_rises r [] rise = tt
  from_rises r (x ∷ xs) rise = by (is_lt (key_cmp form x r)) (from_rises r xs rise.1) where
    by : (b : Bool) → Rise form (from_key form r xs) → Rise form (cond b (from_key form r xs) (x ∷ xs))
    by true rest = rest
    by false rest = rise

  -- what comes before a row comes before all that follow it
  still : (r : R) (xs : List R) (others : List R) → AllByRecursion (λ y. is_lt (key_cmp form r y) ≡ true) xs
      → AllByRecursion (λ y. not (list_any (match y) (from_key form r others)) ≡ not (list_any (match y) others)) xs
  still r [] others all = tt
  still r (y ∷ xs) others all =
      (ap not (any_from r (match y) (λ x less. before_unlike y x (ap is_lt ((total form).trans x r y (less_is (key_cmp form x r) less) (less_is (key_cmp form r y) all.0)))) others), still r xs others all.1)

  pub unmatched_are : (rows others : List R) → Rise form rows → Rise form others → unmatched form match rows others ≡ filter (λ r. not (list_any (match r) others)) rows
  unmatched_are [] others p q = refl
  unmatched_are (r ∷ rows) others p q =
      let after = from_key form r others in
      let own : begin_so (match r) after ≡ list_any (match r) others = sym (sym (any_from r (match r) (before_unlike r) others) ∙ first_decides r others q) in
      let rest = unmatched_are rows after p.1 (from_rises r others q) ∙ filter_same (λ y. not (list_any (match y) after)) (λ y. not (list_any (match y) others)) rows (still r rows others p.0) in
      ap (λ (b : Bool). cond b (unmatched form match rows after) (r ∷ unmatched form match rows after)) own ∙ by (list_any (match r) others) rest
    where
      by : (b : Bool) {found due : List R} → found ≡ due → cond b found (r ∷ found) ≡ cond (not b) (r ∷ due) due
      by true is = is
      by false is = ap (λ l. r ∷ l) is

-- the rows of a table that are gone, and those that differ
module _ {R : Type 0} (form : Form R) (known : IsKeyed form) (was now : List R) (apart : AreApart form was) (others : AreApart form now) where
  pub gone_are : unmatched form (λ r x. has_key form (key_of form r) x) (by_key form was) (by_key form now) ≡ gone form (by_key form was) (by_key form now)
  gone_are =
      unmatched_are form (λ r x. has_key form (key_of form r) x) (λ r x is. sym (tied_is form known r x) ∙ is) (by_key form was) (by_key form now) (by_key_rises form known was apart) (by_key_rises form known now others)

  pub differing_are : unmatched form (is_same form) (by_key form now) (by_key form was) ≡ differing form (by_key form was) (by_key form now)
  differing_are = unmatched_are form (is_same form) same_tied (by_key form now) (by_key form was) (by_key_rises form known now others) (by_key_rises form known was apart)
    where
      same_tied : (r x : R) → is_same form r x ≡ true → is_eq (key_cmp form x r) ≡ true
      same_tied r x is = ap (λ (other : R). is_eq (key_cmp form other r)) (sym (same_is form known r x is)) ∙ ap is_eq (tied_itself (total form) r)
