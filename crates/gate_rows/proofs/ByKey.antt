-- Rows by key upwards: there is one such list of rows that have different keys, and a sort finds it.
use Rattle.std.proofs.Common.{◌≡◌, ◌≢◌, ◌≤◌, ◌<◌, ◌+◌, ℕ, zero, suc, Bool, true, false, ◌&&◌, cond, List, [], ◌∷◌, length, take, get_or, IsPermutation, inl, inr, refl, sym, ap, subst, ◌∙◌, arith}
use Rattle.std.proofs.lemmas.Bool.{false_from_ne_true}
use Rattle.std.proofs.lemmas.List.Sums.{sum_by-cons}
use Rattle.std.proofs.lemmas.List.Sorted.{IsPermutation-refl, IsPermutation-sym, IsPermutation-trans, IsPermutation-cons, IsPermutation-middle, sum_by-IsPermutation, ranks_by, sorted_far}
use Rattle.std.specs.Cmp.{IsTotalOrder, on_total, alike_right, tied_itself}
use Rattle.std.specs.List.{AllByRecursion, sum_by}
use Rattle.std.specs.List.Sorted.{IsSortedBy}
use Rattle.std.specs.Ordering.{is_eq, is_lt, ordering_then, ordering_reverse}
use Rattle.std.specs.declared.cmp.Ordering.{Ordering}
use Rattle.std.specs.declared.cmp.Ordering.TheVariants.{Less, Equal, Greater}
use Rattle.gate_rows.proofs.Each.{all_among, all_at, all_weaker}
use Rattle.gate_rows.proofs.Elements.{Among, HaveSame, same-permutation}
use Rattle.gate_rows.specs.Changed.{key_cmp, entered, by_key}
use Rattle.gate_tables.proofs.Differing.{alike_is}
use Rattle.gate_tables.specs.Differences.{AreApart}
use Rattle.gate_tables.specs.Forms.{Form}
use Rattle.gate_tables.specs.Keys.{key_of, begin_with, has_key}
use Rattle.gate_tables.specs.Known.{IsKeyed}
use Rattle.gate_tables.specs.Texts.{key_width}
use Rattle.sqlite.specs.Order.{Row}
use Rattle.sqlite_value.proofs.OrderLemmas.{row_cmp_total}
use Rattle.sqlite_value.specs.Order.{row_cmp, value_cmp}

-- ORDERINGS
then_equal : (o p : Ordering) → is_eq (ordering_then o p) ≡ is_eq o && is_eq p
then_equal Less p = refl
then_equal Equal p = refl
then_equal Greater p = refl

pub less_is : (o : Ordering) → is_lt o ≡ true → o ≡ Less
less_is Less is = refl
less_is Equal is = absurd cc
less_is Greater is = absurd cc

pub equal_is : (o : Ordering) → is_eq o ≡ true → o ≡ Equal
equal_is Less is = absurd cc
equal_is Equal is = refl
equal_is Greater is = absurd cc

-- neither less nor the same
greater_is : (o : Ordering) → is_lt o ≡ false → is_eq o ≡ false → is_lt (ordering_reverse o) ≡ true
greater_is Less p q = absurd cc
greater_is Equal p q = absurd cc
greater_is Greater p q = refl

not_both : (o : Ordering) → is_lt o ≡ true → is_lt (ordering_reverse o) ≡ true → ⊥
not_both Less p q = cc
not_both Equal p q = cc
not_both Greater p q = cc

-- columns begin with a key as wide as their own if and only if the two are the same in order
front_same : (n : ℕ) (key row : Row) → length key ≡ n → length (take n row) ≡ n → begin_with key row ≡ is_eq (row_cmp (take n row) key)
front_same zero [] row p q = refl
front_same zero (k ∷ key) row p q = absurd cc
front_same (suc n) [] row p q = absurd cc
front_same (suc n) (k ∷ key) [] p q = absurd cc
front_same (suc n) (k ∷ key) (v ∷ row) p q =
    ap (λ b. is_eq (value_cmp v k) && b) (front_same n key row (omega (arith, p)) (omega (arith, q))) ∙ sym (then_equal (value_cmp v k) (row_cmp (take n row) key))

module _ {R : Type 0} where
  -- how many pass a test
  abbrev one : (R → Bool) → R → ℕ
  one p x = cond {A = ℕ} (p x) 1 0

  abbrev count : (R → Bool) → List R → ℕ
  count p = sum_by (one p)

  counted : (p : R → Bool) (x : R) (xs : List R) → count p (x ∷ xs) ≡ one p x + count p xs
  counted p = sum_by-cons (one p)

  one_passes : (p : R → Bool) (x : R) (xs : List R) → Among x xs → p x ≡ true → 1 ≤ count p xs
  one_passes p x [] there is = absurd there
  one_passes p x (y ∷ ys) there is = subst (λ n. 1 ≤ n) (sym (counted p y ys)) (by (λ later. one_passes p x ys later is) there) where
    by : (Among x ys → 1 ≤ count p ys) → Among x (y ∷ ys) → 1 ≤ one p y + count p ys
    by more (inl same) = let own : one p y ≡ 1 = ap (one p) (sym same) ∙ ap (λ b. cond {A = ℕ} b 1 0) is in omega (arith, own)
    by more (inr later) = let rest = more later in omega (arith, rest)

  none_passes : (p : R → Bool) (xs : List R) → AllByRecursion (λ x. p x ≡ false) xs → count p xs ≡ 0
  none_passes p [] all = refl
  none_passes p (x ∷ xs) all = counted p x xs ∙ (λ i. cond {A = ℕ} (all.0 i) 1 0 + none_passes p xs all.1 i)

module _ {R : Type 0} (form : Form R) where
  pub total : IsTotalOrder (key_cmp form)
  total = on_total (key_of form) row_cmp_total

  abbrev comes_before : R → R → Bool
  comes_before r x = is_lt (key_cmp form r x)

  abbrev is_tied : R → R → Bool
  is_tied r x = is_eq (key_cmp form x r)

  before_turned : (r x : R) → ordering_reverse (key_cmp form x r) ≡ key_cmp form r x
  before_turned r x = sym (total.antisymm r x)

  later : (r x : R) → comes_before x r ≡ false → is_tied r x ≡ false → comes_before r x ≡ true
  later r x p q = ap is_lt (sym (before_turned r x)) ∙ greater_is (key_cmp form x r) p q

  never_both : (r x : R) → comes_before r x ≡ true → comes_before x r ≡ true → ⊥
  never_both r x p q = not_both (key_cmp form r x) p (ap is_lt (before_turned x r) ∙ q)

  before_all : (r x : R) (xs : List R) → comes_before r x ≡ true → AllByRecursion (λ y. comes_before x y ≡ true) xs → AllByRecursion (λ y. comes_before r y ≡ true) xs
  before_all r x xs less all = all_weaker (λ y. comes_before x y ≡ true) (λ y. comes_before r y ≡ true) (λ y after. ap is_lt (total.trans r x y (less_is (key_cmp form r x) less) (less_is (key_cmp form x y) after))) xs all

  -- each row before all that follow
  abbrev pub Rise : List R → Type 0
  Rise [] = Unit {0}
  Rise (x ∷ xs) = AllByRecursion (λ y. comes_before x y ≡ true) xs × Rise xs

  -- THE DEFINITION
  all_entered : (P : R → Type 0) (r : R) (xs : List R) → P r → AllByRecursion P xs → AllByRecursion P (entered form r xs)
  all_entered P r [] own all = (own, tt)
  all_entered P r (x ∷ xs) own all = by (comes_before x r) (all_entered P r xs own all.1) where
    by : (b : Bool) → AllByRecursion P (entered form r xs) → AllByRecursion P (cond b (x ∷ entered form r xs) (r ∷ x ∷ xs))
    by true rest = (all.0, rest)
    by false rest = (own, all)

  all_by_key : (P : R → Type 0) (xs : List R) → AllByRecursion P xs → AllByRecursion P (by_key form xs)
  all_by_key P [] all = tt
  all_by_key P (x ∷ xs) all = all_entered P x (by_key form xs) all.0 (all_by_key P xs all.1)

  entered_rises : (r : R) (xs : List R) → Rise xs → AllByRecursion (λ x. is_tied r x ≡ false) xs → Rise (entered form r xs)
  entered_rises r [] rise unlike = (tt, tt)
  entered_rises r (x ∷ xs) rise unlike = by (comes_before x r) refl (entered_rises r xs rise.1 unlike.1) where
    by : (b : Bool) → comes_before x r ≡ b → Rise (entered form r xs) → Rise (cond b (x ∷ entered form r xs) (r ∷ x ∷ xs))
    by true is rest = (all_entered (λ y. comes_before x y ≡ true) r xs is rise.0, rest)
    by false is rest = let less = later r x is unlike.0 in ((less, before_all r x xs less rise.0), rise)

  entered_moved : (r : R) (xs : List R) → IsPermutation (r ∷ xs) (entered form r xs)
  entered_moved r [] = IsPermutation-refl (r ∷ [])
  entered_moved r (x ∷ xs) = by (comes_before x r) (entered_moved r xs) where
    by : (b : Bool) → IsPermutation (r ∷ xs) (entered form r xs) → IsPermutation (r ∷ x ∷ xs) (cond b (x ∷ entered form r xs) (r ∷ x ∷ xs))
    by true rest =
        IsPermutation-trans (r ∷ x ∷ xs) (x ∷ r ∷ xs) (x ∷ entered form r xs) (IsPermutation-sym (x ∷ r ∷ xs) (r ∷ x ∷ xs) (IsPermutation-middle (x ∷ []) r xs)) (IsPermutation-cons x (r ∷ xs) (entered form r xs) rest)
    by false rest = IsPermutation-refl (r ∷ x ∷ xs)

  pub by_key_moved : (xs : List R) → IsPermutation xs (by_key form xs)
  by_key_moved [] = IsPermutation-refl []
  by_key_moved (x ∷ xs) = IsPermutation-trans (x ∷ xs) (x ∷ by_key form xs) (entered form x (by_key form xs)) (IsPermutation-cons x xs (by_key form xs) (by_key_moved xs)) (entered_moved x (by_key form xs))

  -- ONE LIST ALONE
  one_rising : (xs ys : List R) → Rise xs → Rise ys → HaveSame xs ys → xs ≡ ys
  one_rising [] [] p q same = refl
  one_rising [] (y ∷ ys) p q same = absurd ((same y).1 (inl refl))
  one_rising (x ∷ xs) [] p q same = absurd ((same x).0 (inl refl))
  one_rising (x ∷ xs) (y ∷ ys) p q same = heads (λ others. one_rising xs ys p.1 q.1 others) ((same x).0 (inl refl)) ((same y).1 (inl refl)) where
    behind : (a b : R) (ls ms : List R) → Rise (a ∷ ls) → a ≡ b → ((z : R) → Among z (a ∷ ls) → Among z (b ∷ ms)) → (z : R) → Among z ls → Among z ms
    behind a b ls ms rise is to z there = elim (to z (inr there)) [
      | inl first ↦ (let less = subst (λ c. comes_before a c ≡ true) (first ∙ sym is) (all_among (λ c. comes_before a c ≡ true) z ls rise.0 there) in absurd (never_both a a less less))
      | inr after ↦ after
    ]

    tails : (HaveSame xs ys → xs ≡ ys) → x ≡ y → x ∷ xs ≡ y ∷ ys
    tails more is =
        let rest = more (λ z. (behind x y xs ys p is (λ w. (same w).0) z, behind y x ys xs q (sym is) (λ w. (same w).1) z)) in
        λ i. is i ∷ rest i

    heads : (HaveSame xs ys → xs ≡ ys) → Among x (y ∷ ys) → Among y (x ∷ xs) → x ∷ xs ≡ y ∷ ys
    heads more (inl is) other = tails more is
    heads more (inr after) (inl is) = tails more (sym is)
    heads more (inr after) (inr before) = absurd (never_both x y (all_among (λ c. comes_before x c ≡ true) y xs p.0 before) (all_among (λ c. comes_before y c ≡ true) x ys q.0 after))

  -- WHAT A SORT GIVES
  abbrev NoneBefore : List R → Type 0
  NoneBefore [] = Unit {0}
  NoneBefore (x ∷ xs) = AllByRecursion (λ y. comes_before y x ≡ false) xs × NoneBefore xs

  none_before : (xs : List R) → IsSortedBy comes_before xs → NoneBefore xs
  none_before xs sorted = by xs (λ i j d up lt. sorted_far comes_before (ranks_by row_cmp_total (key_of form)) xs sorted i j d up lt) where
    by : (ys : List R) → ((i j : ℕ) (d : R) → i ≤ j → j < length ys → comes_before (get_or ys j d) (get_or ys i d) ≡ false) → NoneBefore ys
    by [] far = tt
    by (y ∷ ys) far = (all_at (λ z. comes_before z y ≡ false) ys (λ i d lt. far 0 (suc i) d (omega arith) (omega (arith, lt))), by ys (λ i j d up lt. far (suc i) (suc j) d (omega (arith, up)) (omega (arith, lt))))

  few_rise : (xs : List R) → NoneBefore xs → ((r : R) → count (is_tied r) xs ≤ 1) → Rise xs
  few_rise [] none few = tt
  few_rise (x ∷ xs) none few = (after xs none.0 (λ y there. there), few_rise xs none.1 (λ r. let all = subst (λ n. n ≤ 1) (counted (is_tied r) x xs) (few r) in omega (arith, all)))
    where
      unlike : (y : R) → Among y xs → is_tied x y ≡ false
      unlike y there = false_from_ne_true (is_tied x y) (λ is.
          let own : one (is_tied x) x ≡ 1 = ap (λ o. cond {A = ℕ} (is_eq o) 1 0) (tied_itself total x) in
          let other = one_passes (is_tied x) y xs there is in
          let all = subst (λ n. n ≤ 1) (counted (is_tied x) x xs) (few x) in
          omega (arith, own, other, all))

      after : (ys : List R) → AllByRecursion (λ y. comes_before y x ≡ false) ys → ((y : R) → Among y ys → Among y xs) → AllByRecursion (λ y. comes_before x y ≡ true) ys
      after [] all within = tt
      after (y ∷ ys) all within = (later x y all.0 (unlike y (within y (inl refl))), after ys all.1 (λ z there. within z (inr there)))

  -- ROWS OF DIFFERENT KEYS
  module _ (known : IsKeyed form) where
    -- two rows are tied if and only if one has the key of the other
    pub tied_is : (r x : R) → has_key form (key_of form r) x ≡ is_tied r x
    tied_is r x = front_same (key_width form.layout) (key_of form r) (form.values x) (known.fronts r).1 (known.fronts x).1

    apart_unlike : (r : R) (xs : List R) → AllByRecursion (λ x. key_of form x ≢ key_of form r) xs → AllByRecursion (λ x. is_tied r x ≡ false) xs
    apart_unlike r =
        all_weaker (λ x. key_of form x ≢ key_of form r) (λ x. is_tied r x ≡ false) (λ x other. false_from_ne_true (is_tied r x) (λ is. other (alike_is form known r x (tied_is r x ∙ is))))

    pub by_key_rises : (xs : List R) → AreApart form xs → Rise (by_key form xs)
    by_key_rises [] apart = tt
    by_key_rises (x ∷ xs) apart = entered_rises x (by_key form xs) (by_key_rises xs apart.1) (all_by_key (λ y. is_tied x y ≡ false) xs (apart_unlike x xs apart.0))

    -- no two rows of different keys are both tied to one
    few_tied : (r : R) (xs : List R) → AreApart form xs → count (is_tied r) xs ≤ 1
    few_tied r [] apart = omega arith
    few_tied r (x ∷ xs) apart = subst (λ n. n ≤ 1) (sym (counted (is_tied r) x xs)) (by (is_tied r x) refl (few_tied r xs apart.1)) where
      others : is_tied r x ≡ true → AllByRecursion (λ y. is_tied r y ≡ false) xs
      others is = all_weaker (λ y. is_tied x y ≡ false) (λ y. is_tied r y ≡ false) (λ y unlike. ap is_eq (sym (alike_right total x r y (equal_is (key_cmp form x r) is))) ∙ unlike) xs (apart_unlike x xs apart.0)

      by : (b : Bool) → is_tied r x ≡ b → count (is_tied r) xs ≤ 1 → cond {A = ℕ} b 1 0 + count (is_tied r) xs ≤ 1
      by true is rest = let none = none_passes (is_tied r) xs (others is) in omega (arith, none)
      by false is rest = omega (arith, rest)

    rising_apart : (xs : List R) → Rise xs → AreApart form xs
    rising_apart [] rise = tt
    rising_apart (x ∷ xs) rise = (all_weaker (λ y. comes_before x y ≡ true) (λ y. key_of form y ≢ key_of form x) unlike xs rise.0, rising_apart xs rise.1)
      where
        unlike : (y : R) → comes_before x y ≡ true → key_of form y ≢ key_of form x
        unlike y less same = cc (sym less ∙ ap (λ k. is_lt (row_cmp (key_of form x) k)) same, ap is_lt (tied_itself total x))

    pub by_key_apart : (xs : List R) → AreApart form xs → AreApart form (by_key form xs)
    by_key_apart xs apart = rising_apart (by_key form xs) (by_key_rises xs apart)

    -- a sort by key gives the rows by key
    pub sorted_by_key : (rows xs : List R) → AreApart form rows → IsPermutation rows xs → IsSortedBy comes_before xs → xs ≡ by_key form rows
    sorted_by_key rows xs apart moved sorted = one_rising xs (by_key form rows) rise (by_key_rises rows apart) same
      where
        few : (r : R) → count (is_tied r) xs ≤ 1
        few r = subst (λ n. n ≤ 1) (sym (sum_by-IsPermutation (one (is_tied r)) rows xs moved)) (few_tied r rows apart)

        rise : Rise xs
        rise = few_rise xs (none_before xs sorted) few

        same : HaveSame xs (by_key form rows)
        same = same-permutation xs (by_key form rows) (IsPermutation-trans xs rows (by_key form rows) (IsPermutation-sym rows xs moved) (by_key_moved rows))
