-- Rows that are taken out by their rowids, and rows that are put back.
use Rattle.std.proofs.Common.{◌≡◌, ◌≢◌, inl, inr, ℤ, List, [], ◌∷◌, ◌++◌, map, filter, Bool, true, false, not, ◌||◌, cond, if◌then◌else◌, IsPermutation, refl, sym, ap, subst, ◌∙◌}
use Rattle.std.specs.Cmp.{eq_by_cmp_equiv, Equal-is}
use Rattle.std.specs.List.{AllByRecursion, list_any, list_all}
use Rattle.std.specs.Ordering.{is_eq}
use Rattle.std.proofs.lemmas.List.Folds.{list_all-append}
use Rattle.std.proofs.lemmas.Bool.{and_from, and_parts, not-true, or_parts}
use Rattle.std.proofs.lemmas.List.Sorted.{IsPermutation-refl, IsPermutation-sym, IsPermutation-trans, IsPermutation-cons, IsPermutation-middle, IsPermutation-append_right, list_any-IsPermutation}
use Rattle.std.specs.FinMap.{int_cmp-IsAntisymmetric}
use Rattle.gate_tables.proofs.Moved.{apart_moved}
use Rattle.gate_tables.proofs.Selecting.{filter_all}
use Rattle.gate_tables.specs.Apart.{AreApartBy}
use Rattle.gate_tables.proofs.Placing.{put_adds, put_keyed, fresh_one}
use Rattle.sqlite.specs.Edit.{without_all, put_all, have_rowids, are_fresh, id_in, is_taken}
use Rattle.sqlite.specs.Order.{Row}
use Rattle.sqlite.specs.Tree.{rowid, has_rowid, without_rowid, put_row}
use Rattle.sqlite_rules.proofs.ListLemmas.{all_has, some_has, some_from, has_filtered, has_kept, test_has}
use Rattle.sqlite_rules.proofs.TableLemmas.{int_is}
use Rattle.sqlite_rules.specs.Lists.{Has}
use Rattle.sqlite.specs.declared.types.Value.TheVariants.{Int}
use Rattle.sqlite_trees.specs.View.{is_int}
use Rattle.sqlite_value.proofs.OrderLemmas.{value_cmp-Int, value_cmp_total}
use Rattle.sqlite_value.specs.Order.{value_cmp}

pub filter_same : {A : Type 0} (p q : A → Bool) (xs : List A) → ((x : A) → Has xs x → p x ≡ q x) → filter p xs ≡ filter q xs
filter_same p q [] same = refl
filter_same p q (x ∷ xs) same =
    ap (λ (b : Bool). cond b (x ∷ filter p xs) (filter p xs)) (same x (inl refl)) ∙ ap (λ l. cond (q x) (x ∷ l) l) (filter_same p q xs (λ y h. same y (inr h)))

pub map_has : {A B : Type 0} (f g : A → B) (xs : List A) → ((x : A) → Has xs x → f x ≡ g x) → map f xs ≡ map g xs
map_has f g [] same = refl
map_has {A} {B} f g (x ∷ xs) same = ap (λ (y : B). y ∷ map f xs) (same x (inl refl)) ∙ ap (λ l. g x ∷ l) (map_has f g xs (λ y h. same y (inr h)))

any_mapped : {A B : Type 0} (q : B → Bool) (f : A → B) (xs : List A) → list_any q (map f xs) ≡ list_any (λ x. q (f x)) xs
any_mapped q f [] = refl
any_mapped q f (x ∷ xs) = ap (λ (b : Bool). q (f x) || b) (any_mapped q f xs)

filter_twice : {A : Type 0} (p q : A → Bool) (xs : List A) → filter (λ x. not (q x)) (filter (λ x. not (p x)) xs) ≡ filter (λ x. not (p x || q x)) xs
filter_twice p q [] = refl
filter_twice p q (x ∷ xs) = elim (p x) as (λ b. filter (λ y. not (q y)) (cond (not b) (x ∷ filter (λ y. not (p y)) xs) (filter (λ y. not (p y)) xs)) ≡ cond (not (b || q x)) (x ∷ filter (λ y. not (p y || q y)) xs) (filter (λ y. not (p y || q y)) xs)) [
  | true ↦ filter_twice p q xs
  | false ↦ ap (λ l. cond (not (q x)) (x ∷ l) l) (filter_twice p q xs)
]

-- what all pass, those pass that another test leaves
pub filter_all_true : {A : Type 0} (q p : A → Bool) (xs : List A) → list_all q xs ≡ true → list_all q (filter p xs) ≡ true
filter_all_true q p [] all = refl
filter_all_true q p (x ∷ xs) all = elim (p x) as (λ b. list_all q (cond b (x ∷ filter p xs) (filter p xs)) ≡ true) [
  | true ↦ and_from (q x) _ (and_parts (q x) _ all).0 (filter_all_true q p xs (and_parts (q x) _ all).1)
  | false ↦ filter_all_true q p xs (and_parts (q x) _ all).1
]

pub all_mapped : {A B : Type 0} (p : B → Bool) (f : A → B) (xs : List A) → ((x : A) → Has xs x → p (f x) ≡ true) → list_all p (map f xs) ≡ true
all_mapped p f [] each = refl
all_mapped p f (x ∷ xs) each = and_from (p (f x)) _ (each x (inl refl)) (all_mapped p f xs (λ y h. each y (inr h)))

pub joined_all : {A : Type 0} (p : A → Bool) (xs ys : List A) → list_all p xs ≡ true → list_all p ys ≡ true → list_all p (xs ++ ys) ≡ true
joined_all p xs ys first second = list_all-append p xs ys ∙ and_from (list_all p xs) (list_all p ys) first second

-- rows with rowids of their own, told apart by them
pub tied_ints : (a b : ℤ) → is_eq (value_cmp (Int a) (Int b)) ≡ true → a ≡ b
tied_ints a b tied = int_cmp-IsAntisymmetric a b ((Equal-is _).0 (subst (λ o. is_eq o ≡ true) (value_cmp-Int a b) tied))

own_same : (rows : List Row) (r q : Row) → AreApartBy rowid rows → Has rows r → Has rows q → rowid r ≡ rowid q → r ≡ q
own_same [] r q own has there same = absurd has
own_same (x ∷ rows) r q own (inl here) (inl there) same = here ∙ sym there
own_same (x ∷ rows) r q own (inl here) (inr there) same = absurd (all_has (λ y. rowid y ≢ rowid x) rows q own.0 there (sym same ∙ ap rowid here))
own_same (x ∷ rows) r q own (inr here) (inl there) same = absurd (all_has (λ y. rowid y ≢ rowid x) rows r own.0 here (same ∙ ap rowid there))
own_same (x ∷ rows) r q own (inr here) (inr there) same = own_same rows r q own.1 here there same

is_gone : List ℤ → Row → Bool
is_gone ids r = list_any (λ id. has_rowid id r) ids

without_gone : (ids : List ℤ) (rows : List Row) → without_all rows ids ≡ filter (λ r. not (is_gone ids r)) rows
unfolding is_gone
without_gone [] rows = sym (filter_all rows)
without_gone (id ∷ ids) rows = without_gone ids (without_rowid id rows) ∙ filter_twice (has_rowid id) (is_gone ids) rows

module _ (p : Row → Bool) (rows : List Row) (keyed : have_rowids rows ≡ true) (own : AreApartBy rowid rows) where
  taken_or_not : (r : Row) → Has rows r → (b : Bool) → p r ≡ b → (c : Bool) → list_any (λ q. has_rowid (id_in (rowid q)) r) (filter p rows) ≡ c → c ≡ b
  taken_or_not r has true is true any = refl
  taken_or_not r has false is false any = refl
  taken_or_not r has true is false any =
      let there = some_from (λ q. has_rowid (id_in (rowid q)) r) (filter p rows) r (has_kept p rows r has is) (subst (λ id. is_eq (value_cmp (rowid r) id) ≡ true) (int_is (rowid r) (test_has (λ x. is_int (rowid x)) rows r keyed has)) ((eq_by_cmp_equiv value_cmp_total).refl (rowid r))) in absurd (let e = sym any ∙ there in cc)
  taken_or_not r has false is true any =
      let found = some_has (λ q. has_rowid (id_in (rowid q)) r) (filter p rows) any in
      let q = found.0 in
      let was = has_filtered p rows q found.1 in
      let int : rowid q ≡ Int (id_in (rowid q)) = int_is (rowid q) (test_has (λ x. is_int (rowid x)) rows q keyed was.0) in
      let mine : rowid r ≡ Int (id_in (rowid r)) = int_is (rowid r) (test_has (λ x. is_int (rowid x)) rows r keyed has) in
      let same : r ≡ q = own_same rows r q own has was.0 (mine ∙ ap Int (tied_ints _ _ (subst (λ v. is_eq (value_cmp v (Int (id_in (rowid q)))) ≡ true) mine found.2)) ∙ sym int) in
      absurd (let e = sym is ∙ ap p same ∙ was.1 in cc)

  -- the rows that pass a test are taken by their rowids, and no other
  pub without_picked : (ids : List ℤ) → IsPermutation (map (λ r. id_in (rowid r)) (filter p rows)) ids → without_all rows ids ≡ filter (λ r. not (p r)) rows
  unfolding is_gone
  without_picked ids moved =
      without_gone ids rows ∙ filter_same (λ r. not (is_gone ids r)) (λ r. not (p r)) rows (λ r has.
      let any = sym (list_any-IsPermutation (λ id. has_rowid id r) (map (λ q. id_in (rowid q)) (filter p rows)) ids moved) ∙ any_mapped (λ id. has_rowid id r) (λ q. id_in (rowid q)) (filter p rows) in
      ap not (any ∙ taken_or_not r has (p r) refl (list_any (λ q. has_rowid (id_in (rowid q)) r) (filter p rows)) refl))

-- rows with new rowids are put beside those that are there
pub put_all_adds : (news rows : List Row) → are_fresh rows news ≡ true → IsPermutation (news ++ rows) (put_all rows news)
put_all_adds [] rows fresh = IsPermutation-refl rows
put_all_adds (n ∷ news) rows fresh =
    let here = put_adds n rows (fresh_one rows n (one_more n rows news fresh)) in
    let later = put_all_adds news (put_row n rows) (and_parts _ _ fresh).1 in
    IsPermutation-trans (n ∷ (news ++ rows)) (news ++ put_row n rows) (put_all rows (n ∷ news))
    (IsPermutation-trans (n ∷ (news ++ rows)) (news ++ n ∷ rows) (news ++ put_row n rows) (IsPermutation-sym (news ++ n ∷ rows) (n ∷ (news ++ rows)) (IsPermutation-middle news n rows)) (IsPermutation-append_right news (n ∷ rows) (put_row n rows) here)) later
  where
    one_more : (n : Row) (rows news : List Row) → are_fresh rows (n ∷ news) ≡ true → are_fresh rows (n ∷ []) ≡ true
    one_more n rows news h = and_from _ true (and_parts _ _ h).0 refl

-- a rowid that isn't taken is another than that of each row
untaken : (rows : List Row) (new : Row) → is_taken rows new ≡ false → AllByRecursion (λ r. rowid r ≢ rowid new) rows
untaken [] new free = tt
untaken (r ∷ rows) new free =
    let parts = or_parts (is_eq (value_cmp (rowid r) (rowid new))) (is_taken rows new) free in
    ((λ same. let tied = subst (λ v. is_eq (value_cmp v (rowid new)) ≡ true) (sym same) ((eq_by_cmp_equiv value_cmp_total).refl (rowid new)) in let e : true ≡ false = sym tied ∙ parts.0 in cc e), untaken rows new parts.1)

pub put_own : (new : Row) (rows : List Row) → is_taken rows new ≡ false → AreApartBy rowid rows → AreApartBy rowid (put_row new rows)
put_own new rows free own = apart_moved rowid (new ∷ rows) (put_row new rows) (put_adds new rows free) (untaken rows new free, own)

pub put_all_own : (news rows : List Row) → are_fresh rows news ≡ true → AreApartBy rowid rows → AreApartBy rowid (put_all rows news)
put_all_own [] rows fresh own = own
put_all_own (n ∷ news) rows fresh own = let parts = and_parts (not (is_taken rows n)) (are_fresh (put_row n rows) news) fresh in put_all_own news (put_row n rows) parts.1 (put_own n rows (not-true (is_taken rows n) parts.0) own)

pub put_all_keyed : (news rows : List Row) → have_rowids news ≡ true → have_rowids rows ≡ true → have_rowids (put_all rows news) ≡ true
put_all_keyed [] rows own all = all
put_all_keyed (n ∷ news) rows own all = put_all_keyed news (put_row n rows) (and_parts (is_int (rowid n)) _ own).1 (put_keyed n rows (and_from _ true (and_parts (is_int (rowid n)) _ own).0 refl) all)

-- the rows that pass a test changed by one function and all others by another, together
pub split_mapped : {A B : Type 0} (p : A → Bool) (f g : A → B) (xs : List A) → IsPermutation (map (λ x. if p x then f x else g x) xs) (map f (filter p xs) ++ map g (filter (λ x. not (p x)) xs))
split_mapped {A} {B} p f g [] = IsPermutation-refl []
split_mapped {A} {B} p f g (x ∷ xs) = step (p x) (split_mapped p f g xs)
  where
    rest : List B
    rest = map (λ x. if p x then f x else g x) xs

    step : (b : Bool) → IsPermutation rest (map f (filter p xs) ++ map g (filter (λ x. not (p x)) xs))
        → IsPermutation ((if b then f x else g x) ∷ rest) (map f (if b then x ∷ filter p xs else filter p xs) ++ map g (if not b then x ∷ filter (λ x. not (p x)) xs else filter (λ x. not (p x)) xs))
    step true more = IsPermutation-cons (f x) rest _ more
    step false more = IsPermutation-trans (g x ∷ rest) (g x ∷ (map f (filter p xs) ++ map g (filter (λ x. not (p x)) xs))) _ (IsPermutation-cons (g x) rest _ more)
        (IsPermutation-sym _ _ (IsPermutation-middle (map f (filter p xs)) (g x) (map g (filter (λ x. not (p x)) xs))))
