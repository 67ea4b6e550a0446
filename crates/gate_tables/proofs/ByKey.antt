-- Lists of which no two items are alike, by a test, and what is put into them and taken out.
use Rattle.std.proofs.Common.{◌≡◌, ◌⊎◌, inl, inr, List, [], ◌∷◌, ◌++◌, map, filter, Bool, true, false, not, ◌||◌, cond, if◌then◌else◌, IsPermutation, refl, sym, ap, subst, ◌∙◌}
use Rattle.std.specs.List.{list_any}
use Rattle.std.proofs.lemmas.Bool.{cases_Bool, not-true}
use Rattle.std.proofs.lemmas.List.Sorted.{IsPermutation-refl, IsPermutation-sym, IsPermutation-trans, IsPermutation-cons, IsPermutation-middle}
use Rattle.sqlite_trees.proofs.TreeLemmas.{not_true}
use Rattle.sqlite_rules.proofs.ListLemmas.{some_has, some_from, has_filtered, has_kept, has_either, has_left, has_right}
use Rattle.sqlite_rules.specs.Lists.{Has}

true_or_false : {P : Type 0} (b : Bool) → b ≡ true → b ≡ false → P
true_or_false true p q = absurd cc
true_or_false false p q = absurd cc

module _ {R : Type 0} (alike : R → R → Bool) (own : (r : R) → alike r r ≡ true) (back : (r x : R) → alike r x ≡ true → alike x r ≡ true)
    (on : (r x y : R) → alike r x ≡ true → alike x y ≡ true → alike r y ≡ true) where
  abbrev pub Apart : List R → Type 0
  Apart [] = Unit {0}
  Apart (r ∷ rows) = (list_any (alike r) rows ≡ false) × Apart rows

  abbrev pub put_in : R → List R → List R
  put_in r rows = if list_any (alike r) rows then map (λ x. if alike r x then r else x) rows else r ∷ rows

  abbrev pub put_in_all : List R → List R → List R
  put_in_all [] rows = rows
  put_in_all (r ∷ rs) rows = put_in_all rs (put_in r rows)

  abbrev pub take_out : R → List R → List R
  take_out r rows = filter (λ x. not (alike r x)) rows

  abbrev pub take_out_all : List R → List R → List R
  take_out_all [] rows = rows
  take_out_all (r ∷ rs) rows = take_out_all rs (take_out r rows)

  none_like : (r : R) (rows : List R) (x : R) → list_any (alike r) rows ≡ false → Has rows x → alike r x ≡ false
  none_like r rows x none has = not_true (alike r x) (λ like. true_or_false (list_any (alike r) rows) (some_from (alike r) rows x has like) none)

  lacks : (r : R) (rows : List R) → ((x : R) → Has rows x → alike r x ≡ false) → list_any (alike r) rows ≡ false
  lacks r rows each = not_true (list_any (alike r) rows) (λ some. let found = some_has (alike r) rows some in true_or_false (alike r found.0) found.2 (each found.0 found.1))

  -- two of a list that are alike are one
  pub one_of : (rows : List R) (x y : R) → Apart rows → Has rows x → Has rows y → alike x y ≡ true → x ≡ y
  one_of [] x y apart here there like = absurd here
  one_of (r ∷ rows) x y apart (inl here) (inl there) like = here ∙ sym there
  one_of (r ∷ rows) x y apart (inl here) (inr there) like = true_or_false (alike r y) (subst (λ z. alike z y ≡ true) here like) (none_like r rows y apart.0 there)
  one_of (r ∷ rows) x y apart (inr here) (inl there) like = true_or_false (alike r x) (subst (λ z. alike z x ≡ true) there (back x y like)) (none_like r rows x apart.0 here)
  one_of (r ∷ rows) x y apart (inr here) (inr there) like = one_of rows x y apart.1 here there like

  -- what is taken out, and what stays
  out_apart : (r : R) (rows : List R) → Apart rows → Apart (take_out r rows)
  out_apart r [] apart = tt
  out_apart r (x ∷ rows) apart = elim (alike r x) as (λ b. Apart (cond (not b) (x ∷ take_out r rows) (take_out r rows))) [
    | true ↦ out_apart r rows apart.1
    | false ↦ (lacks x (take_out r rows) (λ y has. none_like x rows y apart.0 (has_filtered (λ z. not (alike r z)) rows y has).0), out_apart r rows apart.1)
  ]

  pub all_out_apart : (rs rows : List R) → Apart rows → Apart (take_out_all rs rows)
  all_out_apart [] rows apart = apart
  all_out_apart (r ∷ rs) rows apart = all_out_apart rs (take_out r rows) (out_apart r rows apart)

  pub stays : (rs rows : List R) (x : R) → Has (take_out_all rs rows) x → Has rows x × ((r : R) → Has rs r → alike r x ≡ false)
  stays [] rows x has = (has, λ r none. absurd none)
  stays (g ∷ rs) rows x has =
      let more = stays rs (take_out g rows) x has in
      let was = has_filtered (λ y. not (alike g y)) rows x more.0 in
      (was.0, λ r there. elim there [ inl same ↦ subst (λ z. alike z x ≡ false) (sym same) (not-true (alike g x) was.1) | inr later ↦ more.1 r later ])

  pub left_in : (rs rows : List R) (x : R) → Has rows x → ((r : R) → Has rs r → alike r x ≡ false) → Has (take_out_all rs rows) x
  left_in [] rows x has unlike = has
  left_in (g ∷ rs) rows x has unlike = left_in rs (take_out g rows) x (has_kept (λ y. not (alike g y)) rows x has (ap not (unlike g (inl refl)))) (λ r there. unlike r (inr there))

  -- what is put in, and what it leaves
  module _ (r : R) where
    abbrev changed : R → R
    changed x = if alike r x then r else x

    from_changed : (rows : List R) (x : R) → Has (map changed rows) x → (x ≡ r) ⊎ (Has rows x × (alike r x ≡ false))
    from_changed [] x has = absurd has
    from_changed (y ∷ rows) x (inl here) = step (alike r y) refl here
      where
        step : (b : Bool) → alike r y ≡ b → x ≡ (if b then r else y) → (x ≡ r) ⊎ (Has (y ∷ rows) x × (alike r x ≡ false))
        step true is same = inl same
        step false is same = inr (inl same, subst (λ z. alike r z ≡ false) (sym same) is)
    from_changed (y ∷ rows) x (inr there) = elim (from_changed rows x there) [ inl same ↦ inl same | inr more ↦ inr (inr more.0, more.1) ]

    to_changed : (rows : List R) (x : R) → Has rows x → alike r x ≡ false → Has (map changed rows) x
    to_changed [] x has unlike = absurd has
    to_changed (y ∷ rows) x (inl here) unlike = inl (here ∙ ap (λ (b : Bool). if b then r else y) (sym (subst (λ z. alike r z ≡ false) here unlike)))
    to_changed (y ∷ rows) x (inr there) unlike = inr (to_changed rows x there unlike)

    has_changed : (rows : List R) → list_any (alike r) rows ≡ true → Has (map changed rows) r
    has_changed [] some = absurd cc
    has_changed (y ∷ rows) some = step (alike r y) refl (has_changed rows)
      where
        step : (b : Bool) → alike r y ≡ b → (list_any (alike r) rows ≡ true → Has (map changed rows) r) → Has (map changed (y ∷ rows)) r
        step true is more = inl (ap (λ (b : Bool). if b then r else y) (sym is))
        step false is more = inr (more (ap (λ (b : Bool). b || list_any (alike r) rows) (sym is) ∙ some))

    unchanged : (rows : List R) → ((x : R) → Has rows x → alike r x ≡ false) → map changed rows ≡ rows
    unchanged [] each = refl
    unchanged (y ∷ rows) each = ap (λ (b : Bool). (if b then r else y) ∷ map changed rows) (each y (inl refl)) ∙ ap (λ l. y ∷ l) (unchanged rows (λ x has. each x (inr has)))

    changed_apart : (rows : List R) → Apart rows → Apart (map changed rows)
    changed_apart [] apart = tt
    changed_apart (y ∷ rows) apart = step (alike r y) refl (changed_apart rows apart.1)
      where
        step : (b : Bool) → alike r y ≡ b → Apart (map changed rows) → Apart ((if b then r else y) ∷ map changed rows)
        step true is more =
            let others : (x : R) → Has rows x → alike r x ≡ false = λ x has. not_true (alike r x) (λ like. true_or_false (alike y x) (on y r x (back r y is) like) (none_like y rows x apart.0 has)) in
            subst (λ l. Apart (r ∷ l)) (sym (unchanged rows others)) (lacks r rows others, apart.1)
        step false is more = (
          lacks y (map changed rows) (λ x has. elim (from_changed rows x has) [
            | inl same ↦ not_true (alike y x) (λ like. true_or_false (alike r y) (back y r (subst (λ z. alike y z ≡ true) same like)) is)
            | inr was ↦ none_like y rows x apart.0 was.0
          ]),
          more,
        )

    pub put_apart : (rows : List R) → Apart rows → Apart (put_in r rows)
    put_apart rows apart = elim (cases_Bool (list_any (alike r) rows)) [
      | inl some ↦ subst (λ (b : Bool). Apart (if b then map changed rows else r ∷ rows)) (sym some) (changed_apart rows apart)
      | inr none ↦ subst (λ (b : Bool). Apart (if b then map changed rows else r ∷ rows)) (sym none) (none, apart)
    ]

    from_put : (rows : List R) (x : R) → Has (put_in r rows) x → (x ≡ r) ⊎ (Has rows x × (alike r x ≡ false))
    from_put rows x has = step (list_any (alike r) rows) refl has
      where
        step : (b : Bool) → list_any (alike r) rows ≡ b → Has (if b then map changed rows else r ∷ rows) x → (x ≡ r) ⊎ (Has rows x × (alike r x ≡ false))
        step true is has = from_changed rows x has
        step false is (inl same) = inl same
        step false is (inr there) = inr (there, none_like r rows x is there)

    to_put : (rows : List R) (x : R) → Has rows x → alike r x ≡ false → Has (put_in r rows) x
    to_put rows x has unlike = step (list_any (alike r) rows)
      where
        step : (b : Bool) → Has (if b then map changed rows else r ∷ rows) x
        step true = to_changed rows x has unlike
        step false = inr has

    has_put : (rows : List R) → Has (put_in r rows) r
    has_put rows = step (list_any (alike r) rows) refl
      where
        step : (b : Bool) → list_any (alike r) rows ≡ b → Has (if b then map changed rows else r ∷ rows) r
        step true is = has_changed rows is
        step false is = inl refl

  pub all_put_apart : (rs rows : List R) → Apart rows → Apart (put_in_all rs rows)
  all_put_apart [] rows apart = apart
  all_put_apart (r ∷ rs) rows apart = all_put_apart rs (put_in r rows) (put_apart r rows apart)

  pub from_all : (rs rows : List R) (x : R) → Has (put_in_all rs rows) x → Has rs x ⊎ (Has rows x × ((r : R) → Has rs r → alike r x ≡ false))
  from_all [] rows x has = inr (has, λ r none. absurd none)
  from_all (p ∷ rs) rows x has = elim (from_all rs (put_in p rows) x has) [
    | inl later ↦ inl (inr later)
    | inr was ↦ elim (from_put p rows x was.0) [
      | inl same ↦ inl (inl same)
      | inr old ↦ inr (old.0, λ r there. elim there [ inl same ↦ subst (λ z. alike z x ≡ false) (sym same) old.1 | inr later ↦ was.1 r later ])
    ]
  ]

  pub to_all : (rs rows : List R) (x : R) → Has rows x → ((r : R) → Has rs r → alike r x ≡ false) → Has (put_in_all rs rows) x
  to_all [] rows x has unlike = has
  to_all (p ∷ rs) rows x has unlike = to_all rs (put_in p rows) x (to_put p rows x has (unlike p (inl refl))) (λ r there. unlike r (inr there))

  pub put_all_has : (rs rows : List R) (x : R) → Apart rs → Has rs x → Has (put_in_all rs rows) x
  put_all_has [] rows x apart has = absurd has
  put_all_has (p ∷ rs) rows x apart (inr later) = put_all_has rs (put_in p rows) x apart.1 later
  put_all_has (p ∷ rs) rows x apart (inl same) =
      to_all rs (put_in p rows) x (subst (Has (put_in p rows)) (sym same) (has_put p rows)) (λ r there. not_true (alike r x) (λ like. true_or_false (alike p r) (back r p (subst (λ z. alike r z ≡ true) same like)) (none_like p rs r apart.0 there)))

  pub filter_apart : (p : R → Bool) (rows : List R) → Apart rows → Apart (filter p rows)
  filter_apart p [] apart = tt
  filter_apart p (x ∷ rows) apart = elim (p x) as (λ b. Apart (cond b (x ∷ filter p rows) (filter p rows))) [
    | true ↦ (lacks x (filter p rows) (λ y has. none_like x rows y apart.0 (has_filtered p rows y has).0), filter_apart p rows apart.1)
    | false ↦ filter_apart p rows apart.1
  ]

  -- lists with the same items, no two alike, are the same in another order
  split : (rows : List R) (x : R) → Has rows x → (front : List R) × (rest : List R) × (rows ≡ front ++ x ∷ rest)
  split [] x has = absurd has
  split (y ∷ rows) x (inl same) = ([], rows, ap (λ z. z ∷ rows) (sym same))
  split (y ∷ rows) x (inr there) = let more = split rows x there in (y ∷ more.0, more.1, ap (λ l. y ∷ l) more.2)

  without_one : (front rest : List R) (x : R) → Apart (front ++ x ∷ rest) → Apart (front ++ rest) × (Has (front ++ rest) x → ⊥)
  without_one [] rest x apart = (apart.1, λ has. true_or_false (alike x x) (own x) (none_like x rest x apart.0 has))
  without_one (y ∷ front) rest x apart =
      let more = without_one front rest x apart.1 in (
        (lacks y (front ++ rest) (λ z has. none_like y (front ++ x ∷ rest) z apart.0 (elim (has_either front rest z has) [ inl left ↦ has_left front (x ∷ rest) z left | inr right ↦ has_right front (x ∷ rest) z (inr right) ])), more.0),
        λ has. elim has [ inl same ↦ true_or_false (alike y x) (subst (λ z. alike y z ≡ true) (sym same) (own y)) (none_like y (front ++ x ∷ rest) x apart.0 (has_right front (x ∷ rest) x (inl refl))) | inr there ↦ more.1 there ],
      )

  pub same_items : (xs ys : List R) → Apart xs → Apart ys → ((x : R) → Has xs x → Has ys x) → ((x : R) → Has ys x → Has xs x) → IsPermutation xs ys
  same_items [] [] apart too to from = IsPermutation-refl []
  same_items [] (y ∷ ys) apart too to from = absurd (from y (inl refl))
  same_items (x ∷ xs) ys apart too to from =
      let cut = split ys x (to x (inl refl)) in
      let rest = without_one cut.0 cut.1 x (subst Apart cut.2 too) in
      let more = same_items xs (cut.0 ++ cut.1) apart.1 rest.0
      (λ z has. elim (has_either cut.0 (x ∷ cut.1) z (subst (λ l. Has l z) cut.2 (to z (inr has)))) [
        | inl left ↦ has_left cut.0 cut.1 z left
        | inr right ↦ elim right [ inl same ↦ true_or_false (alike x x) (own x) (none_like x xs x apart.0 (subst (Has xs) same has)) | inr there ↦ has_right cut.0 cut.1 z there ]
      ])
      (λ z has. elim (from z (subst (λ l. Has l z) (sym cut.2) (elim (has_either cut.0 cut.1 z has) [ inl left ↦ has_left cut.0 (x ∷ cut.1) z left | inr right ↦ has_right cut.0 (x ∷ cut.1) z (inr right) ]))) [
        | inl same ↦ absurd (rest.1 (subst (Has (cut.0 ++ cut.1)) same has))
        | inr there ↦ there
      ]) in
      subst (IsPermutation (x ∷ xs)) (sym cut.2) (IsPermutation-trans (x ∷ xs) (x ∷ (cut.0 ++ cut.1)) (cut.0 ++ x ∷ cut.1) (IsPermutation-cons x xs (cut.0 ++ cut.1) more)
      (IsPermutation-sym (cut.0 ++ x ∷ cut.1) (x ∷ (cut.0 ++ cut.1)) (IsPermutation-middle cut.0 x cut.1)))

  -- what is gone taken out, and what differs put in, leads from one list to another
  module _ (equal : R → R → Bool) (equal_is : (r x : R) → equal r x ≡ true → r ≡ x) (equals : (r : R) → equal r r ≡ true) (old new : List R) (was : Apart old) (now : Apart new) where
    gone : List R
    gone = filter (λ r. not (list_any (alike r) new)) old

    differing : List R
    differing = filter (λ r. not (list_any (equal r) old)) new

    left : List R
    left = take_out_all gone old

    arrived : (x : R) → Has (put_in_all differing left) x → Has new x
    unfolding gone differing left
    arrived x has = elim (from_all differing left x has) [
      | inl put ↦ (has_filtered (λ r. not (list_any (equal r) old)) new x put).0
      | inr rest ↦
          let there = stays gone old x rest.0 in
          elim (cases_Bool (list_any (alike x) new)) [
            | inr none ↦ true_or_false (alike x x) (own x) (there.1 x (has_kept (λ r. not (list_any (alike r) new)) old x there.0 (ap not none)))
            | inl some ↦
                let found = some_has (alike x) new some in
                elim (cases_Bool (list_any (equal found.0) old)) [
                  | inr lacking ↦ true_or_false (alike found.0 x) (back x found.0 found.2) (rest.1 found.0 (has_kept (λ r. not (list_any (equal r) old)) new found.0 found.1 (ap not lacking)))
                  | inl kept ↦
                      let twin = some_has (equal found.0) old kept in
                      let same : found.0 ≡ twin.0 = equal_is found.0 twin.0 twin.2 in
                      let one : x ≡ found.0 = one_of old x found.0 was there.0 (subst (Has old) (sym same) twin.1) found.2 in
                      subst (Has new) (sym one) found.1
                ]
          ]
    ]

    arrives : (x : R) → Has new x → Has (put_in_all differing left) x
    unfolding gone differing left
    arrives x has = elim (cases_Bool (list_any (equal x) old)) [
      | inr lacking ↦ put_all_has differing left x (filter_apart (λ r. not (list_any (equal r) old)) new now) (has_kept (λ r. not (list_any (equal r) old)) new x has (ap not lacking))
      | inl kept ↦
          let twin = some_has (equal x) old kept in
          let there : Has old x = subst (Has old) (sym (equal_is x twin.0 twin.2)) twin.1 in
          to_all differing left x
          (left_in gone old x there (λ r is_gone. not_true (alike r x) (λ like.
          let lacking = not-true (list_any (alike r) new) (has_filtered (λ z. not (list_any (alike z) new)) old r is_gone).1 in true_or_false (list_any (alike r) new) (some_from (alike r) new x has like) lacking)))
          (λ r differs. not_true (alike r x) (λ like.
          let it = has_filtered (λ z. not (list_any (equal z) old)) new r differs in
          let one : r ≡ x = one_of new r x now it.0 has like in true_or_false (list_any (equal r) old) (some_from (equal r) old r (subst (Has old) (sym one) there) (equals r)) (not-true (list_any (equal r) old) it.1)))
    ]

    pub leads : IsPermutation (put_in_all (filter (λ r. not (list_any (equal r) old)) new) (take_out_all (filter (λ r. not (list_any (alike r) new)) old) old)) new
    unfolding gone differing left
    leads = same_items (put_in_all differing left) new (all_put_apart differing left (all_out_apart gone old was)) now arrived arrives
