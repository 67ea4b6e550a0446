-- The differences of rows, applied, lead from one to the other: table by table, by keys that are compared column by column.
use Rattle.std.proofs.Common.{◌≡◌, ◌≢◌, ℕ, zero, suc, List, [], ◌∷◌, take, length, Bool, true, false, ◌||◌, IsPermutation, refl, sym, ap, subst, ◌∙◌}
use Rattle.std.specs.List.{AllByRecursion, list_any}
use Rattle.std.specs.Cmp.{eq_by_cmp_equiv}
use Rattle.std.specs.Ordering.{is_eq}
use Rattle.std.proofs.Math.Seq.{take-length}
use Rattle.std.proofs.lemmas.Bool.{and_from, and_parts}
use Rattle.gate_tables.proofs.ByKey.{Apart, put_in_all, take_out_all, leads}
use Rattle.gate_tables.proofs.Testing.{begins}
use Rattle.gate_tables.specs.Applied.{put, without}
use Rattle.gate_tables.specs.Differences.{gone, differing, is_same, AreApart}
use Rattle.gate_tables.specs.Forms.{Form}
use Rattle.gate_tables.specs.Kept.{is_of_kind, is_whole}
use Rattle.gate_tables.specs.Keys.{key_of, begin_with, has_key, is_front}
use Rattle.gate_tables.specs.Known.{IsKeyed}
use Rattle.gate_tables.specs.Texts.{key_width}
use Rattle.sqlite_trees.proofs.TreeLemmas.{not_true}
use Rattle.sqlite.specs.Order.{Row}
use Rattle.sqlite_schema.specs.declared.schema.Column.{Column}
use Rattle.sqlite_value.proofs.OrderLemmas.{value_cmp_total}
use Rattle.sqlite_value.specs.Order.{value_cmp}

-- columns begin with what is in front of them
begins_itself : (n : ℕ) (row : Row) → begin_with (take n row) row ≡ true
begins_itself zero row = refl
begins_itself (suc n) [] = refl
begins_itself (suc n) (v ∷ row) = and_from (is_eq (value_cmp v v)) _ ((eq_by_cmp_equiv value_cmp_total).refl v) (begins_itself n row)

whole_front : (columns : List Column) (row : Row) → is_whole columns row ≡ true → is_front columns row ≡ true
whole_front [] [] h = refl
whole_front [] (v ∷ row) h = absurd cc
whole_front (c ∷ columns) [] h = refl
whole_front (c ∷ columns) (v ∷ row) h = and_from (is_of_kind c.kind v) _ (and_parts (is_of_kind c.kind v) _ h).0 (whole_front columns row (and_parts (is_of_kind c.kind v) _ h).1)

same_width : (columns : List Column) (a b : Row) → is_whole columns a ≡ true → is_whole columns b ≡ true → length a ≡ length b
same_width [] [] [] p q = refl
same_width [] [] (v ∷ b) p q = absurd cc
same_width [] (v ∷ a) b p q = absurd cc
same_width (c ∷ columns) [] b p q = absurd cc
same_width (c ∷ columns) (v ∷ a) [] p q = absurd cc
same_width (c ∷ columns) (v ∷ a) (w ∷ b) p q = ap suc (same_width columns a b (and_parts (is_of_kind c.kind v) _ p).1 (and_parts (is_of_kind c.kind w) _ q).1)

-- what is done for each of some rows, one after the other
abbrev pub act_all : {R : Type 0} → (R → List R → List R) → List R → List R → List R
act_all act [] rows = rows
act_all act (r ∷ rs) rows = act_all act rs (act r rows)

module _ {R : Type 0} (form : Form R) (known : IsKeyed form) where
  abbrev alike : R → R → Bool
  alike r x = has_key form (key_of form r) x

  -- rows are alike if and only if they have one key
  pub alike_is : (r x : R) → alike r x ≡ true → key_of form x ≡ key_of form r
  alike_is r x h =
      ap (λ n. take n (form.values x)) (sym (known.fronts r).1) ∙ begins form.layout.columns (form.values x) (key_of form r) (known.fronts r).0 (known.known.wholes x) h

  one_key : (r x : R) → key_of form x ≡ key_of form r → alike r x ≡ true
  one_key r x same = ap (λ k. begin_with k (form.values x)) (sym same) ∙ begins_itself (key_width form.layout) (form.values x)

  pub own : (r : R) → alike r r ≡ true
  own r = one_key r r refl

  back : (r x : R) → alike r x ≡ true → alike x r ≡ true
  back r x h = one_key x r (sym (alike_is r x h))

  on : (r x y : R) → alike r x ≡ true → alike x y ≡ true → alike r y ≡ true
  on r x y p q = one_key r y (alike_is x y q ∙ alike_is r x p)

  pub same_as_itself : (r : R) → is_same form r r ≡ true
  same_as_itself r = let row = form.values r in ap (λ front. begin_with front row) (sym (take-length row)) ∙ begins_itself (length row) row

  pub same_is : (r x : R) → is_same form r x ≡ true → r ≡ x
  same_is r x h =
      let a = form.values r in
      let b = form.values x in
      let front = begins form.layout.columns b a (whole_front form.layout.columns a (known.known.wholes r)) (known.known.wholes x) h in
      let wide : length a ≡ length b = same_width form.layout.columns a b (known.known.wholes r) (known.known.wholes x) in
      let all : b ≡ a = sym (take-length b) ∙ ap (λ n. take n b) (sym wide) ∙ front in
      sym (known.known.reads r) ∙ ap form.read (sym all) ∙ known.known.reads x

  abbrev pub drop_all : List R → List R → List R
  drop_all = act_all (λ g rows. without form (key_of form g) rows)

  abbrev pub put_all : List R → List R → List R
  put_all = act_all (put form)

  drops_are : (gs rows : List R) → drop_all gs rows ≡ take_out_all alike own back on gs rows
  drops_are [] rows = refl
  drops_are (g ∷ gs) rows = drops_are gs (without form (key_of form g) rows)

  puts_are : (rs rows : List R) → put_all rs rows ≡ put_in_all alike own back on rs rows
  puts_are [] rows = refl
  puts_are (r ∷ rs) rows = puts_are rs (put form r rows)

  apart_is : (rows : List R) → AreApart form rows → Apart alike own back on rows
  apart_is [] apart = tt
  apart_is (r ∷ rows) apart = (none rows apart.0, apart_is rows apart.1)
    where
      unlike : (x : R) → key_of form x ≢ key_of form r → alike r x ≡ false
      unlike x other = not_true (alike r x) (λ like. other (alike_is r x like))

      none : (xs : List R) → AllByRecursion (λ x. key_of form x ≢ key_of form r) xs → list_any (alike r) xs ≡ false
      none [] all = refl
      none (x ∷ xs) all = ap (λ (b : Bool). b || list_any (alike r) xs) (unlike x all.0) ∙ none xs all.1

  -- what is gone deleted and what differs put leads from some rows of a table to others
  pub table_leads : (old new : List R) → AreApart form old → AreApart form new → IsPermutation (put_all (differing form old new) (drop_all (gone form old new) old)) new
  table_leads old new was now =
      subst (λ l. IsPermutation l new) (sym (puts_are (differing form old new) (drop_all (gone form old new) old) ∙ ap (put_in_all alike own back on (differing form old new)) (drops_are (gone form old new) old)))
      (leads alike own back on (is_same form) same_is same_as_itself old new (apart_is old was) (apart_is new now))
