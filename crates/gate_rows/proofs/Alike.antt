-- Lists that are equal item by item, and rows of one sorted list.
use Rattle.std.proofs.Common.{◌≡◌, Bool, true, IsTrue, List, [], ◌∷◌, refl, sym, subst}
use Rattle.std.proofs.lemmas.List.Sorted.{IsPermutation-refl, IsPermutation-sym, IsPermutation-trans}
use Rattle.std.specs.Cmp.{first_so, second_so}
use Rattle.std.specs.Cmp.Lexicographic.{pointwise}
use Rattle.std.specs.Prelude.{IsPermutation}
use Rattle.gate_tables.specs.Contents.{AreSame}
use Rattle.gate_tables.specs.declared.row.Rows.{Rows}

module _ {X : Type 0} (equal : X → X → Bool) (same : (x y : X) → IsTrue (equal x y) → x ≡ y) where
  pub alike : (xs ys : List X) → pointwise equal xs ys ≡ true → xs ≡ ys
  alike [] [] is = refl
  alike [] (y ∷ ys) is = cc is
  alike (x ∷ xs) [] is = cc is
  alike (x ∷ xs) (y ∷ ys) is =
      let first = same x y (first_so (equal x y) _ is) in
      let others = alike xs ys (second_so (equal x y) _ is) in
      λ i. first i ∷ others i

  pub alike_sorted : (xs ys us vs : List X) → IsPermutation xs us → IsPermutation ys vs → pointwise equal us vs ≡ true → IsPermutation xs ys
  alike_sorted xs ys us vs one other is =
      IsPermutation-trans xs us ys one (subst (λ sorted. IsPermutation sorted ys) (sym (alike us vs is)) (IsPermutation-sym ys vs other))

pub same_back : (a b : Rows) → AreSame a b → AreSame b a
same_back a b is = record {
  desk = IsPermutation-sym a.desk b.desk is.desk;
  people = IsPermutation-sym a.people b.people is.people;
  changes = IsPermutation-sym a.changes b.changes is.changes;
  marks = IsPermutation-sym a.marks b.marks is.marks;
  batches = IsPermutation-sym a.batches b.batches is.batches;
  members = IsPermutation-sym a.members b.members is.members;
  statuses = IsPermutation-sym a.statuses b.statuses is.statuses;
  wanted = IsPermutation-sym a.wanted b.wanted is.wanted;
}

pub same_then : (a b c : Rows) → AreSame a b → AreSame b c → AreSame a c
same_then a b c one other = record {
  desk = IsPermutation-trans a.desk b.desk c.desk one.desk other.desk;
  people = IsPermutation-trans a.people b.people c.people one.people other.people;
  changes = IsPermutation-trans a.changes b.changes c.changes one.changes other.changes;
  marks = IsPermutation-trans a.marks b.marks c.marks one.marks other.marks;
  batches = IsPermutation-trans a.batches b.batches c.batches one.batches other.batches;
  members = IsPermutation-trans a.members b.members c.members one.members other.members;
  statuses = IsPermutation-trans a.statuses b.statuses c.statuses one.statuses other.statuses;
  wanted = IsPermutation-trans a.wanted b.wanted c.wanted one.wanted other.wanted;
}

pub same_rows : (a b : Rows) → a ≡ b → AreSame a b
same_rows a b is = subst (AreSame a) is (record {
  desk = IsPermutation-refl a.desk;
  people = IsPermutation-refl a.people;
  changes = IsPermutation-refl a.changes;
  marks = IsPermutation-refl a.marks;
  batches = IsPermutation-refl a.batches;
  members = IsPermutation-refl a.members;
  statuses = IsPermutation-refl a.statuses;
  wanted = IsPermutation-refl a.wanted;
})
