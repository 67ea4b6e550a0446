-- Rows of version 1 stand as marks or among what is wanted: one after the other, in any order.
use Rattle.std.proofs.Common.{List, [], ◌∷◌, ◌++◌, map, pos, sym, ap, subst, ◌∙◌, append_assoc}
use Rattle.std.proofs.lemmas.List.{map-append}
use Rattle.std.proofs.lemmas.List.Sorted.{IsPermutation-append, IsPermutation-append_left, IsPermutation-map, IsPermutation-middle, IsPermutation-refl, IsPermutation-sym, IsPermutation-to_front, IsPermutation-trans}
use Rattle.std.specs.Prelude.{IsPermutation}
use Rattle.gate_rows.specs.FirstRows.{as_mark, in_first, with_version}
use Rattle.gate_tables.specs.Contents.{AreSame}
use Rattle.gate_tables.specs.declared.row.MarkRow.{MarkRow}
use Rattle.gate_tables.specs.declared.row.Rows.{Rows}
use Rattle.gate_tables.specs.declared.row.WantedRow.{WantedRow}

-- what stands in version 1 in place of these
abbrev pub first_marks : List MarkRow → List WantedRow → List MarkRow
first_marks kept wanted = kept ++ map as_mark wanted

pub one_kept : (kept : List MarkRow) (wanted : List WantedRow) (row : MarkRow) → IsPermutation (row ∷ first_marks kept wanted) (first_marks (kept ++ row ∷ []) wanted)
one_kept kept wanted row =
    subst (IsPermutation (row ∷ first_marks kept wanted)) (sym (append_assoc kept (row ∷ []) (map as_mark wanted)))
    (IsPermutation-sym (kept ++ row ∷ map as_mark wanted) (row ∷ first_marks kept wanted) (IsPermutation-middle kept row (map as_mark wanted)))

pub one_wanted : (kept : List MarkRow) (wanted : List WantedRow) (row : WantedRow) → IsPermutation (as_mark row ∷ first_marks kept wanted) (first_marks kept (wanted ++ row ∷ []))
one_wanted kept wanted row =
    let last = append_assoc kept (map as_mark wanted) (as_mark row ∷ []) ∙ ap (λ (rows : List MarkRow). kept ++ rows) (sym (map-append as_mark wanted (row ∷ []))) in
    subst (IsPermutation (as_mark row ∷ first_marks kept wanted)) last
    (IsPermutation-sym (first_marks kept wanted ++ as_mark row ∷ []) (as_mark row ∷ first_marks kept wanted) (IsPermutation-to_front (first_marks kept wanted) (as_mark row)))

-- one more of what is left
pub one_more : (all done next : List MarkRow) (row : MarkRow) (rest : List MarkRow) → IsPermutation all (done ++ row ∷ rest) → IsPermutation (row ∷ done) next → IsPermutation all (next ++ rest)
one_more all done next row rest before put =
    IsPermutation-trans all (done ++ row ∷ rest) (next ++ rest) before
    (IsPermutation-trans (done ++ row ∷ rest) (row ∷ (done ++ rest)) (next ++ rest) (IsPermutation-middle done row rest) (IsPermutation-append_left rest (row ∷ done) next put))

-- the rows of version 1 that stand for the same rows in another order
pub first_same : (a b : Rows) → AreSame a b → AreSame (in_first a) (in_first b)
first_same a b same = record {
  desk = IsPermutation-map (with_version (pos 1)) a.desk b.desk same.desk;
  people = same.people;
  changes = same.changes;
  marks = IsPermutation-append a.marks b.marks (map as_mark a.wanted) (map as_mark b.wanted) same.marks (IsPermutation-map as_mark a.wanted b.wanted same.wanted);
  batches = same.batches;
  members = same.members;
  statuses = same.statuses;
  wanted = IsPermutation-refl [];
}
