-- Row changes, one after the other.
use Rattle.std.proofs.Common.{◌≡◌, List, [], ◌∷◌, ◌++◌, map, Bool, true, false, not, if◌then◌else◌, IsPermutation, refl, sym, subst, ◌∙◌}
use Rattle.std.specs.List.{list_any}
use Rattle.std.proofs.lemmas.List.Sorted.{IsPermutation-trans, IsPermutation-cons, IsPermutation-map, list_any-IsPermutation}
use Rattle.gate_tables.specs.Applied.{put, without, changed, applied}
use Rattle.gate_tables.specs.Contents.{AreSame, rows_at}
use Rattle.gate_tables.specs.Effects.{Changes}
use Rattle.gate_tables.specs.Forms.{Form}
use Rattle.gate_tables.specs.Keys.{key_of, has_key}
use Rattle.gate_tables.specs.declared.change.Row.TheVariants as row
use Rattle.gate_tables.specs.declared.change.RowChange.{RowChange}
use Rattle.gate_tables.specs.declared.change.RowChange.TheVariants.{Put, Delete}
use Rattle.gate_tables.specs.declared.change.RowKey.TheVariants as key
use Rattle.gate_tables.specs.declared.row.Rows.{Rows}
use Rattle.sqlite.specs.Order.{Row}
use Rattle.sqlite.specs.Tree.{Trees}
use Rattle.sqlite_trees.proofs.ListLemmas.{IsPermutation-filter}

module _ {R : Type 0} (form : Form R) where
  put_moved : (r : R) (xs ys : List R) → IsPermutation xs ys → IsPermutation (put form r xs) (put form r ys)
  put_moved r xs ys moved =
      let own = has_key form (key_of form r) in
      subst (λ (b : Bool). IsPermutation (put form r xs) (if b then map (λ x. if own x then r else x) ys else r ∷ ys)) (list_any-IsPermutation own xs ys moved) (step (list_any own xs))
    where
      step : (b : Bool) → IsPermutation (if b then map (λ x. if has_key form (key_of form r) x then r else x) xs else r ∷ xs) (if b then map (λ x. if has_key form (key_of form r) x then r else x) ys else r ∷ ys)
      step true = IsPermutation-map (λ x. if has_key form (key_of form r) x then r else x) xs ys moved
      step false = IsPermutation-cons r xs ys moved

  without_moved : (k : Row) (xs ys : List R) → IsPermutation xs ys → IsPermutation (without form k xs) (without form k ys)
  without_moved k xs ys moved = IsPermutation-filter (λ x. not (has_key form k x)) xs ys moved

-- the same rows in any order, changed, are the same
changed_same : (c : RowChange) (a b : Rows) → AreSame a b → AreSame (changed c a) (changed c b)
changed_same (Put (row.Desk r)) a b same = search put_moved
changed_same (Put _) a b same = search put_moved
changed_same (Delete (key.Desk one)) a b same = search without_moved
changed_same (Delete _) a b same = search without_moved

pub applied_same : (cs : List RowChange) (a b : Rows) → AreSame a b → AreSame (applied cs a) (applied cs b)
applied_same [] a b same = same
applied_same (c ∷ cs) a b same = applied_same cs (changed c a) (changed c b) (changed_same c a b same)

pub applied_both : (cs ds : List RowChange) (rows : Rows) → applied (cs ++ ds) rows ≡ applied ds (applied cs rows)
applied_both [] ds rows = refl
applied_both (c ∷ cs) ds rows = applied_both cs ds (changed c rows)

pub then_same : (a b c : Rows) → AreSame a b → AreSame b c → AreSame a c
then_same a b c p q = search IsPermutation-trans

-- one change more
pub changes_more : (cs : List RowChange) (c : RowChange) (old mid new : Trees) → Changes cs old mid → Changes (c ∷ []) mid new → Changes (cs ++ c ∷ []) old new
changes_more cs c old mid new p q = record {
  rows_are = subst (AreSame (rows_at new)) (sym (applied_both cs (c ∷ []) (rows_at old))) (then_same (rows_at new) (changed c (rows_at mid)) (changed c (applied cs (rows_at old))) q.rows_are (changed_same c (rows_at mid) (applied cs (rows_at old)) p.rows_are));
  answers = q.answers ∙ p.answers;
}
