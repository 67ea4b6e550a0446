-- Rows that are in two lists alike don't tell in their differences: what leads from the parts that differ to others leads from the whole
-- to the whole.
use Rattle.std.proofs.Common.{◌≡◌, ◌≢◌, List, [], ◌∷◌, ◌++◌, Bool, true, false, not, ◌||◌, cond, filter, map, refl, sym, ap, subst, ◌∙◌, append_assoc}
use Rattle.std.proofs.Math.Bool.{or-false, or-true}
use Rattle.std.proofs.lemmas.List.{append-nil}
use Rattle.std.proofs.lemmas.List.Elements.{filter-append}
use Rattle.std.proofs.lemmas.List.Folds.{list_any-append}
use Rattle.std.specs.List.{AllByRecursion, list_any}
use Rattle.gate_tables.proofs.Differing.{alike_is, own, same_as_itself, same_is}
use Rattle.gate_tables.proofs.Leading.{differences_lead}
use Rattle.gate_tables.specs.Applied.{applied}
use Rattle.gate_tables.specs.Batches as batches_texts
use Rattle.gate_tables.specs.Changes as changes_texts
use Rattle.gate_tables.specs.Contents.{AreSame}
use Rattle.gate_tables.specs.Desk as desk_texts
use Rattle.gate_tables.specs.Differences.{gone, differing, is_same, deletions, puts, AreApart, HaveKeys, with_others, LawOfParts}
use Rattle.gate_tables.specs.Forms as forms
use Rattle.gate_tables.specs.Forms.{Form}
use Rattle.gate_tables.specs.Keys.{key_of, has_key}
use Rattle.gate_tables.specs.Known.{IsKeyed}
use Rattle.gate_tables.specs.Marks as marks_texts
use Rattle.gate_tables.specs.Members as members_texts
use Rattle.gate_tables.specs.People as people_texts
use Rattle.gate_tables.specs.Statuses as statuses_texts
use Rattle.gate_tables.specs.Wanted as wanted_texts
use Rattle.gate_tables.specs.declared.change.Row.TheVariants as row
use Rattle.gate_tables.specs.declared.change.RowChange.TheVariants.{Put, Delete}
use Rattle.gate_tables.specs.declared.change.RowKey.TheVariants as key
use Rattle.gate_tables.specs.declared.row.Rows.{Rows}
use Rattle.sqlite_trees.proofs.TreeLemmas.{not_true}

-- what of a list has no match in another
abbrev lacking : {R : Type 0} → (R → R → Bool) → List R → List R → List R
lacking match rows others = filter (λ r. not (list_any (match r) others)) rows

-- Rows match only those of their own key, and themselves.
module _ {R : Type 0} (form : Form R) (match : R → R → Bool) (of_key : (r x : R) → match r x ≡ true → key_of form x ≡ key_of form r) (itself : (r : R) → match r r ≡ true) where
  -- a row in front of others of other keys matches none of them
  unmatched : (r : R) (ys : List R) → AllByRecursion (λ y. key_of form y ≢ key_of form r) ys → list_any (match r) ys ≡ false
  unmatched r [] all = refl
  unmatched r (y ∷ ys) all = ap (λ (b : Bool). b || list_any (match r) ys) (not_true (match r y) (λ is. all.0 (of_key r y is))) ∙ unmatched r ys all.1

  later : (P : R → Type 0) (xs ys : List R) → AllByRecursion P (xs ++ ys) → AllByRecursion P ys
  later P [] ys all = all
  later P (x ∷ xs) ys all = later P xs ys all.1

  -- so a match among others isn't needed
  beside : (xs now others : List R) → AreApart form (xs ++ others) → lacking match xs (now ++ others) ≡ lacking match xs now
  beside [] now others apart = refl
  beside (x ∷ xs) now others apart =
      let own_only = list_any-append (match x) now others ∙ ap (λ (b : Bool). list_any (match x) now || b) (unmatched x others (later (λ y. key_of form y ≢ key_of form x) xs others apart.0)) ∙ or-false (list_any (match x) now) in
      λ i. cond (not (own_only i)) (x ∷ beside xs now others apart.1 i) (beside xs now others apart.1 i)

  -- and each of the others has a match
  found : (before : List R) (x : R) (after : List R) → list_any (match x) (before ++ x ∷ after) ≡ true
  found [] x after = ap (λ (b : Bool). b || list_any (match x) after) (itself x)
  found (y ∷ before) x after = ap (λ (b : Bool). match x y || b) (found before x after) ∙ or-true (match x y)

  none_left : (before others : List R) → lacking match others (before ++ others) ≡ []
  none_left before [] = refl
  none_left before (x ∷ others) =
      ap (λ (b : Bool). cond (not b) (x ∷ lacking match others (before ++ x ∷ others)) (lacking match others (before ++ x ∷ others))) (found before x others)
      ∙ ap (lacking match others) (sym (append_assoc before (x ∷ []) others)) ∙ none_left (before ++ x ∷ []) others

  pub alone : (was now others : List R) → AreApart form (was ++ others) → lacking match (was ++ others) (now ++ others) ≡ lacking match was now
  alone was now others apart =
      filter-append (λ r. not (list_any (match r) (now ++ others))) was others
      ∙ (λ i. beside was now others apart i ++ none_left now others i) ∙ append-nil (lacking match was now)

module _ {R : Type 0} (form : Form R) (known : IsKeyed form) (was now others : List R) where
  gone_alone : AreApart form (was ++ others) → gone form (was ++ others) (now ++ others) ≡ gone form was now
  gone_alone = alone form (λ r x. has_key form (key_of form r) x) (alike_is form known) (own form known) was now others

  differing_alone : AreApart form (now ++ others) → differing form (was ++ others) (now ++ others) ≡ differing form was now
  differing_alone = alone form (is_same form) (λ r x is. ap (key_of form) (sym (same_is form known r x is))) (same_as_itself form known) now was others

module _ (old new others : Rows) (was : HaveKeys (with_others old others)) (now : HaveKeys (with_others new others)) where
  deletions_alone : deletions (with_others old others) (with_others new others) ≡ deletions old new
  deletions_alone = λ i.
      map (λ r. Delete (key.Desk r.one)) (gone_alone forms.desk desk_texts.keyed old.desk new.desk others.desk was.desk i)
      ++ map (λ r. Delete (key.People r.name)) (gone_alone forms.people people_texts.keyed old.people new.people others.people was.people i)
      ++ map (λ r. Delete (key.Changes r.number)) (gone_alone forms.changes changes_texts.keyed old.changes new.changes others.changes was.changes i)
      ++ map (λ r. Delete (key.Marks r.change_no r.kind r.word)) (gone_alone forms.marks marks_texts.keyed old.marks new.marks others.marks was.marks i)
      ++ map (λ r. Delete (key.Batches r.number)) (gone_alone forms.batches batches_texts.keyed old.batches new.batches others.batches was.batches i)
      ++ map (λ r. Delete (key.Members r.batch r.place)) (gone_alone forms.members members_texts.keyed old.members new.members others.members was.members i)
      ++ map (λ r. Delete (key.Statuses r.batch r.name)) (gone_alone forms.statuses statuses_texts.keyed old.statuses new.statuses others.statuses was.statuses i)
      ++ map (λ r. Delete (key.Wanted r.kind r.place)) (gone_alone forms.wanted wanted_texts.keyed old.wanted new.wanted others.wanted was.wanted i)

  puts_alone : puts (with_others old others) (with_others new others) ≡ puts old new
  puts_alone = λ i.
      map (λ r. Put (row.Desk r)) (differing_alone forms.desk desk_texts.keyed old.desk new.desk others.desk now.desk i)
      ++ map (λ r. Put (row.People r)) (differing_alone forms.people people_texts.keyed old.people new.people others.people now.people i)
      ++ map (λ r. Put (row.Changes r)) (differing_alone forms.changes changes_texts.keyed old.changes new.changes others.changes now.changes i)
      ++ map (λ r. Put (row.Marks r)) (differing_alone forms.marks marks_texts.keyed old.marks new.marks others.marks now.marks i)
      ++ map (λ r. Put (row.Batches r)) (differing_alone forms.batches batches_texts.keyed old.batches new.batches others.batches now.batches i)
      ++ map (λ r. Put (row.Members r)) (differing_alone forms.members members_texts.keyed old.members new.members others.members now.members i)
      ++ map (λ r. Put (row.Statuses r)) (differing_alone forms.statuses statuses_texts.keyed old.statuses new.statuses others.statuses now.statuses i)
      ++ map (λ r. Put (row.Wanted r)) (differing_alone forms.wanted wanted_texts.keyed old.wanted new.wanted others.wanted now.wanted i)

pub parts_lead : LawOfParts
parts_lead old new others rows was now same =
    subst (λ changes. AreSame (applied changes rows) (with_others new others)) (λ i. deletions_alone old new others was now i ++ puts_alone old new others was now i)
    (differences_lead (with_others old others) (with_others new others) rows was now same)
