-- THE ROW CHANGES THAT LEAD FROM ROWS TO OTHERS: deletions of those that are gone, then puts of those that are new or differ.
use Rattle.std.specs.Prelude.{Bool, not, List, ◌++◌, map, filter}
use Rattle.std.specs.List.{list_any}
use Rattle.gate_tables.specs.Apart.{AreApartBy}
use Rattle.gate_tables.specs.Applied.{applied}
use Rattle.gate_tables.specs.Contents.{AreSame}
use Rattle.gate_tables.specs.Forms as forms
use Rattle.gate_tables.specs.Forms.{Form}
use Rattle.gate_tables.specs.Keys.{key_of, begin_with, has_key}
use Rattle.gate_tables.specs.declared.change.Row.TheVariants as row
use Rattle.gate_tables.specs.declared.change.RowChange.{RowChange}
use Rattle.gate_tables.specs.declared.change.RowChange.TheVariants.{Put, Delete}
use Rattle.gate_tables.specs.declared.change.RowKey.TheVariants as key
use Rattle.gate_tables.specs.declared.row.Rows.{Rows}

-- the rows of a list whose key the other doesn't have
abbrev pub gone : {R : Type 0} → Form R → List R → List R → List R
gone form old new = filter (λ r. not (list_any (has_key form (key_of form r)) new)) old

-- whether two rows agree in every column
abbrev pub is_same : {R : Type 0} → Form R → R → R → Bool
is_same form r x = begin_with (form.values r) (form.values x)

-- the rows of a list that the other doesn't have as they are
abbrev pub differing : {R : Type 0} → Form R → List R → List R → List R
differing form old new = filter (λ r. not (list_any (is_same form r) old)) new

-- in the order of the tables
abbrev pub deletions : Rows → Rows → List RowChange
deletions old new =
    map (λ r. Delete (key.Desk r.one)) (gone forms.desk old.desk new.desk)
    ++ map (λ r. Delete (key.People r.name)) (gone forms.people old.people new.people)
    ++ map (λ r. Delete (key.Changes r.number)) (gone forms.changes old.changes new.changes)
    ++ map (λ r. Delete (key.Marks r.change_no r.kind r.word)) (gone forms.marks old.marks new.marks)
    ++ map (λ r. Delete (key.Batches r.number)) (gone forms.batches old.batches new.batches)
    ++ map (λ r. Delete (key.Members r.batch r.place)) (gone forms.members old.members new.members)
    ++ map (λ r. Delete (key.Statuses r.batch r.name)) (gone forms.statuses old.statuses new.statuses)
    ++ map (λ r. Delete (key.Wanted r.kind r.place)) (gone forms.wanted old.wanted new.wanted)

abbrev pub puts : Rows → Rows → List RowChange
puts old new =
    map (λ r. Put (row.Desk r)) (differing forms.desk old.desk new.desk)
    ++ map (λ r. Put (row.People r)) (differing forms.people old.people new.people)
    ++ map (λ r. Put (row.Changes r)) (differing forms.changes old.changes new.changes)
    ++ map (λ r. Put (row.Marks r)) (differing forms.marks old.marks new.marks)
    ++ map (λ r. Put (row.Batches r)) (differing forms.batches old.batches new.batches)
    ++ map (λ r. Put (row.Members r)) (differing forms.members old.members new.members)
    ++ map (λ r. Put (row.Statuses r)) (differing forms.statuses old.statuses new.statuses)
    ++ map (λ r. Put (row.Wanted r)) (differing forms.wanted old.wanted new.wanted)

abbrev pub differences : Rows → Rows → List RowChange
differences old new = deletions old new ++ puts old new

-- no two rows of a table have one key
abbrev pub AreApart : {R : Type 0} → Form R → List R → Type 0
AreApart form rows = AreApartBy (key_of form) rows

pub record HaveKeys (rows : Rows) : Type 0 where
  pub desk : AreApart forms.desk rows.desk
  pub people : AreApart forms.people rows.people
  pub changes : AreApart forms.changes rows.changes
  pub marks : AreApart forms.marks rows.marks
  pub batches : AreApart forms.batches rows.batches
  pub members : AreApart forms.members rows.members
  pub statuses : AreApart forms.statuses rows.statuses
  pub wanted : AreApart forms.wanted rows.wanted

-- The differences, applied to the first in any order, lead to the second.
abbrev pub LawOfDifferences : Type 0
LawOfDifferences = (old new rows : Rows) → HaveKeys old → HaveKeys new → AreSame rows old → AreSame (applied (differences old new) rows) new

-- some rows, and others beside them
abbrev pub with_others : Rows → Rows → Rows
with_others rows others = record {
  desk = rows.desk ++ others.desk;
  people = rows.people ++ others.people;
  changes = rows.changes ++ others.changes;
  marks = rows.marks ++ others.marks;
  batches = rows.batches ++ others.batches;
  members = rows.members ++ others.members;
  statuses = rows.statuses ++ others.statuses;
  wanted = rows.wanted ++ others.wanted;
}

-- The differences of parts suffice: if both have the same others beside them, they lead from the one with these to the other with these.
abbrev pub LawOfParts : Type 0
LawOfParts = (old new others rows : Rows) → HaveKeys (with_others old others) → HaveKeys (with_others new others) → AreSame rows (with_others old others)
    → AreSame (applied (differences old new) rows) (with_others new others)
