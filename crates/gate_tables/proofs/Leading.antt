-- The differences of all rows, applied, lead from one to the other: the deletions table by table, and then the puts.
use Rattle.std.proofs.Common.{◌≡◌, List, [], ◌∷◌, ◌++◌, map, refl, sym, ap, subst, ◌∙◌}
use Rattle.gate_tables.proofs.Applying.{applied_both, applied_same, then_same}
use Rattle.gate_tables.proofs.Differing.{act_all, drop_all, put_all, table_leads}
use Rattle.gate_tables.specs.Applied.{put, without, applied, changed}
use Rattle.gate_tables.specs.Contents.{AreSame}
use Rattle.gate_tables.specs.Differences.{gone, differing, differences, LawOfDifferences}
use Rattle.gate_tables.specs.Forms as forms
use Rattle.gate_tables.specs.Forms.{Form}
use Rattle.gate_tables.specs.Keys.{key_of}
use Rattle.gate_tables.specs.Known.{IsKeyed}
use Rattle.gate_tables.specs.Desk as desk_texts
use Rattle.gate_tables.specs.People as people_texts
use Rattle.gate_tables.specs.Changes as changes_texts
use Rattle.gate_tables.specs.Marks as marks_texts
use Rattle.gate_tables.specs.Batches as batches_texts
use Rattle.gate_tables.specs.Members as members_texts
use Rattle.gate_tables.specs.Statuses as statuses_texts
use Rattle.gate_tables.specs.Wanted as wanted_texts
use Rattle.gate_tables.specs.declared.change.Row.TheVariants as row
use Rattle.gate_tables.specs.declared.change.RowChange.{RowChange}
use Rattle.gate_tables.specs.declared.change.RowChange.TheVariants.{Put, Delete}
use Rattle.gate_tables.specs.declared.change.RowKey.TheVariants as key
use Rattle.gate_tables.specs.declared.row.DeskRow.{DeskRow}
use Rattle.gate_tables.specs.declared.row.PersonRow.{PersonRow}
use Rattle.gate_tables.specs.declared.row.ChangeRow.{ChangeRow}
use Rattle.gate_tables.specs.declared.row.MarkRow.{MarkRow}
use Rattle.gate_tables.specs.declared.row.BatchRow.{BatchRow}
use Rattle.gate_tables.specs.declared.row.MemberRow.{MemberRow}
use Rattle.gate_tables.specs.declared.row.StatusRow.{StatusRow}
use Rattle.gate_tables.specs.declared.row.WantedRow.{WantedRow}
use Rattle.gate_tables.specs.declared.row.Rows.{Rows}

-- the rows of one table among all, and the changes of one of them
record Part (R : Type 0) : Type 0 where
  form : Form R
  keyed : IsKeyed form
  rows_in : Rows → List R
  over : (List R → List R) → Rows → Rows
  putting : R → RowChange
  deleting : R → RowChange
  nothing : (rows : Rows) → over (λ xs. xs) rows ≡ rows
  twice : (f g : List R → List R) (rows : Rows) → over f (over g rows) ≡ over (λ xs. f (g xs)) rows
  puts : (r : R) (rows : Rows) → changed (putting r) rows ≡ over (put form r) rows
  deletes : (r : R) (rows : Rows) → changed (deleting r) rows ≡ over (without form (key_of form r)) rows

-- row changes lead from some rows to others
record Leads (cs : List RowChange) (from to : Rows) : Type 0 where
  is : applied cs from ≡ to

none_lead : (rows : Rows) → Leads [] rows rows
none_lead rows = record { is = refl }

lead_on : {cs ds : List RowChange} {a b c : Rows} → Leads cs a b → Leads ds b c → Leads (cs ++ ds) a c
lead_on {cs} {ds} {a} p q = record { is = applied_both cs ds a ∙ ap (applied ds) p.is ∙ q.is }

module _ {R : Type 0} (part : Part R) where
  -- changes of one table, one after the other
  changes_lead : (change : R → RowChange) (act : R → List R → List R) → ((r : R) (rows : Rows) → changed (change r) rows ≡ part.over (act r) rows) → (rs : List R) (rows : Rows)
      → Leads (map change rs) rows (part.over (act_all act rs) rows)
  changes_lead change act each [] rows = record { is = sym (part.nothing rows) }
  changes_lead change act each (r ∷ rs) rows =
      record { is = ap (applied (map change rs)) (each r rows) ∙ (changes_lead change act each rs (part.over (act r) rows)).is ∙ part.twice (act_all act rs) (act r) rows }

  module _ (old new : Rows) where
    abbrev leaving : List R
    leaving = gone part.form (part.rows_in old) (part.rows_in new)

    abbrev arriving : List R
    arriving = differing part.form (part.rows_in old) (part.rows_in new)

    -- after some changes come the deletions in one table, or the puts into it
    then_deletes : {cs : List RowChange} {a b : Rows} → Leads cs a b → Leads (cs ++ map part.deleting leaving) a (part.over (drop_all part.form part.keyed leaving) b)
    then_deletes {b = b} so_far = lead_on so_far (changes_lead part.deleting (λ r. without part.form (key_of part.form r)) part.deletes leaving b)

    then_puts : {cs : List RowChange} {a b : Rows} → Leads cs a b → Leads (cs ++ map part.putting arriving) a (part.over (put_all part.form part.keyed arriving) b)
    then_puts {b = b} so_far = lead_on so_far (changes_lead part.putting (put part.form) part.puts arriving b)

abbrev desk_part : Part DeskRow
desk_part = record {
  form = forms.desk;
  keyed = desk_texts.keyed;
  rows_in = λ rows. rows.desk;
  over = λ f rows. record rows { desk = f rows.desk };
  putting = λ r. Put (row.Desk r);
  deleting = λ r. Delete (key.Desk r.one);
  nothing = λ rows. refl;
  twice = λ f g rows. refl;
  puts = λ r rows. refl;
  deletes = λ r rows. refl;
}

abbrev people_part : Part PersonRow
people_part = record {
  form = forms.people;
  keyed = people_texts.keyed;
  rows_in = λ rows. rows.people;
  over = λ f rows. record rows { people = f rows.people };
  putting = λ r. Put (row.People r);
  deleting = λ r. Delete (key.People r.name);
  nothing = λ rows. refl;
  twice = λ f g rows. refl;
  puts = λ r rows. refl;
  deletes = λ r rows. refl;
}

abbrev changes_part : Part ChangeRow
changes_part = record {
  form = forms.changes;
  keyed = changes_texts.keyed;
  rows_in = λ rows. rows.changes;
  over = λ f rows. record rows { changes = f rows.changes };
  putting = λ r. Put (row.Changes r);
  deleting = λ r. Delete (key.Changes r.number);
  nothing = λ rows. refl;
  twice = λ f g rows. refl;
  puts = λ r rows. refl;
  deletes = λ r rows. refl;
}

abbrev marks_part : Part MarkRow
marks_part = record {
  form = forms.marks;
  keyed = marks_texts.keyed;
  rows_in = λ rows. rows.marks;
  over = λ f rows. record rows { marks = f rows.marks };
  putting = λ r. Put (row.Marks r);
  deleting = λ r. Delete (key.Marks r.change_no r.kind r.word);
  nothing = λ rows. refl;
  twice = λ f g rows. refl;
  puts = λ r rows. refl;
  deletes = λ r rows. refl;
}

abbrev batches_part : Part BatchRow
batches_part = record {
  form = forms.batches;
  keyed = batches_texts.keyed;
  rows_in = λ rows. rows.batches;
  over = λ f rows. record rows { batches = f rows.batches };
  putting = λ r. Put (row.Batches r);
  deleting = λ r. Delete (key.Batches r.number);
  nothing = λ rows. refl;
  twice = λ f g rows. refl;
  puts = λ r rows. refl;
  deletes = λ r rows. refl;
}

abbrev members_part : Part MemberRow
members_part = record {
  form = forms.members;
  keyed = members_texts.keyed;
  rows_in = λ rows. rows.members;
  over = λ f rows. record rows { members = f rows.members };
  putting = λ r. Put (row.Members r);
  deleting = λ r. Delete (key.Members r.batch r.place);
  nothing = λ rows. refl;
  twice = λ f g rows. refl;
  puts = λ r rows. refl;
  deletes = λ r rows. refl;
}

abbrev statuses_part : Part StatusRow
statuses_part = record {
  form = forms.statuses;
  keyed = statuses_texts.keyed;
  rows_in = λ rows. rows.statuses;
  over = λ f rows. record rows { statuses = f rows.statuses };
  putting = λ r. Put (row.Statuses r);
  deleting = λ r. Delete (key.Statuses r.batch r.name);
  nothing = λ rows. refl;
  twice = λ f g rows. refl;
  puts = λ r rows. refl;
  deletes = λ r rows. refl;
}

abbrev wanted_part : Part WantedRow
wanted_part = record {
  form = forms.wanted;
  keyed = wanted_texts.keyed;
  rows_in = λ rows. rows.wanted;
  over = λ f rows. record rows { wanted = f rows.wanted };
  putting = λ r. Put (row.Wanted r);
  deleting = λ r. Delete (key.Wanted r.kind r.place);
  nothing = λ rows. refl;
  twice = λ f g rows. refl;
  puts = λ r rows. refl;
  deletes = λ r rows. refl;
}

pub differences_lead : LawOfDifferences
differences_lead old new rows was now same =
    let deleted = then_deletes wanted_part old new (then_deletes statuses_part old new (then_deletes members_part old new (then_deletes batches_part old new (then_deletes marks_part old new (then_deletes changes_part old new (then_deletes people_part old new (then_deletes desk_part old new (none_lead old)))))))) in
    let put = then_puts wanted_part old new (then_puts statuses_part old new (then_puts members_part old new (then_puts batches_part old new (then_puts marks_part old new (then_puts changes_part old new (then_puts people_part old new (then_puts desk_part old new (none_lead _)))))))) in
    let all = lead_on deleted put in
    then_same (applied (differences old new) rows) (applied (differences old new) old) new (applied_same (differences old new) rows old same) (subst (λ to. AreSame to new) (sym all.is) (record {
      desk = table_leads forms.desk desk_texts.keyed old.desk new.desk was.desk now.desk;
      people = table_leads forms.people people_texts.keyed old.people new.people was.people now.people;
      changes = table_leads forms.changes changes_texts.keyed old.changes new.changes was.changes now.changes;
      marks = table_leads forms.marks marks_texts.keyed old.marks new.marks was.marks now.marks;
      batches = table_leads forms.batches batches_texts.keyed old.batches new.batches was.batches now.batches;
      members = table_leads forms.members members_texts.keyed old.members new.members was.members now.members;
      statuses = table_leads forms.statuses statuses_texts.keyed old.statuses new.statuses was.statuses now.statuses;
      wanted = table_leads forms.wanted wanted_texts.keyed old.wanted new.wanted was.wanted now.wanted;
    }))
