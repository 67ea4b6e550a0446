-- All rows by key: they are the same rows, and have different keys if they had. So the differences between two of them lead from the
-- rows of the one, in any order, to those of the other.
use Rattle.gate_rows.proofs.Alike.{same_back, same_then}
use Rattle.gate_rows.proofs.ByKey.{by_key_apart, by_key_moved}
use Rattle.gate_rows.specs.Changed.{by_keys}
use Rattle.gate_tables.specs.Batches as batches_texts
use Rattle.gate_tables.specs.Changes as changes_texts
use Rattle.gate_tables.specs.Applied.{applied, no_rows}
use Rattle.gate_tables.specs.Contents.{AreSame}
use Rattle.gate_tables.specs.Desk as desk_texts
use Rattle.gate_tables.specs.Differences.{HaveKeys, LawOfDifferences, differences}
use Rattle.gate_tables.specs.Forms as forms
use Rattle.gate_tables.specs.Marks as marks_texts
use Rattle.gate_tables.specs.Members as members_texts
use Rattle.gate_tables.specs.People as people_texts
use Rattle.gate_tables.specs.Statuses as statuses_texts
use Rattle.gate_tables.specs.Wanted as wanted_texts
use Rattle.gate_tables.specs.declared.row.Rows.{Rows}

pub same_by_keys : (rows : Rows) → AreSame rows (by_keys rows)
same_by_keys rows = record {
  desk = by_key_moved forms.desk rows.desk;
  people = by_key_moved forms.people rows.people;
  changes = by_key_moved forms.changes rows.changes;
  marks = by_key_moved forms.marks rows.marks;
  batches = by_key_moved forms.batches rows.batches;
  members = by_key_moved forms.members rows.members;
  statuses = by_key_moved forms.statuses rows.statuses;
  wanted = by_key_moved forms.wanted rows.wanted;
}

pub keys_by_keys : (rows : Rows) → HaveKeys rows → HaveKeys (by_keys rows)
keys_by_keys rows keys = record {
  desk = by_key_apart forms.desk desk_texts.keyed rows.desk keys.desk;
  people = by_key_apart forms.people people_texts.keyed rows.people keys.people;
  changes = by_key_apart forms.changes changes_texts.keyed rows.changes keys.changes;
  marks = by_key_apart forms.marks marks_texts.keyed rows.marks keys.marks;
  batches = by_key_apart forms.batches batches_texts.keyed rows.batches keys.batches;
  members = by_key_apart forms.members members_texts.keyed rows.members keys.members;
  statuses = by_key_apart forms.statuses statuses_texts.keyed rows.statuses keys.statuses;
  wanted = by_key_apart forms.wanted wanted_texts.keyed rows.wanted keys.wanted;
}

pub led_by_keys : LawOfDifferences → (was now rows : Rows) → HaveKeys was → HaveKeys now → AreSame rows was → AreSame (applied (differences (by_keys was) (by_keys now)) rows) now
led_by_keys law was now rows was_apart now_apart same =
    let led = law (by_keys was) (by_keys now) rows (keys_by_keys was was_apart) (keys_by_keys now now_apart) (same_then rows was (by_keys was) same (same_by_keys was)) in
    same_then _ (by_keys now) now led (same_back now (by_keys now) (same_by_keys now))

pub none_have_keys : HaveKeys no_rows
none_have_keys = record { desk = tt; people = tt; changes = tt; marks = tt; batches = tt; members = tt; statuses = tt; wanted = tt }
