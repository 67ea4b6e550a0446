-- THE FORMS: how the rows of a table are seen as records, and the statements on them.
use Rattle.std.specs.Prelude.{ℕ, List, [], ◌∷◌, map, codes}
use Rattle.gate_tables.specs.Database as database
use Rattle.gate_tables.specs.Database.{Layout, cells}
use Rattle.gate_tables.specs.declared.row.BatchRow.{BatchRow}
use Rattle.gate_tables.specs.declared.row.ChangeRow.{ChangeRow}
use Rattle.gate_tables.specs.declared.row.DeskRow.{DeskRow}
use Rattle.gate_tables.specs.declared.row.MarkRow.{MarkRow}
use Rattle.gate_tables.specs.declared.row.MemberRow.{MemberRow}
use Rattle.gate_tables.specs.declared.row.PersonRow.{PersonRow}
use Rattle.gate_tables.specs.declared.row.StatusRow.{StatusRow}
use Rattle.gate_tables.specs.declared.row.WantedRow.{WantedRow}
use Rattle.sqlite.specs.Edit.{id_in}
use Rattle.sqlite.specs.Order.{Row, column, bytes}
use Rattle.sqlite.specs.Tree.{Trees}
use Rattle.sqlite.specs.declared.types.Value.TheVariants.{Int, Text}

pub record Form (R : Type 0) : Type 0 where
  pub layout : Layout
  -- the place of the table among all
  pub at : ℕ
  pub insert : List ℕ
  -- which asks for all rows, each with its rowid behind its columns
  pub select : List ℕ
  -- the columns of a record, and the record of some columns
  pub values : R → Row
  pub read : Row → R

-- the rows of a table as records
abbrev pub rows_of : {R : Type 0} → Form R → Trees → List R
rows_of form db = map form.read (cells form.layout db)

abbrev pub desk : Form DeskRow
desk = record {
  layout = database.desk;
  at = 0;
  insert = codes "INSERT INTO desk (one, version, next_batch, clock, base, timeout_sec, required_approvals, max_batch_size) VALUES (?1, ?2, ?3, ?4, ?5, ?6, ?7, ?8)";
  select = codes "SELECT one, version, next_batch, clock, base, timeout_sec, required_approvals, max_batch_size, rowid FROM desk";
  values = λ r. Int r.one ∷ Int r.version ∷ Int r.next_batch ∷ Int r.clock ∷ Text r.base ∷ Int r.timeout_sec ∷ Int r.required_approvals ∷ Int r.max_batch_size ∷ [];
  read = λ c. record { one = id_in (column c 0); version = id_in (column c 1); next_batch = id_in (column c 2); clock = id_in (column c 3); base = bytes (column c 4); timeout_sec = id_in (column c 5); required_approvals = id_in (column c 6); max_batch_size = id_in (column c 7) };
}

abbrev pub people : Form PersonRow
people = record {
  layout = database.people;
  at = 1;
  insert = codes "INSERT INTO people (name, role) VALUES (?1, ?2)";
  select = codes "SELECT name, role, rowid FROM people";
  values = λ r. Text r.name ∷ Int r.role ∷ [];
  read = λ c. record { name = bytes (column c 0); role = id_in (column c 1) };
}

abbrev pub changes : Form ChangeRow
changes = record {
  layout = database.changes;
  at = 2;
  insert = codes "INSERT INTO changes (number, author, head, phase, priority, approved, last_command) VALUES (?1, ?2, ?3, ?4, ?5, ?6, ?7)";
  select = codes "SELECT number, author, head, phase, priority, approved, last_command, rowid FROM changes";
  values = λ r. Int r.number ∷ Text r.author ∷ Text r.head ∷ Int r.phase ∷ Int r.priority ∷ Int r.approved ∷ Int r.last_command ∷ [];
  read = λ c. record { number = id_in (column c 0); author = bytes (column c 1); head = bytes (column c 2); phase = id_in (column c 3); priority = id_in (column c 4); approved = id_in (column c 5); last_command = id_in (column c 6) };
}

abbrev pub marks : Form MarkRow
marks = record {
  layout = database.marks;
  at = 3;
  insert = codes "INSERT INTO marks (change_no, kind, word, place) VALUES (?1, ?2, ?3, ?4)";
  select = codes "SELECT change_no, kind, word, place, rowid FROM marks";
  values = λ r. Int r.change_no ∷ Int r.kind ∷ Text r.word ∷ Int r.place ∷ [];
  read = λ c. record { change_no = id_in (column c 0); kind = id_in (column c 1); word = bytes (column c 2); place = id_in (column c 3) };
}

abbrev pub batches : Form BatchRow
batches = record {
  layout = database.batches;
  at = 4;
  insert = codes "INSERT INTO batches (number, branch, priority, again, phase, since, sha) VALUES (?1, ?2, ?3, ?4, ?5, ?6, ?7)";
  select = codes "SELECT number, branch, priority, again, phase, since, sha, rowid FROM batches";
  values = λ r. Int r.number ∷ Int r.branch ∷ Int r.priority ∷ Int r.again ∷ Int r.phase ∷ Int r.since ∷ Text r.sha ∷ [];
  read = λ c. record { number = id_in (column c 0); branch = id_in (column c 1); priority = id_in (column c 2); again = id_in (column c 3); phase = id_in (column c 4); since = id_in (column c 5); sha = bytes (column c 6) };
}

abbrev pub members : Form MemberRow
members = record {
  layout = database.members;
  at = 5;
  insert = codes "INSERT INTO members (batch, place, change_no) VALUES (?1, ?2, ?3)";
  select = codes "SELECT batch, place, change_no, rowid FROM members";
  values = λ r. Int r.batch ∷ Int r.place ∷ Int r.change_no ∷ [];
  read = λ c. record { batch = id_in (column c 0); place = id_in (column c 1); change_no = id_in (column c 2) };
}

abbrev pub statuses : Form StatusRow
statuses = record {
  layout = database.statuses;
  at = 6;
  insert = codes "INSERT INTO statuses (batch, name, report) VALUES (?1, ?2, ?3)";
  select = codes "SELECT batch, name, report, rowid FROM statuses";
  values = λ r. Int r.batch ∷ Text r.name ∷ Int r.report ∷ [];
  read = λ c. record { batch = id_in (column c 0); name = bytes (column c 1); report = id_in (column c 2) };
}

abbrev pub wanted : Form WantedRow
wanted = record {
  layout = database.wanted;
  at = 8;
  insert = codes "INSERT INTO wanted (kind, place, word) VALUES (?1, ?2, ?3)";
  select = codes "SELECT kind, place, word, rowid FROM wanted";
  values = λ r. Int r.kind ∷ Int r.place ∷ Text r.word ∷ [];
  read = λ c. record { kind = id_in (column c 0); place = id_in (column c 1); word = bytes (column c 2) };
}

-- an answer under its identifier
abbrev pub answers : Form (List ℕ × List ℕ)
answers = record {
  layout = database.answers;
  at = 7;
  insert = codes "INSERT INTO answers (id, body) VALUES (?1, ?2)";
  select = codes "SELECT id, body, rowid FROM answers";
  values = λ r. Text r.0 ∷ Text r.1 ∷ [];
  read = λ c. (bytes (column c 0), bytes (column c 1));
}
