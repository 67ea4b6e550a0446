-- The statements that make the tables, understood.
use Rattle.std.proofs.Common.{ℕ, List, take, codes, refl}
use Rattle.gate_tables.specs.Database as database
use Rattle.gate_tables.specs.Database.{all_layouts, schema_of}
use Rattle.gate_tables.specs.Known.{Creates}
use Rattle.sqlite.specs.Listing.{understood}
use Rattle.sqlite.specs.Schema.{Schema}
use Rattle.sqlite_tied.specs.Compute.{everything}

-- the database once the first tables are made
abbrev pub after_first : ℕ → Schema
after_first count = schema_of (take count all_layouts)

abbrev pub desk_text : List ℕ
desk_text = codes "CREATE TABLE desk (one INTEGER NOT NULL, version INTEGER NOT NULL, next_batch INTEGER NOT NULL, clock INTEGER NOT NULL, base TEXT NOT NULL, timeout_sec INTEGER NOT NULL, required_approvals INTEGER NOT NULL, max_batch_size INTEGER NOT NULL, PRIMARY KEY (one)) STRICT"

pub desk : Creates (after_first 0) database.desk (after_first 1) desk_text
unfolding understood everything
desk = record { is = refl; plain = (refl, refl); whole = refl; defined = refl; made = refl; uncounted = refl; next = refl; tables = refl }

abbrev pub people_text : List ℕ
people_text = codes "CREATE TABLE people (name TEXT NOT NULL, role INTEGER NOT NULL, PRIMARY KEY (name)) STRICT"

pub people : Creates (after_first 1) database.people (after_first 2) people_text
unfolding understood everything
people = record { is = refl; plain = (refl, refl); whole = refl; defined = refl; made = refl; uncounted = refl; next = refl; tables = refl }

abbrev pub changes_text : List ℕ
changes_text = codes "CREATE TABLE changes (number INTEGER NOT NULL, author TEXT NOT NULL, head TEXT NOT NULL, phase INTEGER NOT NULL, priority INTEGER NOT NULL, approved INTEGER NOT NULL, last_command INTEGER NOT NULL, PRIMARY KEY (number)) STRICT"

pub changes : Creates (after_first 2) database.changes (after_first 3) changes_text
unfolding understood everything
changes = record { is = refl; plain = (refl, refl); whole = refl; defined = refl; made = refl; uncounted = refl; next = refl; tables = refl }

abbrev pub marks_text : List ℕ
marks_text = codes "CREATE TABLE marks (change_no INTEGER NOT NULL, kind INTEGER NOT NULL, word TEXT NOT NULL, place INTEGER NOT NULL, PRIMARY KEY (change_no, kind, word)) STRICT"

pub marks : Creates (after_first 3) database.marks (after_first 4) marks_text
unfolding understood everything
marks = record { is = refl; plain = (refl, refl); whole = refl; defined = refl; made = refl; uncounted = refl; next = refl; tables = refl }

abbrev pub batches_text : List ℕ
batches_text = codes "CREATE TABLE batches (number INTEGER NOT NULL, branch INTEGER NOT NULL, priority INTEGER NOT NULL, again INTEGER NOT NULL, phase INTEGER NOT NULL, since INTEGER NOT NULL, sha TEXT NOT NULL, PRIMARY KEY (number)) STRICT"

pub batches : Creates (after_first 4) database.batches (after_first 5) batches_text
unfolding understood everything
batches = record { is = refl; plain = (refl, refl); whole = refl; defined = refl; made = refl; uncounted = refl; next = refl; tables = refl }

abbrev pub members_text : List ℕ
members_text = codes "CREATE TABLE members (batch INTEGER NOT NULL, place INTEGER NOT NULL, change_no INTEGER NOT NULL, PRIMARY KEY (batch, place)) STRICT"

pub members : Creates (after_first 5) database.members (after_first 6) members_text
unfolding understood everything
members = record { is = refl; plain = (refl, refl); whole = refl; defined = refl; made = refl; uncounted = refl; next = refl; tables = refl }

abbrev pub statuses_text : List ℕ
statuses_text = codes "CREATE TABLE statuses (batch INTEGER NOT NULL, name TEXT NOT NULL, report INTEGER NOT NULL, PRIMARY KEY (batch, name)) STRICT"

pub statuses : Creates (after_first 6) database.statuses (after_first 7) statuses_text
unfolding understood everything
statuses = record { is = refl; plain = (refl, refl); whole = refl; defined = refl; made = refl; uncounted = refl; next = refl; tables = refl }

abbrev pub answers_text : List ℕ
answers_text = codes "CREATE TABLE answers (id TEXT NOT NULL, body TEXT NOT NULL, PRIMARY KEY (id)) STRICT"

pub answers : Creates (after_first 7) database.answers (after_first 8) answers_text
unfolding understood everything
answers = record { is = refl; plain = (refl, refl); whole = refl; defined = refl; made = refl; uncounted = refl; next = refl; tables = refl }

abbrev pub wanted_text : List ℕ
wanted_text = codes "CREATE TABLE wanted (kind INTEGER NOT NULL, place INTEGER NOT NULL, word TEXT NOT NULL, PRIMARY KEY (kind, place)) STRICT"

pub wanted : Creates (after_first 8) database.wanted (after_first 9) wanted_text
unfolding understood everything
wanted = record { is = refl; plain = (refl, refl); whole = refl; defined = refl; made = refl; uncounted = refl; next = refl; tables = refl }
