-- THE CONTENTS: what rows and what answers a database has.
use Rattle.std.specs.Prelude.{ℕ, List, IsPermutation}
use Rattle.std.specs.Cmp.Lexicographic.{slice_cmp}
use Rattle.std.specs.FinMap.{FinMap, from_entries}
use Rattle.std.specs.Ordering.{nat_cmp}
use Rattle.gate_tables.specs.Forms as forms
use Rattle.gate_tables.specs.Forms.{rows_of}
use Rattle.gate_tables.specs.declared.row.Rows.{Rows}
use Rattle.sqlite.specs.Tree.{Trees}

abbrev pub rows_at : Trees → Rows
rows_at db = record {
  desk = rows_of forms.desk db;
  people = rows_of forms.people db;
  changes = rows_of forms.changes db;
  marks = rows_of forms.marks db;
  batches = rows_of forms.batches db;
  members = rows_of forms.members db;
  statuses = rows_of forms.statuses db;
  wanted = rows_of forms.wanted db;
}

-- the answer under each identifier
abbrev pub answers_at : Trees → FinMap (slice_cmp nat_cmp) (List ℕ)
answers_at db = from_entries (rows_of forms.answers db)

-- the same rows in each table, in any order
pub record AreSame (a b : Rows) : Type 0 where
  pub desk : IsPermutation a.desk b.desk
  pub people : IsPermutation a.people b.people
  pub changes : IsPermutation a.changes b.changes
  pub marks : IsPermutation a.marks b.marks
  pub batches : IsPermutation a.batches b.batches
  pub members : IsPermutation a.members b.members
  pub statuses : IsPermutation a.statuses b.statuses
  pub wanted : IsPermutation a.wanted b.wanted
