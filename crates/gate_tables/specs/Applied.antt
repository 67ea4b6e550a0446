-- WHAT ROW CHANGES MAKE OF ROWS, by their keys alone. What rows stand for isn't known here.
use Rattle.std.specs.Prelude.{List, [], ◌∷◌, map, filter, not, if◌then◌else◌}
use Rattle.std.specs.List.{list_any}
use Rattle.gate_tables.specs.Forms as forms
use Rattle.gate_tables.specs.Forms.{Form}
use Rattle.gate_tables.specs.Keys.{key_of, has_key}
use Rattle.gate_tables.specs.declared.change.Row.TheVariants as row
use Rattle.gate_tables.specs.declared.change.RowChange.{RowChange}
use Rattle.gate_tables.specs.declared.change.RowChange.TheVariants.{Put, Delete}
use Rattle.gate_tables.specs.declared.change.RowKey.TheVariants as key
use Rattle.gate_tables.specs.declared.row.Rows.{Rows}
use Rattle.sqlite.specs.Order.{Row}
use Rattle.sqlite.specs.declared.types.Value.TheVariants.{Int, Text}

-- what tables have that were just made
abbrev pub no_rows : Rows
no_rows = record { desk = []; people = []; changes = []; marks = []; batches = []; members = []; statuses = []; wanted = [] }

-- a row in place of the one that has its key, or else one row more
abbrev pub put : {R : Type 0} → Form R → R → List R → List R
put form r rows = if list_any (has_key form (key_of form r)) rows then map (λ x. if has_key form (key_of form r) x then r else x) rows else r ∷ rows

-- the rows but the one of a key
abbrev pub without : {R : Type 0} → Form R → Row → List R → List R
without form key rows = filter (λ x. not (has_key form key x)) rows

abbrev pub changed : RowChange → Rows → Rows
changed (Put (row.Desk r)) rows = record rows { desk = put forms.desk r rows.desk }
changed (Put (row.People r)) rows = record rows { people = put forms.people r rows.people }
changed (Put (row.Changes r)) rows = record rows { changes = put forms.changes r rows.changes }
changed (Put (row.Marks r)) rows = record rows { marks = put forms.marks r rows.marks }
changed (Put (row.Batches r)) rows = record rows { batches = put forms.batches r rows.batches }
changed (Put (row.Members r)) rows = record rows { members = put forms.members r rows.members }
changed (Put (row.Statuses r)) rows = record rows { statuses = put forms.statuses r rows.statuses }
changed (Put (row.Wanted r)) rows = record rows { wanted = put forms.wanted r rows.wanted }
changed (Delete (key.Desk one)) rows = record rows { desk = without forms.desk (Int one ∷ []) rows.desk }
changed (Delete (key.People name)) rows = record rows { people = without forms.people (Text name ∷ []) rows.people }
changed (Delete (key.Changes number)) rows = record rows { changes = without forms.changes (Int number ∷ []) rows.changes }
changed (Delete (key.Marks change kind word)) rows = record rows { marks = without forms.marks (Int change ∷ Int kind ∷ Text word ∷ []) rows.marks }
changed (Delete (key.Batches number)) rows = record rows { batches = without forms.batches (Int number ∷ []) rows.batches }
changed (Delete (key.Members batch place)) rows = record rows { members = without forms.members (Int batch ∷ Int place ∷ []) rows.members }
changed (Delete (key.Statuses batch name)) rows = record rows { statuses = without forms.statuses (Int batch ∷ Text name ∷ []) rows.statuses }
changed (Delete (key.Wanted kind place)) rows = record rows { wanted = without forms.wanted (Int kind ∷ Int place ∷ []) rows.wanted }

abbrev pub applied : List RowChange → Rows → Rows
applied [] rows = rows
applied (c ∷ changes) rows = applied changes (changed c rows)
