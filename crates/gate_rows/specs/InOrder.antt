-- ROWS IN THE ORDER in which lists are read of them: by their place, and batches as they are served. For private clauses.
use Rattle.std.specs.Prelude.{IsSorted, IsSortedByKey}
use Rattle.std.specs.Ordering.{int_cmp, ordering_then}
use Rattle.std.specs.declared.cmp.Ordering.{Ordering}
use Rattle.gate_tables.specs.declared.row.BatchRow.{BatchRow}
use Rattle.gate_tables.specs.declared.row.Rows.{Rows}

-- the greater priority first, then what was retried, then the smaller number
abbrev pub cmp_service : BatchRow → BatchRow → Ordering
cmp_service one other =
    ordering_then (ordering_then (int_cmp other.priority one.priority) (int_cmp other.again one.again)) (int_cmp one.number other.number)

pub record AreInOrder (rows : Rows) : Type 0 where
  pub marks : IsSortedByKey (λ row. row.place) int_cmp rows.marks
  pub batches : IsSorted cmp_service rows.batches
  pub members : IsSortedByKey (λ row. row.place) int_cmp rows.members
  pub wanted : IsSortedByKey (λ row. row.place) int_cmp rows.wanted
