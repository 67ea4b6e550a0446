use Rattle.gate_tables.proofs.desk.DeskRowTableRow.update.Goals as goal

pub returns : goal.returns
returns g c = rw (c.params-to_sql.ensures, c.params-to_sql-2.ensures, c.params-to_sql-3.ensures, c.params-to_sql-4.ensures, c.params-to_sql-5.ensures, c.params-to_sql-6.ensures, c.params-to_sql-7.ensures, c.params-to_sql-8.ensures, c.as_str.ensures.value) at c.run_counting.ensures
