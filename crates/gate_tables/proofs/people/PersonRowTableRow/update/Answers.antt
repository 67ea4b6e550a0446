use Rattle.gate_tables.proofs.people.PersonRowTableRow.update.Goals as goal

pub returns : goal.returns
returns g c = rw (c.params-to_sql.ensures, c.params-to_sql-2.ensures, c.as_str.ensures.value) at c.run_counting.ensures
