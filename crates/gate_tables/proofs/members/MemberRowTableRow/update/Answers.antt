use Rattle.gate_tables.proofs.members.MemberRowTableRow.update.Goals as goal

pub returns : goal.returns
returns g c = rw (c.params-to_sql.ensures, c.params-to_sql-2.ensures, c.params-to_sql-3.ensures) at c.run_counting.ensures
