use Rattle.gate_rows.proofs.Alike.{same_then}
use Rattle.gate_rows.specs.Encoding.{rows_of}
use Rattle.gate_sql.specs.Versions.{rows_as}
use Rattle.gate_sql.proofs.opening.understood_rows.Goals as goal

pub returns-in_ok-changes-in-Ok-clause-rows : goal.returns-in_ok-changes-in-Ok-clause-rows
returns-in_ok-changes-in-Ok-clause-rows c = record {
  s = c.in-Ok.gate;
  state = c.is_of_machine.ensures.state;
  limits = c.is_of_machine.ensures.limits;
  rows_are = c.in-Ok.ensures.rows;
  leads = λ others same. c.in_ok-changes-in-Ok.ensures others (same_then others c.args.rows (rows_as c.args.version (rows_of c.in-Ok.gate)) same c.in-Ok.ensures.rows);
}
