use Rattle.std.proofs.lemmas.Result.{IfOk-weaker}
use Rattle.gate_rows.proofs.Alike.{same_back, same_then}
use Rattle.gate_rows.specs.Encoding.{rows_of}
use Rattle.gate_sql.proofs.Versions.{as_same}
use Rattle.gate_sql.specs.Versions.{rows_as}
use Rattle.gate_sql.proofs.opening.gate_in.Goals as goal

pub returns-in-Ok-clause-rows : goal.returns-in-Ok-clause-rows
returns-in-Ok-clause-rows c =
    let version = c.args.version in
    let last = c.in-Ok.last in
    IfOk-weaker c.gate_of.result _ _ (λ gate same.
    same_then c.args.rows (rows_as version last) (rows_as version (rows_of gate)) c.in-Ok.ensures (as_same version last (rows_of gate) (same_back (rows_of gate) last same))) c.gate_of.ensures.rows
