use Rattle.std.proofs.Common.{sym}
use Rattle.gate_rows.proofs.Alike.{same_rows}
use Rattle.gate_rows.proofs.changed.changed_rows.Goals as goal
use Rattle.gate_rows.specs.Encoding.{rows_of}

pub returns : goal.returns
returns c =
    let before = same_rows (rows_of c.args.old.now) _ (sym c.in_ok-before.ensures.value) in
    let after = same_rows (rows_of c.args.new.now) _ (sym c.in_ok-rows_of.ensures.value) in
    record { value = c.row_changes.ensures.value (rows_of c.args.old.now) (rows_of c.args.new.now) c.law_of_keys_of.ensures c.law_of_keys_of-2.ensures before after }
