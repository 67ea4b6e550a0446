use Rattle.gate_rows.proofs.ByKeys.{led_by_keys}
use Rattle.gate_rows.proofs.laws.law_of_changed_rows.Goals as goal
use Rattle.gate_rows.specs.Encoding.{rows_of}

pub returns : goal.returns
returns c = λ old new rows old_is new_is same.
    led_by_keys c.law_of_differences.ensures (rows_of old) (rows_of new) rows (c.law_of_keys.ensures old old_is) (c.law_of_keys.ensures new new_is) same
