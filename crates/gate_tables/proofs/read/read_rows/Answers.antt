use Rattle.std.proofs.Common.{rules}
use Rattle.gate_tables.proofs.Steps.{finds_both, finds_so, finds_then}
use Rattle.gate_tables.proofs.read.read_rows.Goals as goal

pub returns-in_err-batches : goal.returns-in_err-batches
returns-in_err-batches g c = finds_then c.in_ok-desk.ensures c.in_err-batches.ensures (λ _ _. search rules)

pub returns : goal.returns
returns g c = finds_so (finds_both c.in_ok-desk.ensures c.in_ok-batches.ensures) (λ db read. record { first = read.0; last = read.1 })
