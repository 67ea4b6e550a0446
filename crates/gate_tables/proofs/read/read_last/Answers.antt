use Rattle.std.proofs.Common.{rules}
use Rattle.gate_tables.proofs.Steps.{finds_both, finds_so, finds_then}
use Rattle.gate_tables.proofs.read.read_last.Goals as goal

pub returns-in_err-members : goal.returns-in_err-members
returns-in_err-members g c = finds_then c.in_ok-batches.ensures c.in_err-members.ensures (λ _ _. search rules)

pub returns-in_err-statuses : goal.returns-in_err-statuses
returns-in_err-statuses g c = finds_then (finds_both c.in_ok-batches.ensures c.in_ok-members.ensures) c.in_err-statuses.ensures (λ _ _. search rules)

pub returns-in_err-wanted : goal.returns-in_err-wanted
returns-in_err-wanted g c = finds_then (finds_both (finds_both c.in_ok-batches.ensures c.in_ok-members.ensures) c.in_ok-statuses.ensures) c.in_err-wanted.ensures (λ _ _. search rules)

pub returns : goal.returns
returns g c =
    let all = finds_both (finds_both (finds_both c.in_ok-batches.ensures c.in_ok-members.ensures) c.in_ok-statuses.ensures) c.in_ok-wanted.ensures in
    finds_so all (λ db read. record { batches = read.0.0.0; members = read.0.0.1; statuses = read.0.1; wanted = read.1 })
