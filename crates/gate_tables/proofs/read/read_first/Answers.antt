use Rattle.std.proofs.Common.{rules}
use Rattle.gate_tables.proofs.Steps.{finds_both, finds_so, finds_then}
use Rattle.gate_tables.proofs.read.read_first.Goals as goal

pub returns-in_err-people : goal.returns-in_err-people
returns-in_err-people g c = finds_then c.in_ok-desk.ensures c.in_err-people.ensures (λ _ _. search rules)

pub returns-in_err-changes : goal.returns-in_err-changes
returns-in_err-changes g c = finds_then (finds_both c.in_ok-desk.ensures c.in_ok-people.ensures) c.in_err-changes.ensures (λ _ _. search rules)

pub returns-in_err-marks : goal.returns-in_err-marks
returns-in_err-marks g c = finds_then (finds_both (finds_both c.in_ok-desk.ensures c.in_ok-people.ensures) c.in_ok-changes.ensures) c.in_err-marks.ensures (λ _ _. search rules)

pub returns : goal.returns
returns g c =
    let all = finds_both (finds_both (finds_both c.in_ok-desk.ensures c.in_ok-people.ensures) c.in_ok-changes.ensures) c.in_ok-marks.ensures in
    finds_so all (λ db read. record { desk = read.0.0.0; people = read.0.0.1; changes = read.0.1; marks = read.1 })
