use Rattle.std.proofs.Common.{rules}
use Rattle.gate_tables.proofs.Steps.{finds_both, finds_so, finds_then}
use Rattle.gate_tables.proofs.look.read_contents.Goals as goal

pub returns-in_err-answers : goal.returns-in_err-answers
returns-in_err-answers g c = finds_then c.in_ok-rows.ensures c.in_err-answers.ensures (λ _ _. search rules)

pub returns : goal.returns
returns g c = finds_so (finds_both c.in_ok-rows.ensures c.in_ok-answers.ensures) (λ db read. record { rows = read.0; answers = read.1 })
