use Rattle.gate_http.proofs.Tokens.{Tells}
use Rattle.gate_http.proofs.token.is_same.Given as goal

abbrev pub invariant-loop-place : goal.invariant-loop-place
invariant-loop-place l = Tells l.text l.other l.place l.difference
