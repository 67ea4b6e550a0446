use Rattle.gate_http.proofs.response.field_if.Goals as goal

pub returns-in-Some : goal.returns-in-Some
returns-in-Some c = rw c.in-Some.is c.field.ensures
