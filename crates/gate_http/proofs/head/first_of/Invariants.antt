use Rattle.std.proofs.Common.{◌≡◌, [], take}
use Rattle.gate_http.proofs.Fields.{values}
use Rattle.gate_http.proofs.head.first_of.Given as goal

abbrev pub invariant-loop-field : goal.invariant-loop-field
invariant-loop-field l = values l.bytes l.name (take l.field-index l.fields) ≡ []
