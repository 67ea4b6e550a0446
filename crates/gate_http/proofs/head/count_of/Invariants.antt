use Rattle.std.proofs.Common.{◌≡◌, ◌≤◌, length, take}
use Rattle.gate_http.proofs.Fields.{values}
use Rattle.gate_http.proofs.head.count_of.Given as goal

abbrev pub invariant-loop-field : goal.invariant-loop-field
invariant-loop-field l = (l.count ≡ length (values l.bytes l.name (take l.field-index l.fields))) × (l.count ≤ l.field-index)
