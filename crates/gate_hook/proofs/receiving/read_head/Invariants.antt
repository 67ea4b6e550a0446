use Rattle.std.proofs.Common.{◌-◌, ◌≤◌, length}
use Rattle.std.specs.Io.KnownBytes.{Consumes}
use Rattle.gate_http.specs.Heads.{max_head}
use Rattle.gate_hook.proofs.Needing.{IsNew}
use Rattle.gate_hook.proofs.receiving.read_head.Given as goal

abbrev pub invariant-loop-head : goal.invariant-loop-head
invariant-loop-head g l =
    Consumes (g.R.Read.remaining l.initial.reader) (g.R.Read.remaining l.reader) l.bytes.items × (length l.bytes.items ≤ max_head) × IsNew l.bytes.items

abbrev pub decreases-loop-head : goal.decreases-loop-head
decreases-loop-head g l = max_head - length l.bytes.items
