use Rattle.std.proofs.Common.{◌≡◌, ℕ, ◌-◌, ◌≤◌, List, ◌++◌, length}
use Rattle.std.specs.Io.KnownBytes.{Consumes}
use Rattle.gate_hook.specs.Receiving.{EndsWithin}
use Rattle.gate_hook.proofs.receiving.read_body.Given as goal

abbrev pub invariant-loop-bytes : goal.invariant-loop-bytes
invariant-loop-bytes g l =
    ((more : List ℕ) × Consumes (g.R.Read.remaining l.initial.reader) (g.R.Read.remaining l.reader) more × (l.bytes.items ≡ l.initial.bytes.items ++ more)
    × EndsWithin l.initial.bytes.items more l.front l.size)
    × (l.front ≤ length l.bytes.items)

abbrev pub decreases-loop-bytes : goal.decreases-loop-bytes
decreases-loop-bytes g l = l.size - (length l.bytes.items - l.front)
