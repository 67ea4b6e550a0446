use Rattle.std.proofs.Common.{◌≡◌, take}
use Rattle.std.specs.List.{filter_map}
use Rattle.gate_queue.specs.Machine.{head_on}
use Rattle.gate_queue.proofs.ticking.heads_on.Given as goal

abbrev pub invariant-loop-change : goal.invariant-loop-change
invariant-loop-change l = l.heads.items ≡ filter_map (head_on l.desk) (take l.change-index l.changes)
