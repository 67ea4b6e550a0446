use Rattle.std.proofs.Common.{◌≡◌, true, take}
use Rattle.std.specs.List.{list_all}
use Rattle.gate_state.specs.Lanes.{has_succeeded}
use Rattle.gate_queue.proofs.running.have_succeeded.Given as goal

abbrev pub invariant-loop-name : goal.invariant-loop-name
invariant-loop-name l = list_all (has_succeeded l.reports) (take l.name-index l.names) ≡ true
