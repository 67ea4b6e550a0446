use Rattle.std.proofs.Common.{◌≡◌, ◌≤◌, drop, min}
use Rattle.gate_waiting.specs.Pauses.{first_due_of, last_time}
use Rattle.gate_waiting.proofs.taking.LateAt.first_due.Given as goal

abbrev pub invariant-loop-guest : goal.invariant-loop-guest
invariant-loop-guest l = record {
  least : min l.due (first_due_of l.self.patience l.self.in_all (drop l.guest-index l.guests))
      ≡ first_due_of l.fn.self.patience l.fn.self.in_all l.fn.guests;
  told : l.due ≤ last_time;
}
