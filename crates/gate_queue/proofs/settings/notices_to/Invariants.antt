use Rattle.std.proofs.Common.{◌≡◌, take}
use Rattle.gate_queue.specs.Machine.{settings_notices}
use Rattle.gate_queue.proofs.settings.notices_to.Given as goal

abbrev pub invariant-loop-number : goal.invariant-loop-number
invariant-loop-number l = l.notices.items ≡ settings_notices (take l.number-index l.numbers)
