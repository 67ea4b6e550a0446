use Rattle.std.proofs.Common.{refl}
use Rattle.gate_queue.proofs.running.send_back.Goals as goal

pub returns-clause-value : goal.returns-clause-value
returns-clause-value c = rw (c.in_ok-queue.ensures.value, c.release.ensures) refl
