use Rattle.gate_queue.proofs.Wording.{since_found, since_holds}
use Rattle.gate_queue.proofs.laws.law_of_since.Goals as goal

pub returns : goal.returns
returns c start keep events = (since_found start keep events, since_holds start keep events)
