use Rattle.gate_queue.proofs.Wording.{last_found, last_is, none_found, none_is}
use Rattle.gate_queue.proofs.laws.law_of_the_last.Goals as goal

pub returns : goal.returns
returns g c said events = (λ x. (last_found said events x, last_is said events x), (none_found said events, none_is said events))
