use Rattle.gate_queue.proofs.Sets.{labels_law, reviews_law, passed_law, delegates_law}
use Rattle.gate_queue.proofs.laws.law_of_sets.Goals as goal

pub returns : goal.returns
returns c events change name = (labels_law events change name, reviews_law events change name, passed_law events change name, delegates_law events change name)
