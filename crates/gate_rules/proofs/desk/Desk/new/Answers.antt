use Rattle.gate_rules.proofs.Indexing.{index_empty}
use Rattle.gate_rules.proofs.Members.{members-empty}
use Rattle.gate_rules.proofs.desk.Desk.new.Goals as goal

pub invariant_of-result : goal.invariant_of-result
invariant_of-result c = rw (c.new.ensures.empty, c.new-2.ensures.empty) (members-empty, index_empty c.new-3.result c.new-3.ensures)
