use Rattle.std.proofs.Common.{length}
use Rattle.gate_text.proofs.settings.limits.+are_distinct.Given as goal

abbrev pub decreases-are_distinct : goal.decreases-are_distinct
decreases-are_distinct g l = length l.items.now
