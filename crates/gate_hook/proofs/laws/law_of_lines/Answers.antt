use Rattle.gate_hook.proofs.OnLines.{lines_law, line_histories_law}
use Rattle.gate_hook.proofs.laws.law_of_lines.Goals as goal

pub returns-clause-headline : goal.returns-clause-headline
returns-clause-headline c = lines_law c.law_of_deliveries.ensures.headline

pub returns-clause-history : goal.returns-clause-history
returns-clause-history c = line_histories_law c.law_of_deliveries.ensures.history
