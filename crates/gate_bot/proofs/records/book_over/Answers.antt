use Rattle.gate_bot.proofs.Standing.{of_records}
use Rattle.gate_bot.proofs.records.book_over.Goals as goal

pub returns-in-Err-clause-fault : goal.returns-in-Err-clause-fault
returns-in-Err-clause-fault g c = rw c.from.ensures (of_records _ c.in-Err.ensures.fault)
