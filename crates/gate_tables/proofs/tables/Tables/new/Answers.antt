use Rattle.gate_tables.proofs.Standing.{made_stands}
use Rattle.gate_tables.proofs.tables.Tables.new.Goals as goal

pub invariant_of-result : goal.invariant_of-result
invariant_of-result g c = made_stands g.S.Store c.make.new.conn c.args.first.now c.in-Ok.ensures.mode (λ clean. c.in-Ok.ensures.did clean c.requires.blank)
