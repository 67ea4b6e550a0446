use Rattle.std.proofs.Common.{sym, ◌∙◌}
use Rattle.gate_queue.proofs.gate.Gate.from_state.Goals as goal

pub invariant_of-result : goal.invariant_of-result
invariant_of-result c = c.fits.ensures.state.0 c.if-fits.true

pub returns-else-fits-clause-refused : goal.returns-else-fits-clause-refused
returns-else-fits-clause-refused c none is = cc (sym c.if-fits.false ∙ c.fits.ensures.state.1 is)
