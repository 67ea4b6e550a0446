use Rattle.std.proofs.Common.{sym, ◌∙◌}
use Rattle.gate_state.proofs.Decided.{Decides-fits}
use Rattle.gate_state.proofs.state.State.fits.Goals as goal

pub returns : goal.returns
returns c = record { state = (λ is. (Decides-fits c.args.self.now).0 (sym c.fits.ensures ∙ is), λ state. c.fits.ensures ∙ (Decides-fits c.args.self.now).1 state) }
