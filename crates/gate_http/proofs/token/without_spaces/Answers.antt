use Rattle.std.proofs.Common.{sym, ◌∙◌}
use Rattle.gate_http.proofs.Tokens.{from-found, from-none}
use Rattle.gate_http.proofs.token.without_spaces.Goals as goal

pub returns-in-Some : goal.returns-in-Some
returns-in-Some c = from-found _ c.args.text.now c.in-Some.start (sym c.no_space.ensures ∙ c.in-Some.is)

pub returns-in-None : goal.returns-in-None
returns-in-None c = from-none _ c.args.text.now (sym c.no_space.ensures ∙ c.in-None.is)
