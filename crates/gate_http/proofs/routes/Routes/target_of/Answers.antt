use Rattle.std.proofs.Common.{sym}
use Rattle.gate_http.proofs.Targets.{no-text}
use Rattle.gate_http.proofs.routes.Routes.target_of.Goals as goal

pub returns-in_default : goal.returns-in_default
returns-in_default c = record { target = sym (no-text c.args.path.now c.in_default.ensures.cases.0) }
