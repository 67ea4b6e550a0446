use Rattle.std.specs.Fmt.{digits}
use Rattle.gate_http.specs.Responses.{response_text}
use Rattle.gate_hook.proofs.requests.send_unavailable.Goals as goal

pub returns : goal.returns
unfolding response_text digits
returns g c = c.send_as.ensures
