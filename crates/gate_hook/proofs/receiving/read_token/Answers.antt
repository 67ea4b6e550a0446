use Rattle.gate_hook.proofs.ReadTokens.{token-read}
use Rattle.std.proofs.Common.{ap, ◌∙◌}
use Rattle.gate_http.specs.Tokens.{token_in}
use Rattle.gate_hook.proofs.receiving.read_token.Goals as goal

pub returns : goal.returns
returns g c =
    record { read = token-read _ _ _ _ _ c.new-bytes.ensures.items c.in-Ok.ensures (c.in_ok-read.ensures.value ∙ ap token_in c.deref.ensures.value) }
