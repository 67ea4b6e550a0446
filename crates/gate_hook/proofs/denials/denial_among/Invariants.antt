use Rattle.std.proofs.Common.{◌≡◌, None, take}
use Rattle.gate_hook.specs.Denials.{first_denial}
use Rattle.gate_hook.proofs.denials.denial_among.Given as goal

abbrev pub invariant-loop-reply : goal.invariant-loop-reply
invariant-loop-reply l = first_denial (take l.reply-index l.replies) ≡ None
