use Rattle.std.proofs.Common.{inl, subst, sym}
use Rattle.httparse.specs.Grammar.{HasNoRequest}
use Rattle.gate_hook.proofs.HeadRead.{none-yet}
use Rattle.gate_hook.proofs.requests.Transcript.new.Goals as goal

pub invariant_of-result : goal.invariant_of-result
invariant_of-result c = inl (subst HasNoRequest (sym c.new.ensures.items) none-yet)
