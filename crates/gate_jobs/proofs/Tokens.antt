-- What a file tells that was read for a token.
use Rattle.std.proofs.Common.{inl, inr, ℕ, List, Option, Some, None, Result, Ok, Err, arith, refl, sym}
use Rattle.gate_hook.specs.Receiving.{HasReadToken}
use Rattle.gate_hook.specs.declared.fault.HookFault.{HookFault}
use Rattle.gate_hook.specs.declared.fault.HookFault.TheVariants.{Gate, Read, Write, TooMuch}
use Rattle.gate_jobs.specs.Serving.{IsTokenOf, token_told}

pub told-of : (read : Result (Option (List ℕ)) HookFault) (before after : Option (List ℕ)) → HasReadToken read before after → IsTokenOf (token_told read) before after
told-of (Ok (Some token)) before after is = (is.0, is.1, sym is.2)
told-of (Ok None) before after is = inl refl
told-of (Err Read) before after is = inl refl
told-of (Err Write) before after is = inl refl
told-of (Err TooMuch) before after is = inl refl
told-of (Err (Gate fault)) before after (inl is) = grind (arith, is)
told-of (Err (Gate fault)) before after (inr is) = inr (grind (arith, is))
