-- What a reader that refuses a text owes: the same refusal, which is not `Memory`.
use Rattle.std.proofs.Common.{◌≡◌, ◌≢◌, Result, Err}
use Rattle.gate_text.specs.SmallTexts.{Reads}
use Rattle.gate_text.specs.declared.fault.TextFault.{TextFault}
use Rattle.gate_text.specs.declared.fault.TextFault.TheVariants.{Empty, TooLong, BadByte, BadNumber, Memory}

pub refused : {X : Type 0} (fault : TextFault) (reading : Result X TextFault) → fault ≢ Memory → reading ≡ Err fault → Reads (Err fault) reading
refused Empty reading other same = same
refused TooLong reading other same = same
refused (BadByte place) reading other same = same
refused BadNumber reading other same = same
refused Memory reading other same = absurd (other (λ i. Memory))
