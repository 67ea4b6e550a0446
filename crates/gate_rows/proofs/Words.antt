-- What is told by what reading a small text told.
use Rattle.std.proofs.Common.{Result, Ok, Err, arith}
use Rattle.gate_text.specs.SmallTexts.{Reads}
use Rattle.gate_text.specs.declared.fault.TextFault.{TextFault}
use Rattle.gate_text.specs.declared.fault.TextFault.TheVariants as text
use Rattle.gate_rows.specs.Words.{IsReadAs, small_told}

pub told_as_read : {X : Type 0} (read reading : Result X TextFault) → Reads read reading → IsReadAs reading (small_told read)
told_as_read (Ok value) reading is = is
told_as_read (Err text.Memory) reading is = is
told_as_read (Err _) reading is = grind (arith, is)
