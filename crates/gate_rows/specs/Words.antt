-- NUMBERS OF ROWS, read as the words and numbers that are written as them. For private clauses.
use Rattle.std.specs.Prelude.{◌≡◌, ◌≢◌, ℤ, IsErr, IsOk, Result, Ok, Err}
use Rattle.gate_text.specs.declared.fault.TextFault.{TextFault}
use Rattle.gate_text.specs.declared.fault.TextFault.TheVariants as text
use Rattle.gate_tables.specs.declared.fault.TablesFault.{TablesFault}
use Rattle.gate_tables.specs.declared.fault.TablesFault.TheVariants.{Memory, Store}

-- A number is read as a value that is written as it, or it is refused, and then no value is.
abbrev pub IsReadBy : {X : Type 0} → (X → ℤ) → ℤ → Result X TablesFault → Type 0
IsReadBy written number (Ok value) = number ≡ written value
IsReadBy written number (Err fault) = (fault ≡ Store) × ((value : _) → number ≢ written value)

-- What a row is told to hold by what reading a small text told: a bad text stands in no row, and want of memory is told as that.
abbrev pub small_told : {X : Type 0} → Result X TextFault → Result X TablesFault
small_told (Ok value) = Ok value
small_told (Err text.Memory) = Err Memory
small_told (Err _) = Err Store

-- A small text is read as its type reads it. A bad one is refused, and no other but for want of memory.
abbrev pub IsReadAs : {X : Type 0} → Result X TextFault → Result X TablesFault → Type 0
IsReadAs reading (Ok value) = reading ≡ Ok value
IsReadAs reading (Err Memory) = IsOk reading
IsReadAs reading (Err Store) = IsErr reading
