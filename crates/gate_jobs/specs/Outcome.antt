-- HOW THE PROGRAM ENDS: its exit status, and the line on standard error after a fault.
use Rattle.std.specs.Prelude.{ℕ, List, ◌++◌, Result, Ok, Err, codes}
use Rattle.gate_jobs.specs.declared.fault.JobFault.{JobFault}
use Rattle.gate_jobs.specs.declared.fault.JobFault.TheVariants.{Hook, Bind, Accept, File, Token}
use Rattle.gate_jobs.specs.declared.outcome.Ending.{Ending}
use Rattle.gate_jobs.specs.declared.outcome.Ending.TheVariants as ending
use Rattle.gate_hook.specs.declared.fault.HookFault.TheVariants.{Gate, Read, Write, TooMuch}
use Rattle.gate_queue.specs.declared.fault.Fault.TheVariants.{Memory, Store, Full, Foreign}

abbrev pub ending_of : Result (Unit {0}) JobFault → Ending
ending_of (Ok _) = ending.Done
ending_of (Err fault) = ending.Fault fault

abbrev pub status_of : Ending → ℕ
status_of ending.Done = 0
status_of (ending.Fault fault) = 1
status_of ending.Usage = 2

abbrev pub word_of : JobFault → List ℕ
word_of (Hook (Gate Memory)) = codes "Memory"
word_of (Hook (Gate Store)) = codes "Store"
word_of (Hook (Gate Full)) = codes "Full"
word_of (Hook (Gate Foreign)) = codes "Foreign"
word_of (Hook Read) = codes "Read"
word_of (Hook Write) = codes "Write"
word_of (Hook TooMuch) = codes "TooMuch"
word_of Bind = codes "Bind"
word_of Accept = codes "Accept"
word_of File = codes "File"
word_of Token = codes "Token"

abbrev pub complaint_of : JobFault → List ℕ
complaint_of fault = codes "gate: " ++ word_of fault
