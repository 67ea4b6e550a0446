-- FAULTS of the files that a job begins with.
use Rattle.std.specs.Prelude.{◌≡◌, ◌⊎◌}
use Rattle.gate_hook.specs.declared.fault.HookFault.TheVariants.{Gate}
use Rattle.gate_jobs.specs.declared.fault.JobFault.{JobFault}
use Rattle.gate_jobs.specs.declared.fault.JobFault.TheVariants.{Hook, File, Token}
use Rattle.gate_queue.specs.declared.fault.Fault.TheVariants.{Memory, Store, Foreign}
use Rattle.sqlite.specs.declared.error.Error.{Error}
use Rattle.sqlite.specs.declared.error.Error.TheVariants.{SqliteFailure}
use Rattle.sqlite.specs.declared.error.ErrorCode.TheVariants.{OutOfMemory}

-- what is told of a file that can't be opened
abbrev pub fault_of : Error → JobFault
fault_of (SqliteFailure OutOfMemory) = Hook (Gate Memory)
fault_of _ = File

abbrev pub IsUnopened : JobFault → Type 0
IsUnopened fault = (fault ≡ File) ⊎ (fault ≡ Hook (Gate Memory))

-- and of a database that was opened, which may have the tables of a version
abbrev pub IsOfRecords : (has_tables : Type 0) → JobFault → Type 0
IsOfRecords has_tables fault =
    (fault ≡ Hook (Gate Memory)) ⊎ ((fault ≡ Hook (Gate Store)) ⊎ ((fault ≡ Hook (Gate Foreign)) × has_tables))

abbrev pub IsOfFiles : JobFault → Type 0
IsOfFiles fault =
    (fault ≡ File) ⊎ ((fault ≡ Hook (Gate Memory)) ⊎ ((fault ≡ Hook (Gate Store)) ⊎ (fault ≡ Hook (Gate Foreign))))

-- the file of a token can't be read or holds none, or there is no memory for it
abbrev pub IsOfTokens : JobFault → Type 0
IsOfTokens fault = (fault ≡ Token) ⊎ (fault ≡ Hook (Gate Memory))
