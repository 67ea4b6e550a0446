-- What a book tells of a fault of its tables, and what one that is opened may tell of what it found.
use Rattle.std.specs.Prelude.{◌≡◌, ◌⊎◌}
use Rattle.gate_queue.specs.declared.fault.Fault.{Fault}
use Rattle.gate_queue.specs.declared.fault.Fault.TheVariants as fault
use Rattle.gate_store.specs.Run.{IsOfBooks}
use Rattle.gate_tables.specs.Schemas.{HasTables}
use Rattle.gate_tables.specs.declared.fault.TablesFault.{TablesFault}
use Rattle.gate_tables.specs.declared.fault.TablesFault.TheVariants.{Memory, Store}
use Rattle.sqlite.specs.Effect.{Database}
use Rattle.sqlite.specs.declared.error.Error.{Error}
use Rattle.sqlite.specs.declared.error.Error.TheVariants.{SqliteFailure}
use Rattle.sqlite.specs.declared.error.ErrorCode.TheVariants.{OutOfMemory}

abbrev pub told_as : TablesFault → Fault
told_as Memory = fault.Memory
told_as Store = fault.Store

-- what is told of files that can't be opened
abbrev pub told_of_files : Error → Fault
told_of_files (SqliteFailure OutOfMemory) = fault.Memory
told_of_files _ = fault.Store

abbrev pub MayRefuse : Fault → Type 0
MayRefuse told = IsOfBooks told ⊎ (told ≡ fault.Foreign)

-- of a database: `Foreign` only if it has the tables of a version
abbrev pub MayRefuseOf : Database → Fault → Type 0
MayRefuseOf db told = IsOfBooks told ⊎ ((told ≡ fault.Foreign) × HasTables db)

-- rows that no gate has are foreign, but for want of memory
abbrev pub foreign_unless_memory : Fault → Fault
foreign_unless_memory fault.Memory = fault.Memory
foreign_unless_memory _ = fault.Foreign
