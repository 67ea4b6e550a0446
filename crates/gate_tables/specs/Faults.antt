-- What is told of an error of the database.
use Rattle.gate_tables.specs.declared.fault.TablesFault.{TablesFault}
use Rattle.gate_tables.specs.declared.fault.TablesFault.TheVariants.{Memory, Store}
use Rattle.sqlite.specs.declared.error.Error.{Error}
use Rattle.sqlite.specs.declared.error.Error.TheVariants.{SqliteFailure}
use Rattle.sqlite.specs.declared.error.ErrorCode.TheVariants.{OutOfMemory}

abbrev pub fault_of : Error → TablesFault
fault_of (SqliteFailure OutOfMemory) = Memory
fault_of _ = Store
