-- RECORDS IN MEMORY, with which a new book begins: none.
use Rattle.std.specs.FinMap.{empty}
use Rattle.gate_queue.specs.Machine.{empty_state}
use Rattle.gate_store.specs.Run.{Records}

abbrev pub no_records : Records
no_records = record { state = empty_state 1; kept = empty }
