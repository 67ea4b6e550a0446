-- BOOKS OVER FILES: the records for which a log and a database file stand. The premise is that the disk has returned what was written. Files
-- in memory always do.
use Rattle.std.specs.Prelude.{◌≡◌, Bool, true, false, ◌&&◌, IsTrue}
use Rattle.gate_sql.specs.Versions.{OpensAs}
use Rattle.gate_store.specs.Run.{Records}
use Rattle.gate_tables.specs.Tables.{is_honest}
use Rattle.sqlite.specs.Effect.{Database, IsDatabase}
use Rattle.sqlite.specs.Files.{AreFoundIn, Finds, HoldsDatabase, IsOpened, file_state, over_files}
use Rattle.sqlite.specs.Held.{Held, state}
use Rattle.sqlite.specs.Recovery.{Image}
use Rattle.sqlite.specs.State.{HasCleanDisk}
use Rattle.sqlite.specs.Tree.{Trees}
use Rattle.sqlite.specs.declared.FileStore.{FileStore}
use Rattle.sqlite_disk.specs.Memory.{memory_bytes}
use Rattle.sqlite_disk.specs.declared.Disk as disk
use Rattle.sqlite_disk.specs.declared.Files.{Files}
use Rattle.sqlite_disk.specs.declared.memory.Memory.{Memory}
use Rattle.sqlite_pool.specs.Pool.{state as pool_state}
use Rattle.sqlite_trees.proofs.Doubt.{no_doubt}

-- A file and its log hold this database, or none yet, and then it is an empty one; and it is opened as these records.
pub record StandIn (files : Image) (records : Records) : Type 0 where
  pub found : Database
  pub holds : (trees : Trees) → HoldsDatabase files trees → found.trees ≡ trees
  pub reads : AreFoundIn files found.trees
  pub sound : IsDatabase found
  pub opens : OpensAs found records

-- For private clauses: a connection to the database of two files, in which no transaction is open. If the disk has returned what was
-- written, it is opened, shows what the files hold, and each later read is tested.
pub record ConnectsTo {D : Type 0} {g : disk.Ghosts D} (files : Files D) (connection : Held (FileStore D g)) : Type 0 where
  pub found : HasCleanDisk (file_state connection) → Finds files connection
  pub opened : HasCleanDisk (file_state connection) → IsOpened connection
  pub guarded : HasCleanDisk (file_state connection) → (file_state connection).IsShielded
  pub mode : connection.in_transaction ≡ false

-- what a log and a database file in memory hold
abbrev pub held_by : Files Memory → Image
held_by files = record { log = memory_bytes files.log; db = memory_bytes files.db }

-- files that always return what was written
abbrev pub TellNoLie : {D : Type 0} → disk.Ghosts D → Type 0
TellNoLie {D} g = (file : D) → g.is_clean file ≡ true

both : (one other : Bool) → one ≡ true → other ≡ true → IsTrue (one && other)
both true other is also = also
both false other is also = is

pub always_honest : {D : Type 0} {g : disk.Ghosts D} → TellNoLie g → (h : Held (FileStore D g)) → is_honest over_files h
unfolding pool_state
always_honest {D} {g} none h = no_doubt (state over_files h).is_clean (both _ _ (none _) (none _))
