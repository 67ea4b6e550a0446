-- What is told of files in which no book was opened.
use Rattle.std.proofs.Common.{◌≡◌, ◌⊎◌, ap, inl, inr}
use Rattle.gate_bot.specs.Program.{IsOfFiles, IsOfRecords, IsUnopened}
use Rattle.gate_hook.specs.declared.fault.HookFault.TheVariants.{Gate}
use Rattle.gate_jobs.specs.declared.fault.JobFault.{JobFault}
use Rattle.gate_jobs.specs.declared.fault.JobFault.TheVariants.{Hook}
use Rattle.gate_queue.specs.declared.fault.Fault.{Fault}
use Rattle.gate_queue.specs.declared.fault.Fault.TheVariants.{Foreign}
use Rattle.gate_store.specs.Run.{IsOfBooks}

told_of : Fault → JobFault
told_of fault = Hook (Gate fault)

pub of_records : {H : Type 0} (fault : Fault) → IsOfBooks fault ⊎ ((fault ≡ Foreign) × H) → IsOfRecords H (Hook (Gate fault))
unfolding told_of
of_records fault (inl (inl memory)) = inl (ap told_of memory)
of_records fault (inl (inr store)) = inr (inl (ap told_of store))
of_records fault (inr foreign) = inr (inr (ap told_of foreign.0, foreign.1))

pub of_files : {H : Type 0} (fault : JobFault) → IsOfRecords H fault → IsOfFiles fault
of_files fault (inl memory) = inr (inl memory)
of_files fault (inr (inl store)) = inr (inr (inl store))
of_files fault (inr (inr foreign)) = inr (inr (inr foreign.0))

pub unopened : (fault : JobFault) → IsUnopened fault → IsOfFiles fault
unopened fault (inl file) = inl file
unopened fault (inr memory) = inr (inl memory)
