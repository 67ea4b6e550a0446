use Rattle.std.proofs.Common.{refl}
use Rattle.std.proofs.lemmas.Result.{IfOk-weaker}
use Rattle.gate_sql.specs.Files.{always_honest}
use Rattle.gate_sql.proofs.files.book_in_files_in_memory.Goals as goal

pub returns-clause-records : goal.returns-clause-records
returns-clause-records c = IfOk-weaker c.book_in_files.result _ _ (λ book records. records (always_honest (λ _. refl) book)) c.book_in_files.ensures.records

pub returns-clause-honest : goal.returns-clause-honest
returns-clause-honest c = IfOk-weaker c.book_in_files.result _ _ (λ book _. always_honest (λ _. refl) book) c.book_in_files.ensures.stays

pub returns-clause-sound : goal.returns-clause-sound
returns-clause-sound c = IfOk-weaker c.book_in_files.result _ _ (λ book stays. stays (always_honest (λ _. refl) book)) c.book_in_files.ensures.stays
