-- One step of a session after another.
use Rattle.std.proofs.Common.{◌∙◌}
use Rattle.gate_store.proofs.Outlasting.{outlasts_both}
use Rattle.gate_store.specs.declared.book.Book as book
use Rattle.gate_hook.specs.Sessions.{Turns}
use Rattle.gate_hook.specs.declared.lines.Session.{Session}

pub turns_both : {B W : Type 0} (g : book.Ghosts B) (first second third : Session B W) → Turns g first second → Turns g second third → Turns g first third
turns_both g first second third one other = record {
  outlasts = outlasts_both g _ _ _ one.outlasts other.outlasts;
  same_keeper = other.same_keeper ∙ one.same_keeper;
  same_writer = other.same_writer ∙ one.same_writer;
}
