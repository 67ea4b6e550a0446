use Rattle.std.proofs.Common.{ℕ, List, ◌∙◌, ap}
use Rattle.gate_guard.specs.Duties.{duties_of}
use Rattle.gate_guard_lines.specs.Text.{told_text}
use Rattle.gate_store.proofs.Outlasting.{outlasts_both}
use Rattle.gate_store.specs.Run.{Records}
use Rattle.gate_guard_lines.proofs.lines.delivery_told.Goals as goal

pub returns-in-Ok-duties_now : goal.returns-in-Ok-duties_now
returns-in-Ok-duties_now g c =
    let said = c.in-Ok.ensures in
    let found = c.in-Ok-duties_now.ensures.finds in
    let text = c.in_ok-told_text-in-Ok-duties_now.ensures in
    record {
      tells = record {
        text = λ sound.
            let mid = found.outlasts.was sound in
            text.value
            ∙ ap (λ (answer : List ℕ). told_text answer c.in-Ok-duties_now.duties) (c.as_str.ensures.value ∙ said.answer mid)
            ∙ ap (told_text _) (found.duties sound ∙ ap (λ (records : Records). duties_of records.state) (said.delivers.book mid));
        records = λ sound. found.same sound ∙ said.delivers.book (found.outlasts.was sound);
        room = λ sound. said.delivers.full (found.outlasts.was sound);
        stops = λ sound. tt;
        outlasts = outlasts_both g.B.Book _ _ _ said.delivers.outlasts found.outlasts;
        stays = λ begun honest. found.stays (λ mid. said.delivers.stays mid) honest;
        cause = tt;
      };
    }
