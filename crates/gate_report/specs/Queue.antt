-- THE TEXT OF THE QUEUE: the base, the clock, a heading, and a line for each batch, in order of service.
use Rattle.std.specs.Prelude.{ℕ, List, ◌++◌, Option, Some, None, decimal, codes}
use Rattle.std.specs.Fmt.{signed_decimal}
use Rattle.std.specs.List.{flat_map, join_by}
use Rattle.gate_rules.specs.View.{DeskView}
use Rattle.gate_state.specs.Queue.{batches_of}
use Rattle.gate_state.specs.Words.{branch_word_of}
use Rattle.gate_state.specs.declared.batch.Batch.{Batch}
use Rattle.gate_state.specs.declared.batch.Stage.{Stage}
use Rattle.gate_state.specs.declared.batch.Stage.TheVariants.{Waiting, Ordered, Staged, Landing}
use Rattle.gate_state.specs.declared.state.State.{State}
use Rattle.gate_report.specs.Columns.{field, left, line_end, right}

-- A ROW has five columns, with one space between each two; the last one is as long as it is.
abbrev pub row : List ℕ → List ℕ → List ℕ → List ℕ → List ℕ → List ℕ
row batch branch state priority changes =
    batch ++ (codes " " ++ (branch ++ (codes " " ++ (state ++ (codes " " ++ (priority ++ (codes " " ++ (changes ++ line_end))))))))

abbrev pub heading : List ℕ
heading = row (right 16 (codes "batch")) (left 7 (codes "branch")) (left 8 (codes "state")) (right 5 (codes "prio")) (codes "changes")

abbrev pub stage_word : Stage → List ℕ
stage_word Waiting = codes "waiting"
stage_word (Ordered since) = codes "ordered"
stage_word (Staged since commit reports) = codes "staged"
stage_word (Landing commit) = codes "landing"

-- numbers of changes, in their order
abbrev pub change_numbers : List ℕ → List ℕ
change_numbers numbers = join_by decimal (codes ",") numbers

unfoldable pub batch_row : Batch → List ℕ
batch_row batch =
    row
    (right 16 (decimal batch.number))
    (left 7 (branch_word_of batch.branch))
    (left 8 (stage_word batch.stage))
    (right 5 (signed_decimal batch.priority))
    (change_numbers batch.changes)

abbrev pub base_word : Option (List ℕ) → List ℕ
base_word None = codes "none"
base_word (Some commit) = commit

-- what stands above the batches
unfoldable pub head_of : DeskView → List ℕ
head_of desk = field (codes "base") (base_word desk.base) ++ (field (codes "clock") (decimal desk.clock) ++ heading)

abbrev pub rows : List Batch → List ℕ
rows batches = flat_map batch_row batches

abbrev pub queue_text_of : State → List ℕ
queue_text_of state = head_of state.desk ++ rows (batches_of state.queue)
