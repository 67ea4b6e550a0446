-- THE TEXT OF A CHANGE: ten lines, each a word and a value.
use Rattle.std.specs.Prelude.{ℕ, Bool, true, false, List, [], ◌∷◌, ◌++◌, Option, Some, None, decimal, codes}
use Rattle.std.specs.FinMap as finite
use Rattle.std.specs.Fmt.{signed_decimal}
use Rattle.std.specs.List.{join_by}
use Rattle.std.specs.Option.{option_map}
use Rattle.gate_text.specs.Finite.{words_of}
use Rattle.gate_rules.specs.declared.change.Change.{Change}
use Rattle.gate_rules.specs.declared.change.Phase.{Phase}
use Rattle.gate_rules.specs.declared.change.Phase.TheVariants.{Opened, Closed, Landed}
use Rattle.gate_state.specs.declared.state.State.{State}
use Rattle.gate_report.specs.Columns.{left, line_end}

-- a line: a word in ten places, and the value
abbrev pub entry : List ℕ → List ℕ → List ℕ
entry word value = left 10 word ++ (value ++ line_end)

abbrev pub phase_word : Phase → List ℕ
phase_word Opened = codes "open"
phase_word Closed = codes "closed"
phase_word Landed = codes "landed"

abbrev pub yes_or_no : Bool → List ℕ
yes_or_no true = codes "yes"
yes_or_no false = codes "no"

-- words in their order, or a sign that there are none
abbrev pub listed : List (List ℕ) → List ℕ
listed [] = codes "-"
listed (word ∷ words) = join_by (λ text. text) (codes ", ") (word ∷ words)

abbrev pub approvers : Option (List (List ℕ)) → List ℕ
approvers None = codes "-"
approvers (Some names) = listed names

unfoldable pub lines_of : ℕ → Change → List ℕ
lines_of number change =
    entry (codes "change") (decimal number)
    ++ entry (codes "author") change.author
    ++ entry (codes "head") change.head
    ++ entry (codes "state") (phase_word change.phase)
    ++ entry (codes "priority") (signed_decimal change.priority)
    ++ entry (codes "labels") (listed (words_of change.labels))
    ++ entry (codes "reviews") (listed (words_of change.reviews))
    ++ entry (codes "delegates") (listed (words_of change.delegates))
    ++ entry (codes "approved") (approvers change.approved)
    ++ entry (codes "trying") (yes_or_no change.trying)

-- of the change of this number, if it was ever opened
abbrev pub change_text_of : ℕ → State → Option (List ℕ)
change_text_of number state = option_map (lines_of number) (finite.get state.desk.changes number)
