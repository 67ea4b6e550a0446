-- SMALL STEPS OF THE GUESS of a gate. For private clauses: the guess as a whole has none, since its rows are compared.
use Rattle.std.specs.Prelude.{◌≡◌, not, List, [], ◌∷◌, ◌++◌, ℕ, Option}
use Rattle.std.specs.Borrow.{LendsIf, MutBor, Fml}
use Rattle.std.specs.List.{filter}
use Rattle.std.specs.Option.{option_to_list}
use Rattle.gate_text.specs.contracts.list.List.{the_row as list_row}
use Rattle.gate_text.specs.contracts.name.Name.{the_row as name_row}
use Rattle.gate_rules.specs.contracts.change.Repeat.{the_row as repeat_row}
use Rattle.gate_rules.specs.declared.change.Repeat.{Repeat}
use Rattle.gate_rules.specs.declared.change.Repeat.TheVariants.{ApproveFor}
use Rattle.gate_state.specs.Checks.{is_waiting}
use Rattle.gate_state.specs.declared.batch.Batch.{Batch}
use Rattle.gate_state.specs.declared.lane.Lane.{Lane}

-- What waits on a branch has a batch more behind it if that waits, and what runs there if not. One runs at the most.
abbrev pub HasMore : Batch → Lane → Lane → Type 0
HasMore batch old new =
    (new.waiting ≡ old.waiting ++ filter (λ one. is_waiting one.stage) (batch ∷ []))
    × (option_to_list new.running ≡ option_to_list old.running ++ filter (λ one. not (is_waiting one.stage)) (batch ∷ []))

-- A command ends as an `r=` with the names that are left behind the reference, or as it was.
abbrev pub LendsNames : MutBor Repeat → Option (MutBor (List (List ℕ))) → Fml
LendsNames repeat names = LendsIf repeat_row (list_row name_row) repeat names ApproveFor repeat.now
