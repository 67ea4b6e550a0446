-- WHAT THE PLAIN BOOK HAS: a log of what was performed since some state, delivery by delivery, and the answers.
use Rattle.std.specs.Prelude.{◌≡◌, ℕ, false, ⊤, List, [], ◌∷◌}
use Rattle.std.specs.Cmp.Lexicographic.{slice_cmp}
use Rattle.std.specs.FinMap.{FinMap, from_entries}
use Rattle.std.specs.List.{All}
use Rattle.std.specs.Ordering.{nat_cmp}
use Rattle.gate_state.specs.Acts.{ActKeepsLimits}
use Rattle.gate_state.specs.declared.act.Act.{Act}
use Rattle.gate_state.specs.declared.reply.Reply.{Reply}
use Rattle.gate_state.specs.declared.state.State.{State}
use Rattle.gate_store.specs.Run.{acts_meet_full, after_all}

-- the state after all of it
abbrev pub after_log : State → List (List Act) → State
after_log s [] = s
after_log s (acts ∷ log) = after_log (after_all s acts) log

-- No act met a full gate, and each keeps its limits. So all can be performed again.
abbrev pub CanBeRepeated : State → List (List Act) → Type 0
CanBeRepeated s [] = ⊤
CanBeRepeated s (acts ∷ log) = (acts_meet_full s acts ≡ false) × All ActKeepsLimits acts × CanBeRepeated (after_all s acts) log

-- the answers of a map, under their identifiers
abbrev pub answers_in : List (List ℕ × List Reply) → FinMap (slice_cmp nat_cmp) (List Reply)
answers_in entries = from_entries entries
