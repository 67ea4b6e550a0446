-- A log with one delivery more.
use Rattle.std.proofs.Common.{◌≡◌, ◌++◌, [], ◌∷◌, List, refl, false}
use Rattle.std.specs.List.{All}
use Rattle.gate_state.specs.Acts.{ActKeepsLimits}
use Rattle.gate_state.specs.declared.act.Act.{Act}
use Rattle.gate_state.specs.declared.state.State.{State}
use Rattle.gate_store.specs.Logged.{CanBeRepeated, after_log}
use Rattle.gate_store.specs.Run.{acts_meet_full, after_all}

pub after_more : (s : State) (log : List (List Act)) (acts : List Act) → after_log s (log ++ acts ∷ []) ≡ after_all (after_log s log) acts
after_more s [] acts = refl
after_more s (first ∷ log) acts = after_more (after_all s first) log acts

pub repeated_more : (s : State) (log : List (List Act)) (acts : List Act) → CanBeRepeated s log
    → acts_meet_full (after_log s log) acts ≡ false → All ActKeepsLimits acts → CanBeRepeated s (log ++ acts ∷ [])
repeated_more s [] acts can room limits = (room, limits, tt)
repeated_more s (first ∷ log) acts can room limits = (can.0, can.1, repeated_more (after_all s first) log acts can.2 room limits)
