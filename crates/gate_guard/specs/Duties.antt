-- WHAT A HOST HAS TO DO for the batches that run on the two branches, by the state of the bot.
use Rattle.std.specs.Prelude.{ℕ, List, Option, Some, None}
use Rattle.std.specs.Option.{option_map, option_and_then}
use Rattle.gate_guard.specs.declared.duty.Duties.{Duties}
use Rattle.gate_guard.specs.declared.duty.Duty.{Duty}
use Rattle.gate_guard.specs.declared.duty.Duty.TheVariants.{Merge, Test, Land}
use Rattle.gate_state.specs.declared.batch.Batch.{Batch}
use Rattle.gate_state.specs.declared.batch.Stage.{Stage}
use Rattle.gate_state.specs.declared.batch.Stage.TheVariants.{Waiting, Ordered, Staged, Landing}
use Rattle.gate_state.specs.declared.state.State.{State}

-- A batch that is ordered is to be merged, one that is staged is to be tested, and one that lands is to land, from the base.
abbrev pub duty_at : (base : Option (List ℕ)) (number : ℕ) → Stage → Option Duty
duty_at base number Waiting = None
duty_at base number (Ordered since) = Some (Merge number)
duty_at base number (Staged since commit reports) = Some (Test number commit)
duty_at base number (Landing commit) = option_map (λ from. Land number from commit) base

-- of the batch that runs on a branch, if one does
abbrev pub duty_of : (base : Option (List ℕ)) → Option Batch → Option Duty
duty_of base running = option_and_then (λ (batch : Batch). duty_at base batch.number batch.stage) running

abbrev pub duties_of : State → Duties
duties_of s = record { staging = duty_of s.desk.base s.queue.staging.running; trying = duty_of s.desk.base s.queue.trying.running }
