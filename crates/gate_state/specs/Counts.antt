-- COUNTS of what batches hold, and the laws of what is done to a lane in their words.
use Rattle.std.specs.Prelude.{◌≡◌, ℕ, ◌+◌, ◌==◌, ℤ, pos, Bool, true, ◌&&◌, List, Option, if◌then◌else◌}
use Rattle.std.specs.List.{sum_by, count_by}
use Rattle.std.specs.Option.{option_map_or}
use Rattle.gate_state.specs.Lanes.{batches_of, is_landing, has_several, enqueued, tried, taken_out, restarted, requeued, failed, started, staged, reported, landing, dropped}
use Rattle.gate_state.specs.declared.batch.Batch.{Batch}
use Rattle.gate_state.specs.declared.batch.Report.{Report}
use Rattle.gate_state.specs.declared.lane.Lane.{Lane}

-- how often a change is in a list of changes
abbrev pub occurs : ℕ → List ℕ → ℕ
occurs change changes = count_by (λ other. change == other) changes

-- how often it is in a batch whose priority passes a test; in batches
abbrev pub held_by : (ℤ → Bool) → ℕ → Batch → ℕ
held_by test change batch = if test batch.priority then occurs change batch.changes else 0

abbrev pub inside : (ℤ → Bool) → ℕ → List Batch → ℕ
inside test change batches = sum_by (held_by test change) batches

abbrev pub of_any_priority : ℤ → Bool
of_any_priority priority = true

-- how many batches have a number
abbrev pub uses : ℕ → List Batch → ℕ
uses number batches = count_by (λ batch. number == batch.number) batches

-- THE CHANGES OF A LANE: how often a change is in its batches whose priority passes a test; in the running one; in one that
-- is landing; in one that is dropped if it fails
abbrev pub held : (ℤ → Bool) → ℕ → Lane → ℕ
held test change lane = inside test change (batches_of lane)

abbrev pub of_running : (Batch → ℕ) → Lane → ℕ
of_running count lane = option_map_or count lane.running 0

abbrev pub in_running : (ℤ → Bool) → ℕ → Lane → ℕ
in_running test change lane = of_running (held_by test change) lane

abbrev pub in_landing : (ℤ → Bool) → ℕ → Lane → ℕ
in_landing test change lane = of_running (λ batch. if is_landing batch.stage then held_by test change batch else 0) lane

abbrev pub in_lone : (ℤ → Bool) → ℕ → Lane → ℕ
in_lone test change lane = of_running (λ batch. if has_several batch then 0 else held_by test change batch) lane

-- What is queued is there once more, under its priority, and each other change as often as before.
abbrev pub LawOfEnqueue : Type 0
LawOfEnqueue = (test : ℤ → Bool) (size : Option ℕ) (number : ℕ) (priority : ℤ) (change other : ℕ) (lane : Lane) →
    held test other (enqueued size number priority change lane) ≡ held test other lane + (if other == change && test priority then 1 else 0)

-- What is tried is there once more, under priority 0, and each other change as often as before.
abbrev pub LawOfTry : Type 0
LawOfTry = (test : ℤ → Bool) (number change other : ℕ) (lane : Lane) →
    held test other (tried number change lane) ≡ held test other lane + (if other == change && test (pos 0) then 1 else 0)

-- What stays is there as often as before, and what is taken out only in a batch that is landing.
abbrev pub LawOfTakeOut : Type 0
LawOfTakeOut = (test : ℤ → Bool) (stays : ℕ → Bool) (number change : ℕ) (lane : Lane) →
    held test change (taken_out stays number lane) ≡ (if stays change then held test change lane else in_landing test change lane)

-- A restart loses nothing, and neither does a start, nor that a batch is staged, that a status is reported, or that it is to
-- land.
abbrev pub LawOfRestart : Type 0
LawOfRestart = (test : ℤ → Bool) (number change : ℕ) (lane : Lane) → held test change (restarted number lane) ≡ held test change lane

abbrev pub LawOfStart : Type 0
LawOfStart = (test : ℤ → Bool) (now change : ℕ) (lane : Lane) → held test change (started now lane) ≡ held test change lane

abbrev pub LawOfStage : Type 0
LawOfStage = (test : ℤ → Bool) (now : ℕ) (commit : List ℕ) (change : ℕ) (lane : Lane) → held test change (staged now commit lane) ≡ held test change lane

abbrev pub LawOfReport : Type 0
LawOfReport = (test : ℤ → Bool) (name : List ℕ) (report : Report) (change : ℕ) (lane : Lane) → held test change (reported name report lane) ≡ held test change lane

abbrev pub LawOfLand : Type 0
LawOfLand = (test : ℤ → Bool) (change : ℕ) (lane : Lane) → held test change (landing lane) ≡ held test change lane

-- A running batch that waits again loses what isn't chosen.
abbrev pub LawOfRequeue : Type 0
LawOfRequeue = (test : ℤ → Bool) (stays : ℕ → Bool) (number change : ℕ) (lane : Lane) →
    held test change (requeued stays number lane) + (if stays change then 0 else in_running test change lane) ≡ held test change lane

-- A batch that fails loses its change if it has no other; one that is dropped loses all.
abbrev pub LawOfFail : Type 0
LawOfFail = (test : ℤ → Bool) (number change : ℕ) (lane : Lane) → held test change (failed number lane) + in_lone test change lane ≡ held test change lane

abbrev pub LawOfDrop : Type 0
LawOfDrop = (test : ℤ → Bool) (change : ℕ) (lane : Lane) → held test change (dropped lane) + in_running test change lane ≡ held test change lane
