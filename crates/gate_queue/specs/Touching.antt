-- For private clauses: THE NUMBERS OF THE BATCHES that an act may change, as lists.
use Rattle.std.specs.Prelude.{◌==◌, ℕ, ℤ, Bool, List, [], ◌∷◌, ◌++◌, map, slice_get, Option, Some, None}
use Rattle.std.specs.List.{filter, list_any}
use Rattle.gate_queue.specs.Vocabulary.{SettingsView, State}
use Rattle.gate_queue.specs.Machine.{all_but, with_new_settings}
use Rattle.gate_state.specs.Lanes.{batches_of, is_fresh_beside, is_fresh_of, last_so, loses}
use Rattle.gate_state.specs.State.{approved_on}
use Rattle.gate_state.specs.declared.batch.Batch.{Batch}
use Rattle.gate_state.specs.declared.lane.Lane.{Lane}
use Rattle.gate_state.specs.declared.queue.Queue.{Queue}

abbrev pub lists : ℕ → List ℕ → Bool
lists number numbers = list_any (λ other. other == number) numbers

abbrev pub numbers_so : (Batch → Bool) → List Batch → List ℕ
numbers_so test batches = map (λ batch. batch.number) (filter test batches)

abbrev pub number_of : Option Batch → List ℕ
number_of None = []
number_of (Some batch) = batch.number ∷ []

-- of a deed on a change
abbrev pub losing : ℕ → Lane → List ℕ
losing change lane = numbers_so (loses (all_but change)) (batches_of lane)

abbrev pub joining : ℤ → ℕ → Queue → List ℕ
joining priority change queue =
    ((losing change queue.staging ++ losing change queue.trying)
    ++ number_of (last_so (is_fresh_of priority) queue.staging.waiting))
    ++ number_of (last_so (is_fresh_beside priority change) queue.staging.waiting)

-- of news
abbrev pub front : Lane → List ℕ
front lane = number_of lane.running ++ number_of (slice_get lane.waiting 0)

abbrev pub fronts : Queue → List ℕ
fronts queue = front queue.staging ++ front queue.trying

-- of new settings
abbrev pub settling : State → SettingsView → List ℕ
settling s settings =
    (number_of s.queue.staging.running ++ number_of s.queue.trying.running)
    ++ numbers_so (loses (approved_on (with_new_settings s.desk settings))) s.queue.staging.waiting
