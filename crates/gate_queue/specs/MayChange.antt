-- WHAT AN ACT MAY CHANGE of a state: which people, changes and batches, and whether the settings. It says more rather than less,
-- so that it is simple: what isn't named stays as it is, and what is named may stay so too. Batches under new numbers aren't named.
use Rattle.std.specs.Prelude.{◌≡◌, ◌<◌, ◌≤◌, ◌==◌, ℕ, ℤ, not, Bool, true, false, ◌&&◌, ◌||◌, List, slice_get, Option, Some, None, Result, Ok, Err, if◌then◌else◌}
use Rattle.std.specs.FinMap as finite
use Rattle.std.specs.List.{list_any}
use Rattle.std.specs.Option.{option_map_or}
use Rattle.std.specs.Str.{bytes_eq}
use Rattle.gate_queue.specs.Vocabulary.{SettingsView, settings_of, Known, Priority, DeskView, is_open_at, SettingsFault, Rule, Act, On, Other, Deed, Said, Fact, Role, Settings, Base, Staged, Conflict, Status, Refused, Tick, State}
use Rattle.gate_queue.specs.Machine.{denial, after, all_but, on_either, has_staged, are_present, loses_approval, with_new_settings}
use Rattle.gate_state.specs.Lanes.{is_fresh_beside, is_fresh_of, last_so, loses}
use Rattle.gate_state.specs.Lanes as lanes
use Rattle.gate_state.specs.Queue.{batch_numbered, batches_of}
use Rattle.gate_state.specs.State.{IsState, approved_on, priority_on, trying_on}
use Rattle.gate_state.specs.declared.batch.Batch.{Batch}
use Rattle.gate_state.specs.declared.lane.Lane.{Lane}

pub record Parts : Type 0 where
  pub person : List ℕ → Bool
  pub change : ℕ → Bool
  pub batch : ℕ → Bool
  pub settings : Bool

abbrev pub no_parts : Parts
no_parts = record { person = λ name. false; change = λ number. false; batch = λ number. false; settings = false }

-- BATCHES BY THEIR NUMBER: whether this one has it; whether one of several has it that passes a test
abbrev pub is_numbered : ℕ → Option Batch → Bool
is_numbered number batch = option_map_or (λ (b : Batch). b.number == number) batch false

abbrev pub one_numbered : (Batch → Bool) → List Batch → ℕ → Bool
one_numbered test batches number = list_any (λ (b : Batch). (b.number == number) && test b) batches

-- in front of a lane are the batch that runs and the first that waits
abbrev pub is_in_front : Lane → ℕ → Bool
is_in_front lane number = is_numbered number lane.running || is_numbered number (slice_get lane.waiting 0)

-- whether a change is in the running batch
abbrev pub is_run : ℕ → Lane → Bool
is_run change lane = option_map_or (loses (all_but change)) lane.running false

-- A DEED ON A CHANGE may change it, each batch that has it, and the batch that it joins. That is the last fresh one of its
-- priority, or the last one that has other changes too: a change of a batch of its own may leave it and be queued anew.
abbrev pub is_joined : ℤ → ℕ → List Batch → ℕ → Bool
is_joined priority change waiting number =
    is_numbered number (last_so (is_fresh_of priority) waiting)
    || is_numbered number (last_so (is_fresh_beside priority change) waiting)

abbrev pub of_change : State → ℤ → ℕ → Parts
of_change s priority change = record {
  person = λ name. false;
  change = λ number. number == change;
  batch = λ number. one_numbered (loses (all_but change)) (batches_of s.queue) number || is_joined priority change s.queue.staging.waiting number;
  settings = false;
}

-- the priority that the change has after it
abbrev pub next_priority : DeskView → ℕ → Deed → ℤ
next_priority desk change (Said person (Known (Priority priority))) = priority
next_priority desk change deed = priority_on desk change

-- NEWS of a batch and a tick may change what is in front of both branches, and the changes that run.
abbrev pub in_front : State → Parts
in_front s = record {
  person = λ name. false;
  change = λ number. is_run number s.queue.staging || is_run number s.queue.trying;
  batch = λ number. is_in_front s.queue.staging number || is_in_front s.queue.trying number;
  settings = false;
}

-- A BASE may change besides the tries of changes that land.
abbrev pub stays_tried : State → ℕ → Bool
stays_tried s change = trying_on s.desk change && not (is_run change s.queue.staging)

abbrev pub of_base : State → Parts
of_base s = record (in_front s) {
  batch = λ number. is_in_front s.queue.staging number || is_in_front s.queue.trying number || one_numbered (loses (stays_tried s)) (lanes.batches_of s.queue.trying) number;
}

-- A STATUS may change the open changes whose head its commit is; and, if a batch is tested as this commit, what other news may change.
abbrev pub with_heads : State → List ℕ → Parts → Parts
with_heads s commit parts = record parts {
  change = λ number. parts.change number || option_map_or (is_open_at commit) (finite.get s.desk.changes number) false;
}

abbrev pub of_status : State → List ℕ → Parts
of_status s commit = with_heads s commit (if on_either (has_staged commit) s.queue then in_front s else no_parts)

-- NEW SETTINGS may change the changes that lose their approval, the batches that have one, and those that run.
abbrev pub of_settings : State → SettingsView → Parts
of_settings s settings = record {
  person = λ name. false;
  change = λ number. option_map_or (loses_approval settings) (finite.get s.desk.changes number) false;
  batch = λ number.
      is_numbered number s.queue.staging.running || is_numbered number s.queue.trying.running
      || one_numbered (loses (approved_on (with_new_settings s.desk settings))) s.queue.staging.waiting number;
  settings = true;
}

abbrev pub of_text : State → Result SettingsView SettingsFault → Parts
of_text s (Ok settings) = if are_present s.desk settings then no_parts else of_settings s settings
of_text s (Err fault) = no_parts

-- a role is one person's
abbrev pub of_person : List ℕ → Parts
of_person person = record no_parts { person = λ name. bytes_eq name person }

abbrev pub fact_may_do : State → Fact → Parts
fact_may_do s (Role person role) = of_person person
fact_may_do s (Settings text) = of_text s (settings_of text)
fact_may_do s (Base commit) = of_base s
fact_may_do s (Staged batch commit) = in_front s
fact_may_do s (Conflict batch) = in_front s
fact_may_do s (Status commit name state) = of_status s commit
fact_may_do s (Refused batch) = in_front s
fact_may_do s (Tick now) = in_front s

abbrev pub may_do : State → Act → Parts
may_do s (On change deed) = of_change s (next_priority s.desk change deed) change
may_do s (Other fact) = fact_may_do s fact

-- An act that a rule denies changes nothing.
abbrev pub unless_denied : Option Rule → Parts → Parts
unless_denied None parts = parts
unless_denied (Some rule) parts = no_parts

abbrev pub may_change : State → Act → Parts
may_change s act = unless_denied (denial s act) (may_do s act)

-- WHAT ISN'T NAMED IS AS IT WAS, after an act that led from one state to another.
pub record Untouched (may : Parts) (s t : State) : Type 0 where
  pub people : (name : List ℕ) → may.person name ≡ false → finite.get t.desk.roles name ≡ finite.get s.desk.roles name
  pub changes : (number : ℕ) → may.change number ≡ false → finite.get t.desk.changes number ≡ finite.get s.desk.changes number
  pub batches : (number : ℕ) → number < s.queue.next → may.batch number ≡ false → batch_numbered number t.queue ≡ batch_numbered number s.queue
  pub settings : may.settings ≡ false → t.desk.settings ≡ s.desk.settings
  -- numbers that are given once aren't given again
  pub next : s.queue.next ≤ t.queue.next

abbrev pub LawOfUntouched : Type 0
LawOfUntouched = (s : State) (act : Act) → IsState s → Untouched (may_change s act) s (after s act)
