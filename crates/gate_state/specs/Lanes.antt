-- LANES: the batches of a branch in order of service, and what is done to them.
use Rattle.std.specs.Prelude.{ℕ, ◌+◌, ◌/◌, nat_lt, int_lt, ℤ, pos, Bool, true, false, not, ◌&&◌, ◌==◌, List, [], ◌∷◌, ◌++◌, length, map, take, drop, slice_get, slice_set, Option, Some, None, is_some, if◌then◌else◌}
use Rattle.std.proofs.Math.Bool.{beq}
use Rattle.std.specs.Cmp.Lexicographic.{slice_cmp}
use Rattle.std.specs.FinMap as finite
use Rattle.std.specs.FinMap.{FinMap}
use Rattle.std.specs.List.{filter, find, insert, list_all, list_any, position}
use Rattle.std.specs.Option.{option_map, option_map_or, option_and_then, unwrap_or}
use Rattle.std.specs.Ordering.{int_eq, nat_cmp}
use Rattle.gate_text.specs.LastWhere.{last_where}
use Rattle.gate_state.specs.declared.batch.Batch.{Batch}
use Rattle.gate_state.specs.declared.batch.Branch.TheVariants.{Staging, Trying}
use Rattle.gate_state.specs.declared.batch.Report.{Report}
use Rattle.gate_state.specs.declared.batch.Report.TheVariants as report
use Rattle.gate_state.specs.declared.batch.Stage.{Stage}
use Rattle.gate_state.specs.declared.batch.Stage.TheVariants as stage
use Rattle.gate_state.specs.declared.lane.Lane.{Lane}

-- A lane has the running batch, if there is one, and the waiting ones in order of service.
abbrev pub empty_lane : Lane
empty_lane = record { running = None; waiting = [] }

-- ORDER OF SERVICE of waiting batches: the greater priority, then retried before fresh, then the smaller number
abbrev pub goes_before : Batch → Batch → Bool
goes_before one other =
    if not (int_eq one.priority other.priority) then int_lt other.priority one.priority
    else (if not (beq one.again other.again) then one.again
    else nat_lt one.number other.number)

-- a batch at its place: before the first that it goes before, or else behind all
abbrev pub placed : Batch → List Batch → List Batch
placed batch waiting = insert waiting (unwrap_or (position (goes_before batch) waiting) (length waiting)) batch

-- all batches of a lane, in order of service
abbrev pub batches_of : Lane → List Batch
batches_of lane = in_service lane.running lane.waiting where
  in_service : Option Batch → List Batch → List Batch
  in_service None waiting = waiting
  in_service (Some batch) waiting = batch ∷ waiting

-- the one of a number, if there is one
abbrev pub batch_numbered : ℕ → Lane → Option Batch
batch_numbered number lane = find (λ (batch : Batch). batch.number == number) (batches_of lane)

-- NEW BATCHES
abbrev pub fresh : ℕ → ℤ → ℕ → Batch
fresh number priority change = record {
  number = number;
  branch = Staging;
  priority = priority;
  again = false;
  stage = stage.Waiting;
  changes = change ∷ [];
}

-- a try: one change alone, on the other branch and under priority 0
abbrev pub try_of : ℕ → ℕ → Batch
try_of number change = record {
  number = number;
  branch = Trying;
  priority = pos 0;
  again = false;
  stage = stage.Waiting;
  changes = change ∷ [];
}

-- a batch again, under another number
abbrev pub retried : ℕ → Batch → Batch
retried number batch = record batch { number = number; again = true; stage = stage.Waiting }

-- ENQUEUE
abbrev pub is_fresh_of : ℤ → Batch → Bool
is_fresh_of priority batch = not batch.again && int_eq batch.priority priority

-- whether it has other changes than this one
abbrev pub has_others : ℕ → Batch → Bool
has_others change batch = list_any (λ other. not (other == change)) batch.changes

abbrev pub is_fresh_beside : ℤ → ℕ → Batch → Bool
is_fresh_beside priority change batch = is_fresh_of priority batch && has_others change batch

abbrev pub has_room : Option ℕ → Batch → Bool
has_room None batch = true
has_room (Some size) batch = nat_lt (length batch.changes) size

abbrev pub with_change : ℕ → Batch → Batch
with_change change batch = record batch { changes = batch.changes ++ change ∷ [] }

-- the last batch that passes a test
abbrev pub last_so : (Batch → Bool) → List Batch → Option Batch
last_so test waiting = option_and_then (slice_get waiting) (last_where test waiting)

-- the place of the batch that a change joins: of the last fresh one of its priority, if that has room
abbrev pub if_room : Option ℕ → List Batch → Option ℕ → Option ℕ
if_room size waiting None = None
if_room size waiting (Some place) = if option_map_or (has_room size) (slice_get waiting place) false then Some place else None

abbrev pub joins : Option ℕ → ℤ → List Batch → Option ℕ
joins size priority waiting = if_room size waiting (last_where (is_fresh_of priority) waiting)

abbrev pub with_joined : ℕ → List Batch → ℕ → Option Batch → List Batch
with_joined change waiting place None = waiting
with_joined change waiting place (Some batch) = slice_set waiting place (with_change change batch)

-- It joins that batch, or is a batch of its own, under a number that is used then.
abbrev pub entered : ℕ → ℤ → ℕ → List Batch → Option ℕ → List Batch
entered number priority change waiting None = placed (fresh number priority change) waiting
entered number priority change waiting (Some place) = with_joined change waiting place (slice_get waiting place)

abbrev pub enqueued : Option ℕ → ℕ → ℤ → ℕ → Lane → Lane
enqueued size number priority change lane = record lane { waiting = entered number priority change lane.waiting (joins size priority lane.waiting) }

abbrev pub enqueue_uses : Option ℕ → ℤ → Lane → ℕ
enqueue_uses size priority lane = if is_some (joins size priority lane.waiting) then 0 else 1

-- TRY: it is a batch of its own in any case
abbrev pub tried : ℕ → ℕ → Lane → Lane
tried number change lane = record lane { waiting = placed (try_of number change) lane.waiting }

-- BACK: a batch that has changes waits again, under a number that is used then; an empty one is none
abbrev pub has_changes : Batch → Bool
has_changes batch = not (length batch.changes == 0)

abbrev pub back : ℕ → Batch → List Batch → List Batch
back number batch waiting = if has_changes batch then placed (retried number batch) waiting else waiting

abbrev pub back_uses : Batch → ℕ
back_uses batch = if has_changes batch then 1 else 0

-- TAKE OUT: only the changes stay that are chosen
abbrev pub only : (ℕ → Bool) → Batch → Batch
only stays batch = record batch { changes = filter stays batch.changes }

-- A waiting batch keeps its number, and one that is left empty is dropped.
abbrev pub left : (ℕ → Bool) → List Batch → List Batch
left stays waiting = filter has_changes (map (only stays) waiting)

abbrev pub is_landing : Stage → Bool
is_landing stage.Waiting = false
is_landing (stage.Ordered since) = false
is_landing (stage.Staged since commit reports) = false
is_landing (stage.Landing commit) = true

abbrev pub loses : (ℕ → Bool) → Batch → Bool
loses stays batch = not (list_all stays batch.changes)

-- the running batch goes back with the changes that stay; one that is landing isn't touched
abbrev pub stops_running : Bool → Batch → Bool
stops_running goes batch = goes && not (is_landing batch.stage)

abbrev pub running_back : Bool → ℕ → Batch → Batch → List Batch → Lane
running_back goes number batch rest waiting =
    if stops_running goes batch then record { running = None; waiting = back number rest waiting }
    else record { running = Some batch; waiting = waiting }

abbrev pub running_back_uses : Bool → Batch → Batch → ℕ
running_back_uses goes batch rest = if stops_running goes batch then back_uses rest else 0

-- It goes back if it loses a change.
abbrev pub running_taken : (ℕ → Bool) → ℕ → Option Batch → List Batch → Lane
running_taken stays number None waiting = record { running = None; waiting = waiting }
running_taken stays number (Some batch) waiting = running_back (loses stays batch) number batch (only stays batch) waiting

abbrev pub taken_out : (ℕ → Bool) → ℕ → Lane → Lane
taken_out stays number lane = running_taken stays number lane.running (left stays lane.waiting)

abbrev running_taken_uses : (ℕ → Bool) → Option Batch → ℕ
running_taken_uses stays None = 0
running_taken_uses stays (Some batch) = running_back_uses (loses stays batch) batch (only stays batch)

abbrev pub taken_out_uses : (ℕ → Bool) → Lane → ℕ
taken_out_uses stays lane = running_taken_uses stays lane.running

-- RESTART: the running batch goes back in any case
abbrev pub running_restarted : ℕ → Option Batch → List Batch → Lane
running_restarted number None waiting = record { running = None; waiting = waiting }
running_restarted number (Some batch) waiting = running_back true number batch batch waiting

abbrev pub restarted : ℕ → Lane → Lane
restarted number lane = running_restarted number lane.running lane.waiting

abbrev running_restarted_uses : Option Batch → ℕ
running_restarted_uses None = 0
running_restarted_uses (Some batch) = running_back_uses true batch batch

abbrev pub restarted_uses : Lane → ℕ
restarted_uses lane = running_restarted_uses lane.running

-- REQUEUE the chosen changes of the running batch, whatever its stage
abbrev pub running_requeued : (ℕ → Bool) → ℕ → Option Batch → List Batch → Lane
running_requeued stays number None waiting = record { running = None; waiting = waiting }
running_requeued stays number (Some batch) waiting = record { running = None; waiting = back number (only stays batch) waiting }

abbrev pub requeued : (ℕ → Bool) → ℕ → Lane → Lane
requeued stays number lane = running_requeued stays number lane.running lane.waiting

abbrev pub requeued_uses : (ℕ → Bool) → Lane → ℕ
requeued_uses stays lane = option_map_or (λ batch. back_uses (only stays batch)) lane.running 0

-- SPLIT a batch: its first half, rounded down, and the rest each wait again
abbrev pub half : Batch → ℕ
half batch = length batch.changes / 2

abbrev pub first_half : Batch → Batch
first_half batch = record batch { changes = take (half batch) batch.changes }

abbrev pub second_half : Batch → Batch
second_half batch = record batch { changes = drop (half batch) batch.changes }

abbrev pub split_into : ℕ → Batch → List Batch → List Batch
split_into number batch waiting = placed (retried (number + 1) (second_half batch)) (placed (retried number (first_half batch)) waiting)

-- FAIL the running batch: one of several changes is split, another is dropped
abbrev pub has_several : Batch → Bool
has_several batch = nat_lt 1 (length batch.changes)

abbrev pub running_failed : ℕ → Option Batch → List Batch → Lane
running_failed number None waiting = record { running = None; waiting = waiting }
running_failed number (Some batch) waiting = record { running = None; waiting = if has_several batch then split_into number batch waiting else waiting }

abbrev pub failed : ℕ → Lane → Lane
failed number lane = running_failed number lane.running lane.waiting

abbrev pub failed_uses : Lane → ℕ
failed_uses lane = option_map_or (λ batch. if has_several batch then 2 else 0) lane.running 0

-- ORDER the first waiting batch, if none is running
abbrev pub ordered_at : ℕ → Batch → Batch
ordered_at now batch = record batch { stage = stage.Ordered now }

abbrev pub first_started : ℕ → List Batch → Lane
first_started now [] = empty_lane
first_started now (batch ∷ waiting) = record { running = Some (ordered_at now batch); waiting = waiting }

abbrev pub started_beside : ℕ → Option Batch → List Batch → Lane
started_beside now None waiting = first_started now waiting
started_beside now (Some batch) waiting = record { running = Some batch; waiting = waiting }

abbrev pub started : ℕ → Lane → Lane
started now lane = started_beside now lane.running lane.waiting

-- STAGED: the running batch is tested from now on
abbrev pub staged_at : ℕ → List ℕ → Batch → Batch
staged_at now commit batch = record batch { stage = stage.Staged now commit finite.empty }

abbrev pub staged : ℕ → List ℕ → Lane → Lane
staged now commit lane = record lane { running = option_map (staged_at now commit) lane.running }

-- SUCCESS of a status: its last report is one
abbrev pub is_success : Report → Bool
is_success report.Success = true
is_success report.Pending = false

-- whether the last report of this name is a success
abbrev pub has_succeeded : FinMap (slice_cmp nat_cmp) Report → List ℕ → Bool
has_succeeded reports name = option_map_or is_success (finite.get reports name) false

-- REPORTED: the last report of a required status takes the place of the one before, while the batch is tested
abbrev pub with_report : List ℕ → Report → Stage → Stage
with_report name report stage.Waiting = stage.Waiting
with_report name report (stage.Ordered since) = stage.Ordered since
with_report name report (stage.Staged since commit reports) = stage.Staged since commit (finite.insert reports name report)
with_report name report (stage.Landing commit) = stage.Landing commit

abbrev pub reported_on : List ℕ → Report → Batch → Batch
reported_on name report batch = record batch { stage = with_report name report batch.stage }

abbrev pub reported : List ℕ → Report → Lane → Lane
reported name report lane = record lane { running = option_map (reported_on name report) lane.running }

-- LANDING: the commit that was tested is to land
abbrev pub to_landing : Stage → Stage
to_landing stage.Waiting = stage.Waiting
to_landing (stage.Ordered since) = stage.Ordered since
to_landing (stage.Staged since commit reports) = stage.Landing commit
to_landing (stage.Landing commit) = stage.Landing commit

abbrev pub to_land : Batch → Batch
to_land batch = record batch { stage = to_landing batch.stage }

abbrev pub landing : Lane → Lane
landing lane = record lane { running = option_map to_land lane.running }

-- DROP the running batch
abbrev pub dropped : Lane → Lane
dropped lane = record lane { running = None }
