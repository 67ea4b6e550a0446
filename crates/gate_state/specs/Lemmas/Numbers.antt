-- What is done to a lane, and the numbers of its batches: only new ones come, each once.
use Rattle.std.proofs.Common.{◌≡◌, ◌≤◌, ℕ, ℤ, ◌+◌, eqb, Bool, true, false, List, [], ◌∷◌, if◌then◌else◌, Option, Some, None, is_some, slice_get, refl, ap, arith}
use Rattle.std.proofs.lemmas.Bool.Decides.{nat_tests}
use Rattle.std.proofs.lemmas.List.Sums.{sum_by-cons, sum_by-set, sum_by-le-sum_by}
use Rattle.std.proofs.lemmas.Option.{slice_get_within, get_or_from_slice_get}
use Rattle.std.specs.Option.{option_map_or}
use Rattle.gate_state.specs.Lemmas.Counts.{sum-placed, sum-back, sum-left, sum-split}
use Rattle.gate_state.specs.Counts.{uses}
use Rattle.gate_state.specs.Lanes as lanes
use Rattle.gate_state.specs.Lanes.{batches_of, fresh, try_of, with_change, with_joined, entered, joins, enqueued, enqueue_uses, tried, has_changes, back, back_uses, only, left, stops_running, running_back, running_back_uses, taken_out, taken_out_uses, restarted, restarted_uses, requeued, requeued_uses, has_several, failed, failed_uses, ordered_at, started, staged, reported, landing, dropped}
use Rattle.gate_state.specs.Service.{is_new, OnlyNew, LawOfNumbers}
use Rattle.gate_state.specs.declared.batch.Batch.{Batch}
use Rattle.gate_state.specs.declared.batch.Report.{Report}
use Rattle.gate_state.specs.declared.lane.Lane.{Lane}

abbrev once : Bool → ℕ
once b = if b then 1 else 0

abbrev pub has_number : ℕ → Batch → ℕ
has_number number batch = once (eqb number batch.number)

-- THE RUNNING BATCH apart from the waiting ones
abbrev running_uses : ℕ → Option Batch → ℕ
running_uses number running = option_map_or (has_number number) running 0

pub all_uses : (number : ℕ) (lane : Lane) → uses number (batches_of lane) ≡ running_uses number lane.running + uses number lane.waiting
all_uses number lane = by lane.running where
  by : (running : Option Batch) → uses number (batches_of (record { running = running; waiting = lane.waiting })) ≡ running_uses number running + uses number lane.waiting
  by None = omega arith
  by (Some batch) = sum_by-cons (has_number number) batch lane.waiting

-- WHAT WAITS has no number more often, but for new ones.
module _ (next number : ℕ) where
  abbrev new : ℕ → ℕ
  new count = once (is_new next count number)

  new_one : once (eqb number next) ≤ new 1
  new_one = grind (arith, nat_tests)

  new_two : once (eqb number next) + once (eqb number (next + 1)) ≤ new 2
  new_two = grind (arith, nat_tests)

  entered_new : (priority : ℤ) (change : ℕ) (waiting : List Batch) (place : Option ℕ)
      → uses number (entered next priority change waiting place) ≤ uses number waiting + new (if is_some place then 0 else 1)
  entered_new priority change waiting None = omega (arith, sum-placed (has_number number) (fresh next priority change) waiting, new_one)
  entered_new priority change waiting (Some place) = by (slice_get waiting place) refl where
    by : (found : Option Batch) → slice_get waiting place ≡ found → uses number (with_joined change waiting place found) ≤ uses number waiting + new 0
    by None is = omega arith
    by (Some old) is =
        let same = ap (has_number number) (get_or_from_slice_get waiting place old old is) in
        let set = sum_by-set (has_number number) waiting place (with_change change old) old (slice_get_within waiting place old is) in
        omega (arith, set, same)

  back_new : (batch : Batch) (waiting : List Batch) → uses number (back next batch waiting) ≤ uses number waiting + new (back_uses batch)
  back_new batch waiting = by (has_changes batch) (sum-back (has_number number) next batch waiting) where
    by : (some : Bool) → uses number (back next batch waiting) ≡ (if some then once (eqb number next) else 0) + uses number waiting
        → uses number (back next batch waiting) ≤ uses number waiting + new (if some then 1 else 0)
    by true sum = omega (arith, sum, new_one)
    by false sum = omega (arith, sum)

  split_new : (batch : Batch) (waiting : List Batch) → uses number (lanes.split_into next batch waiting) ≤ uses number waiting + new 2
  split_new batch waiting = omega (arith, sum-split (has_number number) next batch waiting, new_two)

pub left_uses : (number : ℕ) (stays : ℕ → Bool) (waiting : List Batch) → uses number (left stays waiting) ≤ uses number waiting
left_uses number stays waiting =
    omega (arith, sum-left (has_number number) stays rest (λ batch. refl) waiting, sum_by-le-sum_by rest (has_number number) waiting at_most) where
      rest : Batch → ℕ
      rest batch = if has_changes (only stays batch) then has_number number batch else 0

      at_most : (batch : Batch) → rest batch ≤ has_number number batch
      at_most batch = by (has_changes (only stays batch)) where
        by : (some : Bool) → (if some then has_number number batch else 0) ≤ has_number number batch
        by true = omega arith
        by false = omega arith

-- THE LANE, where the running batch stays or goes
only_new : (next count : ℕ) (lane after : Lane)
    → ((number : ℕ) → running_uses number after.running ≤ running_uses number lane.running)
    → ((number : ℕ) → uses number after.waiting ≤ uses number lane.waiting + new next number count) → OnlyNew next count lane after
only_new next count lane after running waiting =
    record {
      waiting = waiting;
      all = λ number. omega (arith, running number, waiting number, all_uses number lane, all_uses number after);
    }

unchanged : (next : ℕ) (lane : Lane) → OnlyNew next 0 lane lane
unchanged next lane = only_new next 0 lane lane (λ number. omega arith) (λ number. omega arith)

module _ (next : ℕ) (lane : Lane) where
  -- the lane again, for each case of what runs
  abbrev beside : Option Batch → Lane
  beside running = record { running = running; waiting = lane.waiting }

  enqueue_new : (size : Option ℕ) (priority : ℤ) (change : ℕ) → OnlyNew next (enqueue_uses size priority lane) lane (enqueued size next priority change lane)
  enqueue_new size priority change =
      only_new next _ lane (enqueued size next priority change lane) (λ number. omega arith)
      (λ number. entered_new next number priority change lane.waiting (joins size priority lane.waiting))

  try_new : (change : ℕ) → OnlyNew next 1 lane (tried next change lane)
  try_new change =
      only_new next 1 lane (tried next change lane) (λ number. omega arith)
      (λ number. omega (arith, sum-placed (has_number number) (try_of next change) lane.waiting, new_one next number))

  -- the running batch goes back, beside waiting ones that are no more than before
  running_back_new : (goes : Bool) (batch rest : Batch) (waiting : List Batch) → ((number : ℕ) → uses number waiting ≤ uses number lane.waiting)
      → OnlyNew next (running_back_uses goes batch rest) (beside (Some batch)) (running_back goes next batch rest waiting)
  running_back_new goes batch rest waiting fewer = by (stops_running goes batch) where
    by : (stops : Bool) → OnlyNew next (if stops then back_uses rest else 0) (beside (Some batch))
        (if stops then record { running = None; waiting = back next rest waiting } else record { running = Some batch; waiting = waiting })
    by true =
        only_new next (back_uses rest) (beside (Some batch)) (record { running = None; waiting = back next rest waiting }) (λ number. omega arith)
        (λ number. omega (arith, back_new next number rest waiting, fewer number))
    by false =
        only_new next 0 (beside (Some batch)) (record { running = Some batch; waiting = waiting }) (λ number. omega arith) (λ number. omega (arith, fewer number))

  take_out_new : (stays : ℕ → Bool) → OnlyNew next (taken_out_uses stays lane) lane (taken_out stays next lane)
  take_out_new stays = by lane.running where
    by : (running : Option Batch) → OnlyNew next (taken_out_uses stays (beside running)) (beside running) (taken_out stays next (beside running))
    by None = only_new next 0 (beside None) (taken_out stays next (beside None)) (λ number. omega arith) (λ number. omega (arith, left_uses number stays lane.waiting))
    by (Some batch) = running_back_new (lanes.loses stays batch) batch (only stays batch) (left stays lane.waiting) (λ number. left_uses number stays lane.waiting)

  restart_new : OnlyNew next (restarted_uses lane) lane (restarted next lane)
  restart_new = by lane.running where
    by : (running : Option Batch) → OnlyNew next (restarted_uses (beside running)) (beside running) (restarted next (beside running))
    by None = unchanged next (beside None)
    by (Some batch) = running_back_new true batch batch lane.waiting (λ number. omega arith)

  requeue_new : (stays : ℕ → Bool) → OnlyNew next (requeued_uses stays lane) lane (requeued stays next lane)
  requeue_new stays = by lane.running where
    by : (running : Option Batch) → OnlyNew next (requeued_uses stays (beside running)) (beside running) (requeued stays next (beside running))
    by None = unchanged next (beside None)
    by (Some batch) =
        only_new next (back_uses (only stays batch)) (beside (Some batch)) (requeued stays next (beside (Some batch))) (λ number. omega arith)
        (λ number. back_new next number (only stays batch) lane.waiting)

  fail_new : OnlyNew next (failed_uses lane) lane (failed next lane)
  fail_new = by lane.running where
    by : (running : Option Batch) → OnlyNew next (failed_uses (beside running)) (beside running) (failed next (beside running))
    by None = unchanged next (beside None)
    by (Some batch) = split (has_several batch) where
      split : (several : Bool) → OnlyNew next (if several then 2 else 0) (beside (Some batch))
          (record { running = None; waiting = if several then lanes.split_into next batch lane.waiting else lane.waiting })
      split true =
          only_new next 2 (beside (Some batch)) (record { running = None; waiting = lanes.split_into next batch lane.waiting }) (λ number. omega arith)
          (λ number. split_new next number batch lane.waiting)
      split false = only_new next 0 (beside (Some batch)) (beside None) (λ number. omega arith) (λ number. omega arith)

  drop_new : OnlyNew next 0 lane (dropped lane)
  drop_new = only_new next 0 lane (dropped lane) (λ number. omega arith) (λ number. omega arith)

  -- The first waiting batch runs under its number, so that all are those of before.
  start_new : (now : ℕ) → OnlyNew next 0 lane (started now lane)
  start_new now = by lane.running lane.waiting where
    by : (running : Option Batch) (waiting : List Batch)
        → OnlyNew next 0 (record { running = running; waiting = waiting }) (started now (record { running = running; waiting = waiting }))
    by None [] = unchanged next (record { running = None; waiting = [] })
    by None (first ∷ waiting) =
        record {
          waiting = λ number. omega (arith, sum_by-cons (has_number number) first waiting);
          all = λ number. omega (arith, sum_by-cons (has_number number) first waiting, sum_by-cons (has_number number) (ordered_at now first) waiting);
        }
    by (Some batch) waiting = unchanged next (record { running = Some batch; waiting = waiting })

  stage_new : (now : ℕ) (commit : List ℕ) → OnlyNew next 0 lane (staged now commit lane)
  stage_new now commit = by lane.running where
    by : (running : Option Batch) → OnlyNew next 0 (beside running) (staged now commit (beside running))
    by None = unchanged next (beside None)
    by (Some batch) =
        let same = unchanged next (beside (Some batch)) in
        record { waiting = same.waiting; all = same.all }

  report_new : (name : List ℕ) (report : Report) → OnlyNew next 0 lane (reported name report lane)
  report_new name report = by lane.running where
    by : (running : Option Batch) → OnlyNew next 0 (beside running) (reported name report (beside running))
    by None = unchanged next (beside None)
    by (Some batch) =
        let same = unchanged next (beside (Some batch)) in
        record { waiting = same.waiting; all = same.all }

  land_new : OnlyNew next 0 lane (landing lane)
  land_new = by lane.running where
    by : (running : Option Batch) → OnlyNew next 0 (beside running) (landing (beside running))
    by None = unchanged next (beside None)
    by (Some batch) =
        let same = unchanged next (beside (Some batch)) in
        record { waiting = same.waiting; all = same.all }

pub numbers_law : LawOfNumbers
numbers_law next lane =
    record {
      enqueue = enqueue_new next lane;
      enqueue_try = try_new next lane;
      take_out = take_out_new next lane;
      restart = restart_new next lane;
      requeue = requeue_new next lane;
      fail = fail_new next lane;
      start = start_new next lane;
      stage = stage_new next lane;
      report = report_new next lane;
      land = land_new next lane;
      drop = drop_new next lane;
    }
