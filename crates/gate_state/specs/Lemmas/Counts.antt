-- What is done to waiting batches, as sums over them see it, and the laws of changes.
use Rattle.std.proofs.Common.{◌≡◌, ◌+◌, ℕ, suc, ℤ, eqb, Bool, true, false, cond, not, ◌&&◌, List, [], ◌∷◌, ◌++◌, length, slice_get, slice_set, if◌then◌else◌, Option, Some, None, refl, sym, ◌∙◌, ap, arith}
use Rattle.std.proofs.lemmas.Bool.{and_parts}
use Rattle.std.proofs.lemmas.Bool.Decides.{nat_tests, Decides-int_eq}
use Rattle.std.proofs.lemmas.List.Sums.{sum_by-cons, sum_by-insert, sum_by-set, sum_by-take-drop, sum_by_push}
use Rattle.std.proofs.lemmas.Option.{slice_get_within, get_or_from_slice_get, same_Some}
use Rattle.std.specs.List.{sum_by, filter, list_all}
use Rattle.std.specs.Bool.{then_some}
use Rattle.std.specs.Option.{option_map, option_map_or, option_or}
use Rattle.gate_text.specs.LastWhere.{last_where}
use Rattle.gate_state.specs.Counts.{occurs, held_by, inside, held, in_running, in_landing, in_lone, LawOfEnqueue, LawOfTry, LawOfTakeOut, LawOfRestart, LawOfStart, LawOfStage, LawOfReport, LawOfLand, LawOfRequeue, LawOfFail, LawOfDrop}
use Rattle.gate_state.specs.Lanes as lanes
use Rattle.gate_state.specs.Lanes.{placed, retried, with_change, has_changes, back, only, left, half, first_half, second_half, split_into}
use Rattle.gate_state.specs.declared.batch.Batch.{Batch}
use Rattle.gate_state.specs.declared.lane.Lane.{Lane}

abbrev once : Bool → ℕ
once b = if b then 1 else 0

-- SUMS over waiting batches, for any count of a batch
module _ (count : Batch → ℕ) where
  pub sum-placed : (batch : Batch) (waiting : List Batch) → sum_by count (placed batch waiting) ≡ count batch + sum_by count waiting
  sum-placed batch waiting = sum_by-insert count waiting _ batch ∙ omega arith

  pub sum-back : (number : ℕ) (batch : Batch) (waiting : List Batch)
      → sum_by count (back number batch waiting) ≡ (if has_changes batch then count (retried number batch) else 0) + sum_by count waiting
  sum-back number batch waiting = by (has_changes batch) where
    by : (some : Bool) → sum_by count (if some then placed (retried number batch) waiting else waiting) ≡ (if some then count (retried number batch) else 0) + sum_by count waiting
    by true = sum-placed (retried number batch) waiting
    by false = omega arith

  pub sum-split : (number : ℕ) (batch : Batch) (waiting : List Batch) → sum_by count (split_into number batch waiting)
      ≡ count (retried number (first_half batch)) + count (retried (number + 1) (second_half batch)) + sum_by count waiting
  sum-split number batch waiting =
      omega (arith, sum-placed (retried (number + 1) (second_half batch)) (placed (retried number (first_half batch)) waiting), sum-placed (retried number (first_half batch)) waiting)

  -- if the rest of a batch counts as given, and as nothing if it is empty
  pub sum-left : (stays : ℕ → Bool) (rest : Batch → ℕ)
      → ((batch : Batch) → (if has_changes (only stays batch) then count (only stays batch) else 0) ≡ rest batch)
      → (waiting : List Batch) → sum_by count (left stays waiting) ≡ sum_by rest waiting
  sum-left stays rest same [] = refl
  sum-left stays rest same (first ∷ waiting) = by (has_changes (only stays first)) (sum-left stays rest same waiting) (same first) ∙ sym (sum_by-cons rest first waiting) where
    by : (some : Bool) → sum_by count (left stays waiting) ≡ sum_by rest waiting → (if some then count (only stays first) else 0) ≡ rest first
        → sum_by count (cond some (only stays first ∷ left stays waiting) (left stays waiting)) ≡ rest first + sum_by rest waiting
    by true others one = omega (arith, sum_by-cons count (only stays first) (left stays waiting), others, one)
    by false others one = omega (arith, others, one)

-- CHANGES of a batch
-- one more behind
occurs-push : (change : ℕ) (changes : List ℕ) (last : ℕ) → occurs change (changes ++ last ∷ []) ≡ occurs change changes + once (eqb change last)
occurs-push change changes last = sum_by_push (λ other. once (eqb change other)) changes last

-- the chosen ones alone
occurs-filter : (stays : ℕ → Bool) (change : ℕ) (changes : List ℕ) → occurs change (filter stays changes) ≡ (if stays change then occurs change changes else 0)
occurs-filter stays change [] = grind (arith, nat_tests)
occurs-filter stays change (first ∷ changes) =
    let others = occurs-filter stays change changes in
    let all = one changes in
    let kept = one (filter stays changes) in
    grind (arith, nat_tests) where
      one : (cs : List ℕ) → occurs change (first ∷ cs) ≡ once (eqb change first) + occurs change cs
      one cs = sum_by-cons (λ other. once (eqb change other)) first cs

-- THE LAWS OF CHANGES, for batches whose priority passes a test
module _ (test : ℤ → Bool) (change : ℕ) where
  abbrev of : Batch → ℕ
  of batch = held_by test change batch

  -- an empty batch holds nothing
  held_if : (batch : Batch) → (if has_changes batch then of batch else 0) ≡ of batch
  held_if batch = by (test batch.priority) batch.changes where
    by : (passes : Bool) (changes : List ℕ) → (if not (eqb (length changes) 0) then (if passes then occurs change changes else 0) else 0) ≡ (if passes then occurs change changes else 0)
    by passes [] = grind (arith, nat_tests)
    by passes (first ∷ changes) = grind (arith, nat_tests)

  of_only : (stays : ℕ → Bool) (batch : Batch) → of (only stays batch) ≡ (if stays change then of batch else 0)
  of_only stays batch = let kept = occurs-filter stays change batch.changes in grind (arith, nat_tests)

  of_halves : (batch : Batch) → of (first_half batch) + of (second_half batch) ≡ of batch
  of_halves batch = let halves = sum_by-take-drop (λ other. once (eqb change other)) batch.changes (half batch) in grind (arith, nat_tests)

  of_joined : (joined : ℕ) (batch : Batch) → of (with_change joined batch) ≡ of batch + once (eqb change joined && test batch.priority)
  of_joined joined batch = let one = occurs-push change batch.changes joined in grind (arith, nat_tests)

  in_placed : (batch : Batch) (waiting : List Batch) → inside test change (placed batch waiting) ≡ of batch + inside test change waiting
  in_placed batch waiting = sum-placed of batch waiting

  in_back : (number : ℕ) (batch : Batch) (waiting : List Batch) → inside test change (back number batch waiting) ≡ of batch + inside test change waiting
  in_back number batch waiting = sum-back of number batch waiting ∙ ap (λ (n : ℕ). n + inside test change waiting) (held_if batch)

  neither_all : (waiting : List Batch) → sum_by (λ (batch : Batch). 0) waiting ≡ 0
  neither_all [] = refl
  neither_all (first ∷ waiting) = neither_all waiting

  in_left : (stays : ℕ → Bool) (waiting : List Batch) → inside test change (left stays waiting) ≡ (if stays change then inside test change waiting else 0)
  in_left stays waiting = sum-left of stays (λ batch. if stays change then of batch else 0) same waiting ∙ by (stays change) where
    same : (batch : Batch) → (if has_changes (only stays batch) then of (only stays batch) else 0) ≡ (if stays change then of batch else 0)
    same batch = held_if (only stays batch) ∙ of_only stays batch

    by : (b : Bool) → sum_by (λ (batch : Batch). if b then of batch else 0) waiting ≡ (if b then inside test change waiting else 0)
    by true = refl
    by false = neither_all waiting

  in_set : (waiting : List Batch) (at : ℕ) (old new : Batch) → slice_get waiting at ≡ Some old
      → inside test change (slice_set waiting at new) + of old ≡ inside test change waiting + of new
  in_set waiting at old new is =
      ap (λ (batch : Batch). inside test change (slice_set waiting at new) + of batch) (sym (get_or_from_slice_get waiting at old old is))
      ∙ sum_by-set of waiting at new old (slice_get_within waiting at old is)

  -- the running batch apart
  pub held_is : (lane : Lane) → held test change lane ≡ in_running test change lane + inside test change lane.waiting
  held_is lane = by lane.running where
    by : (at : Option Batch) → held test change (record lane { running = at }) ≡ in_running test change (record lane { running = at }) + inside test change lane.waiting
    by None = omega arith
    by (Some batch) = sum_by-cons of batch lane.waiting

pub start_law : LawOfStart
start_law test now change lane = by lane.running lane.waiting where
  by : (at : Option Batch) (waiting : List Batch) → held test change (lanes.started_beside now at waiting) ≡ held test change (record { running = at; waiting = waiting })
  by None [] = refl
  by None (first ∷ waiting) = refl
  by (Some batch) waiting = refl

pub stage_law : LawOfStage
stage_law test now commit change lane = by lane.running where
  by : (at : Option Batch) → held test change (lanes.staged now commit (record lane { running = at })) ≡ held test change (record lane { running = at })
  by None = refl
  by (Some batch) = refl

pub report_law : LawOfReport
report_law test name report change lane = by lane.running where
  by : (at : Option Batch) → held test change (lanes.reported name report (record lane { running = at })) ≡ held test change (record lane { running = at })
  by None = refl
  by (Some batch) = refl

pub land_law : LawOfLand
land_law test change lane = by lane.running where
  by : (at : Option Batch) → held test change (lanes.landing (record lane { running = at })) ≡ held test change (record lane { running = at })
  by None = refl
  by (Some batch) = refl

pub drop_law : LawOfDrop
drop_law test change lane = omega (arith, held_is test change lane)

pub restart_law : LawOfRestart
restart_law test number change lane = by lane.running where
  by : (at : Option Batch) → held test change (lanes.running_restarted number at lane.waiting) ≡ held test change (record lane { running = at })
  by None = refl
  by (Some batch) = stops (lanes.stops_running true batch) where
    stops : (goes : Bool) → held test change (if goes then record { running = None; waiting = back number batch lane.waiting } else record lane { running = Some batch })
        ≡ held test change (record lane { running = Some batch })
    stops true = in_back test change number batch lane.waiting ∙ sym (held_is test change (record lane { running = Some batch }))
    stops false = refl

pub requeue_law : LawOfRequeue
requeue_law test stays number change lane = by lane.running where
  by : (at : Option Batch) → held test change (lanes.running_requeued stays number at lane.waiting) + (if stays change then 0 else in_running test change (record lane { running = at }))
      ≡ held test change (record lane { running = at })
  by None = grind (arith, nat_tests)
  by (Some batch) =
      let kept = of_only test change stays batch in
      let again = in_back test change number (only stays batch) lane.waiting in
      let before = held_is test change (record lane { running = Some batch }) in
      grind (arith, nat_tests)

pub fail_law : LawOfFail
fail_law test number change lane = by lane.running where
  by : (at : Option Batch) → held test change (lanes.running_failed number at lane.waiting) + in_lone test change (record lane { running = at })
      ≡ held test change (record lane { running = at })
  by None = omega arith
  by (Some batch) = several (lanes.has_several batch) where
    several : (b : Bool) → inside test change (if b then split_into number batch lane.waiting else lane.waiting) + (if b then 0 else held_by test change batch)
        ≡ held test change (record lane { running = Some batch })
    several true =
        let halves = sum-split (held_by test change) number batch lane.waiting in
        omega (arith, halves, of_halves test change batch, held_is test change (record lane { running = Some batch }))
    several false = omega (arith, held_is test change (record lane { running = Some batch }))

-- what is found at the place of the last that passes does pass
last_passes : {X : Type 0} (test : X → Bool) (xs : List X) (at : ℕ) (x : X) → last_where test xs ≡ Some at → slice_get xs at ≡ Some x → test x ≡ true
last_passes test [] at x last is = cc is
last_passes test (first ∷ xs) at x last is = by (last_where test xs) (test first) refl (λ place. last_passes test xs place x) last where
  found : (place : ℕ) → Some place ≡ Some at → slice_get (first ∷ xs) place ≡ Some x
  found place same = ap (slice_get (first ∷ xs)) (same_Some place at same) ∙ is

  by : (later : Option ℕ) (passes : Bool) → test first ≡ passes → ((place : ℕ) → later ≡ Some place → slice_get xs place ≡ Some x → test x ≡ true)
      → option_or (option_map suc later) (then_some passes 0) ≡ Some at → test x ≡ true
  by None true first_passes others last = ap test (sym (same_Some first x (found 0 last))) ∙ first_passes
  by None false first_passes others last = cc last
  by (Some place) passes first_passes others last = others place refl (found (suc place) last)

pub enqueue_law : LawOfEnqueue
enqueue_law test size number priority change other lane =
    let one = entered_at (last_where (lanes.is_fresh_of priority) lane.waiting) refl in
    omega (arith, one, held_is test other lane, held_is test other (lanes.enqueued size number priority change lane)) where
      more : ℕ
      more = inside test other lane.waiting + once (eqb other change && test priority)

      -- in a batch of its own
      alone_in : inside test other (placed (lanes.fresh number priority change) lane.waiting) ≡ more
      alone_in =
          let joined = of_joined test other change (record (lanes.fresh number priority change) { changes = [] }) in
          grind (arith, nat_tests, joined, in_placed test other (lanes.fresh number priority change) lane.waiting)

      entered_at : (last : Option ℕ) → last_where (lanes.is_fresh_of priority) lane.waiting ≡ last
          → inside test other (lanes.entered number priority change lane.waiting (lanes.if_room size lane.waiting last)) ≡ more
      entered_at None none = alone_in
      entered_at (Some at) last = got (slice_get lane.waiting at) refl where
        got : (found : Option Batch) → slice_get lane.waiting at ≡ found
            → inside test other (lanes.entered number priority change lane.waiting (if option_map_or (lanes.has_room size) found false then Some at else None)) ≡ more
        got None is = alone_in
        got (Some old) is = room (lanes.has_room size old) where
          same : old.priority ≡ priority
          same = (Decides-int_eq old.priority priority).0 (and_parts (not old.again) _ (last_passes (lanes.is_fresh_of priority) lane.waiting at old last is)).1

          joined : held_by test other (with_change change old) ≡ held_by test other old + once (eqb other change && test priority)
          joined = of_joined test other change old ∙ ap (λ (p : ℤ). held_by test other old + once (eqb other change && test p)) same

          room : (b : Bool) → inside test other (lanes.entered number priority change lane.waiting (if b then Some at else None)) ≡ more
          room true = rw is (omega (arith, in_set test other lane.waiting at old (with_change change old) is, joined))
          room false = alone_in

pub try_law : LawOfTry
try_law test number change other lane =
    let batch = lanes.try_of number change in
    let one = of_joined test other change (record batch { changes = [] }) in
    grind (arith, nat_tests, one, in_placed test other batch lane.waiting, held_is test other lane, held_is test other (lanes.tried number change lane))

-- a batch that loses nothing has its changes
pub all_stay : (stays : ℕ → Bool) (changes : List ℕ) → list_all stays changes ≡ true → filter stays changes ≡ changes
all_stay stays [] all = refl
all_stay stays (first ∷ changes) all =
    let rest = all_stay stays changes (grind (arith, all)) in
    grind (arith, nat_tests)

pub take_out_law : LawOfTakeOut
take_out_law test stays number change lane = by lane.running where
  waits : List Batch
  waits = left stays lane.waiting

  waits_are : inside test change waits ≡ (if stays change then inside test change lane.waiting else 0)
  waits_are = in_left test change stays lane.waiting

  by : (at : Option Batch) → held test change (lanes.running_taken stays number at waits)
      ≡ (if stays change then held test change (record lane { running = at }) else in_landing test change (record lane { running = at }))
  by None = waits_are
  by (Some batch) = goes (lanes.loses stays batch) (lanes.is_landing batch.stage) refl where
    before : held test change (record lane { running = Some batch }) ≡ held_by test change batch + inside test change lane.waiting
    before = held_is test change (record lane { running = Some batch })

    running_on : held test change (record { running = Some batch; waiting = waits }) ≡ held_by test change batch + inside test change waits
    running_on = held_is test change (record { running = Some batch; waiting = waits })

    again : inside test change (back number (only stays batch) waits) ≡ held_by test change (only stays batch) + inside test change waits
    again = in_back test change number (only stays batch) waits

    kept : held_by test change (only stays batch) ≡ (if stays change then held_by test change batch else 0)
    kept = of_only test change stays batch

    goes : (loses lands : Bool) → lanes.loses stays batch ≡ loses
        → held test change (if loses && not lands then record { running = None; waiting = back number (only stays batch) waits } else record { running = Some batch; waiting = waits })
        ≡ (if stays change then held test change (record lane { running = Some batch }) else (if lands then held_by test change batch else 0))
    goes true false l = grind (arith, nat_tests, before, again, kept, waits_are)
    goes true true l = grind (arith, nat_tests, before, running_on, waits_are)
    goes false lands l =
        let same = ap (λ changes. held_by test change (record batch { changes = changes })) (all_stay stays batch.changes (grind (arith, l))) in
        grind (arith, nat_tests, before, running_on, kept, waits_are)
