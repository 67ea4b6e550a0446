-- What each operation on a lane keeps of its batches: those that wait have changes, and the running one is under way.
use Rattle.std.proofs.Common.{◌≡◌, ◌≤◌, ◌+◌, ◌/◌, ℕ, ℤ, eqb, ltb, Bool, true, false, not, List, [], ◌∷◌, ◌++◌, length, take, drop, length-append, slice_get, Option, Some, None, IfSome, refl, subst, arith}
use Rattle.std.proofs.lemmas.Bool.Decides.{nat_tests}
use Rattle.std.proofs.lemmas.List.{length-take, length-drop}
use Rattle.std.proofs.lemmas.List.Elements.{All-nil, All-cons, All-head, All-tail, All-append, All-take, All-drop, All-set, All-get_or}
use Rattle.std.proofs.lemmas.Option.{slice_get_within, get_or_from_slice_get}
use Rattle.std.proofs.lemmas.Map.Text.{is_eq-slice_cmp}
use Rattle.std.proofs.lemmas.Slice.Eq.{bytes_eq-Decides}
use Rattle.std.specs.Cmp.Lexicographic.{nat_list_cmp_total}
use Rattle.std.specs.FinMap.{get-empty, get-insert}
use Rattle.std.specs.List.{All}
use Rattle.gate_queue.specs.Vocabulary.{SettingsView, is_required, Batch, Branch, Staging, Trying, Report, StageOf as Stage, Lane}
use Rattle.gate_state.specs.Lanes.{placed, fresh, try_of, tried, retried, has_changes, back, only, left, with_change, with_joined, entered, joins, first_half, second_half, has_several, split_into, is_landing, loses, stops_running, running_back, enqueued, taken_out, restarted, failed, started, staged, requeued, with_report, reported, landing}
use Rattle.gate_state.specs.State.{IsWaiting, IsUnderway, IsRunning}
use Rattle.gate_queue.proofs.Choosing.{either_way}

-- A LANE, by the clock and the settings
pub record IsLane (on : Branch) (now : ℕ) (settings : Option SettingsView) (lane : Lane) : Type 0 where
  pub waiting : All (IsWaiting on) lane.waiting
  pub running : IfSome lane.running (IsRunning on now settings)

-- A STAGE. Neither the clock nor the settings matter to what is landing.
still_landing : (now later : ℕ) (settings others : Option SettingsView) (at : Stage) → is_landing at ≡ true → IsUnderway now settings at → IsUnderway later others at
still_landing now later settings others at lands is = grind arith

later_stage : (now later : ℕ) (settings : Option SettingsView) (at : Stage) → now ≤ later → IsUnderway now settings at → IsUnderway later settings at
later_stage now later settings at past is = grind arith

reported_stage : (now : ℕ) (settings : Option SettingsView) (name : List ℕ) (report : Report) (at : Stage) → is_required settings name ≡ true → IsUnderway now settings at
    → IsUnderway now settings (with_report name report at)
reported_stage now settings name report at required is = grind (arith, get-insert, nat_list_cmp_total, is_eq-slice_cmp, bytes_eq-Decides)

-- WHATEVER THE BRANCH
module _ (on : Branch) where
  abbrev AllWait : List Batch → Type 0
  AllWait waiting = All (IsWaiting on) waiting

  abbrev beside : Option Batch → List Batch → Lane
  beside running waiting = record { running = running; waiting = waiting }

  -- WAITING BATCHES
  placed_wait : (batch : Batch) (waiting : List Batch) → IsWaiting on batch → AllWait waiting → AllWait (placed batch waiting)
  placed_wait batch waiting is all = search (All-append, All-take, All-cons, All-drop)

  retried_waits : (number : ℕ) (batch : Batch) → batch.branch ≡ on → has_changes batch ≡ true → IsWaiting on (retried number batch)
  retried_waits number batch branch some = record { branch = branch; stage = refl; changes = some }

  back_wait : (number : ℕ) (batch : Batch) (waiting : List Batch) → batch.branch ≡ on → AllWait waiting → AllWait (back number batch waiting)
  back_wait number batch waiting branch all =
      either_way AllWait (has_changes batch) _ waiting (λ some. placed_wait (retried number batch) waiting (retried_waits number batch branch some) all) (λ none. all)

  left_wait : (stays : ℕ → Bool) (waiting : List Batch) → AllWait waiting → AllWait (left stays waiting)
  left_wait stays [] all = All-nil (IsWaiting on)
  left_wait stays (first ∷ waiting) all =
      let was = All-head (IsWaiting on) first waiting all in
      let others = left_wait stays waiting (All-tail (IsWaiting on) first waiting all) in
      either_way AllWait (has_changes (only stays first)) _ _ (λ some. All-cons (IsWaiting on) (only stays first) _ (record { branch = was.branch; stage = was.stage; changes = some }) others) (λ none. others)

  -- a half of several changes has some
  first_some : (changes : List ℕ) → ltb 1 (length changes) ≡ true → not (eqb (length (take (length changes / 2) changes)) 0) ≡ true
  first_some changes several = grind (arith, nat_tests, length-take)

  second_some : (changes : List ℕ) → ltb 1 (length changes) ≡ true → not (eqb (length (drop (length changes / 2) changes)) 0) ≡ true
  second_some changes several = grind (arith, nat_tests, length-drop)

  split_wait : (number : ℕ) (batch : Batch) (waiting : List Batch) → batch.branch ≡ on → has_several batch ≡ true → AllWait waiting → AllWait (split_into number batch waiting)
  split_wait number batch waiting branch several all =
      placed_wait (retried (number + 1) (second_half batch)) _ (retried_waits (number + 1) (second_half batch) branch (second_some batch.changes several))
      (placed_wait (retried number (first_half batch)) waiting (retried_waits number (first_half batch) branch (first_some batch.changes several)) all)

  -- THE RUNNING BATCH goes back, unless it goes on.
  goes_back : (now : ℕ) (settings : Option SettingsView) (goes : Bool) (number : ℕ) (batch rest : Batch) (waiting : List Batch) → rest.branch ≡ on
      → (stops_running goes batch ≡ false → IsRunning on now settings batch) → AllWait waiting → IsLane on now settings (running_back goes number batch rest waiting)
  goes_back now settings goes number batch rest waiting branch runs all =
      either_way (IsLane on now settings) (stops_running goes batch) (beside None (back number rest waiting)) (beside (Some batch) waiting)
      (λ stops. record { waiting = back_wait number rest waiting branch all; running = tt }) (λ stays. record { waiting = all; running = runs stays })

  pub taken_out_lane : (now : ℕ) (settings : Option SettingsView) (running : Option Batch) (waiting : List Batch) (stays : ℕ → Bool) (number : ℕ) → IsLane on now settings (beside running waiting)
      → IsLane on now settings (taken_out stays number (beside running waiting))
  taken_out_lane now settings None waiting stays number is = record { waiting = left_wait stays waiting is.waiting; running = tt }
  taken_out_lane now settings (Some batch) waiting stays number is =
      goes_back now settings (loses stays batch) number batch (only stays batch) (left stays waiting) is.running.branch (λ goes_on. is.running) (left_wait stays waiting is.waiting)

  -- After a restart none runs but one that is landing.
  pub restarted_lane : (now later : ℕ) (settings others : Option SettingsView) (running : Option Batch) (waiting : List Batch) (number : ℕ) → IsLane on now settings (beside running waiting)
      → IsLane on later others (restarted number (beside running waiting))
  restarted_lane now later settings others None waiting number is = record { waiting = is.waiting; running = tt }
  restarted_lane now later settings others (Some batch) waiting number is =
      goes_back later others true number batch batch waiting is.running.branch (λ goes_on. grind (arith, still_landing now later settings others batch.stage)) is.waiting

  pub failed_lane : (now : ℕ) (settings : Option SettingsView) (running : Option Batch) (waiting : List Batch) (number : ℕ) → IsLane on now settings (beside running waiting)
      → IsLane on now settings (failed number (beside running waiting))
  failed_lane now settings None waiting number is = is
  failed_lane now settings (Some batch) waiting number is = record {
    waiting = either_way AllWait (has_several batch) _ waiting (λ several. split_wait number batch waiting is.running.branch several is.waiting) (λ single. is.waiting);
    running = tt;
  }

  -- The running batch waits again with what is chosen of it.
  pub requeued_lane : (now later : ℕ) (settings others : Option SettingsView) (running : Option Batch) (waiting : List Batch) (stays : ℕ → Bool) (number : ℕ)
      → IsLane on now settings (beside running waiting) → IsLane on later others (requeued stays number (beside running waiting))
  requeued_lane now later settings others None waiting stays number is = record { waiting = is.waiting; running = tt }
  requeued_lane now later settings others (Some batch) waiting stays number is =
      record { waiting = back_wait number (only stays batch) waiting is.running.branch is.waiting; running = tt }

  -- The clock goes on, and the first waiting batch runs.
  pub later_lane : (now later : ℕ) (settings : Option SettingsView) (lane : Lane) → now ≤ later → IsLane on now settings lane → IsLane on later settings lane
  later_lane now later settings lane past is = grind (arith, later_stage)

  pub started_lane : (now later : ℕ) (settings : Option SettingsView) (running : Option Batch) (waiting : List Batch) → now ≤ later → IsLane on now settings (beside running waiting)
      → IsLane on later settings (started later (beside running waiting))
  started_lane now later settings None [] past is = record { waiting = is.waiting; running = tt }
  started_lane now later settings None (first ∷ waiting) past is =
      let was = All-head (IsWaiting on) first waiting is.waiting in
      record { waiting = All-tail (IsWaiting on) first waiting is.waiting; running = record { branch = was.branch; stage = omega arith; changes = was.changes } }
  started_lane now later settings (Some batch) waiting past is = later_lane now later settings (beside (Some batch) waiting) past is

  pub staged_lane : (now : ℕ) (settings : Option SettingsView) (lane : Lane) (commit : List ℕ) → IsLane on now settings lane → IsLane on now settings (staged now commit lane)
  staged_lane now settings lane commit is = grind (arith, get-empty)

  -- A report of a required status is kept, and a batch that is tested is to land.
  pub reported_lane : (now : ℕ) (settings : Option SettingsView) (lane : Lane) (name : List ℕ) (report : Report) → is_required settings name ≡ true → IsLane on now settings lane
      → IsLane on now settings (reported name report lane)
  reported_lane now settings lane name report required is = grind (arith, reported_stage)

  pub landing_lane : (now : ℕ) (settings : Option SettingsView) (lane : Lane) → IsLane on now settings lane → IsLane on now settings (landing lane)
  landing_lane now settings lane is = grind arith

-- WHAT IS QUEUED: a change that is approved, on `Staging`
one_more : (changes : List ℕ) (change : ℕ) → not (eqb (length (changes ++ change ∷ [])) 0) ≡ true
one_more changes change = grind (arith, nat_tests, length-append)

entered_wait : (number : ℕ) (priority : ℤ) (change : ℕ) (waiting : List Batch) (place : Option ℕ) → AllWait Staging waiting → AllWait Staging (entered number priority change waiting place)
entered_wait number priority change waiting None all = placed_wait Staging (fresh number priority change) waiting (record { branch = refl; stage = refl; changes = refl }) all
entered_wait number priority change waiting (Some place) all = by (slice_get waiting place) refl where
  by : (found : Option Batch) → slice_get waiting place ≡ found → AllWait Staging (with_joined change waiting place found)
  by None at = all
  by (Some batch) at =
      let was = subst (IsWaiting Staging) (get_or_from_slice_get waiting place batch batch at) (All-get_or (IsWaiting Staging) waiting place batch (slice_get_within waiting place batch at) all) in
      All-set (IsWaiting Staging) waiting place (with_change change batch) (record { branch = was.branch; stage = was.stage; changes = one_more batch.changes change }) all

pub enqueued_lane : (now : ℕ) (settings : Option SettingsView) (lane : Lane) (size : Option ℕ) (number : ℕ) (priority : ℤ) (change : ℕ)
    → IsLane Staging now settings lane → IsLane Staging now settings (enqueued size number priority change lane)
enqueued_lane now settings lane size number priority change is =
    record { waiting = entered_wait number priority change lane.waiting (joins size priority lane.waiting) is.waiting; running = is.running }

-- and a try, on `Trying`
pub tried_lane : (now : ℕ) (settings : Option SettingsView) (lane : Lane) (number change : ℕ) → IsLane Trying now settings lane → IsLane Trying now settings (tried number change lane)
tried_lane now settings lane number change is =
    record { waiting = placed_wait Trying (try_of number change) lane.waiting (record { branch = refl; stage = refl; changes = refl }) is.waiting; running = is.running }
