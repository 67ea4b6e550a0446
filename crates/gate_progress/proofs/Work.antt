-- The work before a batch never grows but by what is queued above its priority, and each ending lowers it.
use Rattle.std.proofs.Common.{◌≡◌, ◌≤◌, ◌+◌, ◌-◌, ◌*◌, ◌/◌, ℕ, ℤ, suc, eqb, not, ◌||◌, Bool, true, false, List, [], ◌∷◌, length, slice_get, slice_set, if◌then◌else◌, Option, Some, None, IfSome, is_some, Result, Ok, Err, refl, sym, ◌∙◌, ap, subst, arith}
use Rattle.std.proofs.lemmas.Bool.{and_parts, ltb-true, not-true}
use Rattle.std.proofs.lemmas.Bool.Decides.{Decides-eqb}
use Rattle.std.proofs.lemmas.List.{length-take, length-drop}
use Rattle.std.proofs.lemmas.List.Sums.{count_by-le-length, length-filter, sum_by-cons, sum_by-le-sum_by, sum_by-set}
use Rattle.std.proofs.lemmas.Option.{slice_get_within, get_or_from_slice_get}
use Rattle.std.proofs.lemmas.Slice.Eq.{bytes_eq-Decides}
use Rattle.std.specs.List.{filter, sum_by}
use Rattle.std.specs.Option.{option_map, option_map_or}
use Rattle.gate_text.specs.LastWhere.{last_where}
use Rattle.gate_rules.specs.Rules.{is_approved, is_landed}
use Rattle.gate_queue.specs.Vocabulary.{SettingsView, settings_of, SettingsFault, look, with_clock, Rule, Act, On, Other, Deed, Role, Settings, Base, Staged, Conflict, Status, Refused, Tick, Batch, Branch, Staging, Trying, Report, Lane, Queue, Why, State}
use Rattle.gate_state.specs.Lanes as lanes
use Rattle.gate_state.specs.Lanes.{back, entered, first_half, fresh, goes_before, has_changes, has_room, has_several, if_room, is_fresh_of, joins, left, loses, only, retried, running_back, second_half, split_into, stops_running, with_change}
use Rattle.gate_state.specs.Lemmas.Counts.{sum-back, sum-left, sum-placed, sum-split}
use Rattle.gate_state.specs.Queue as specs
use Rattle.gate_state.specs.Counts.{occurs}
use Rattle.gate_state.specs.declared.batch.Stage.{Stage as StageOf}
use Rattle.gate_state.specs.declared.batch.Stage.TheVariants.{Landing}
use Rattle.gate_state.specs.declared.reply.Why.TheVariants as why
use Rattle.gate_progress.specs.Coming.{ends, lands, work_before, work_of}
use Rattle.gate_queue.specs.Progress.{fails}
use Rattle.std.specs.Ordering.{int_eq}
use Rattle.gate_state.specs.State.{IsRunning, IsState, approved_on, priority_on, trying_on}
use Rattle.gate_queue.specs.Machine.{about, accepted, after, all_but, approval_followed, are_present, denial, effect, ending, followed, has_running, heads_told, is_base, is_landing_with, lands_with, meaning, ordered_on, quiet, rebased, sent_back, size_on, told_as, tries_left, under, unless_denied, with_desk, with_new_settings}
use Rattle.gate_queue.proofs.Choosing.{by_bool, by_option, either_way}
use Rattle.gate_queue.proofs.Failing.{failure_allowed}
use Rattle.gate_queue.proofs.Keeping.{tried_by_staging}
use Rattle.gate_queue.proofs.Progress.{landings_law}
use Rattle.gate_queue.proofs.Told.{EachStep, told_so, timed_out_both_so}
use Rattle.gate_progress.proofs.Enduring.{unstarted}

-- What is chosen isn't more than all.
chosen_fewer : (stays : ℕ → Bool) (changes : List ℕ) → length (filter stays changes) ≤ length changes
chosen_fewer stays changes = omega (arith, length-filter stays changes, count_by-le-length stays changes)

-- THE MARK: a batch whose place is looked at, whether or not it waits
module _ (mark : Batch) where
  abbrev pub counts : Batch → ℕ
  counts one = if goes_before one mark then work_of one else 0

  abbrev pub Before : Lane → ℕ
  Before lane = work_before mark lane

  abbrev beside : Option Batch → List Batch → Lane
  beside running waiting = record { running = running; waiting = waiting }

  -- of a batch no more counts than its work
  counts_less : (one : Batch) → counts one ≤ work_of one
  counts_less one = by (goes_before one mark) where
    by : (b : Bool) → (if b then work_of one else 0) ≤ work_of one
    by true = omega arith
    by false = omega arith

  -- WAITING BATCHES
  left_less : (stays : ℕ → Bool) (waiting : List Batch) → sum_by counts (left stays waiting) ≤ sum_by counts waiting
  left_less stays waiting =
      let rest = λ (batch : Batch). if has_changes (only stays batch) then counts (only stays batch) else 0 in
      omega (arith, sum-left counts stays rest (λ batch. refl) waiting, sum_by-le-sum_by rest counts waiting (λ batch. less batch)) where
        less : (batch : Batch) → (if has_changes (only stays batch) then counts (only stays batch) else 0) ≤ counts batch
        less batch = by (has_changes (only stays batch)) (goes_before batch mark) where
          by : (some before : Bool)
              → (if some then (if before then work_of (only stays batch) else 0) else 0) ≤ (if before then work_of batch else 0)
          by true true = omega (arith, chosen_fewer stays batch.changes)
          by true false = omega arith
          by false true = omega arith
          by false false = omega arith

  back_less : (number : ℕ) (batch part : Batch) (waiting : List Batch) → length part.changes ≤ length batch.changes
      → sum_by counts (back number part waiting) ≤ work_of batch + sum_by counts waiting
  back_less number batch part waiting fewer = omega (arith, sum-back counts number part waiting, by (has_changes part)) where
    by : (some : Bool) → (if some then counts (retried number part) else 0) ≤ work_of batch
    by true = omega (arith, counts_less (retried number part), fewer)
    by false = omega arith

  -- A change that is queued waits behind the mark, or joins a batch that does.
  abbrev pub IsBehind : ℤ → List Batch → Type 0
  IsBehind priority waiting =
      (place : ℕ) (one : Batch) → last_where (is_fresh_of priority) waiting ≡ Some place → slice_get waiting place ≡ Some one → goes_before
      one mark ≡ false

  set_is : (waiting : List Batch) (place : ℕ) (old new : Batch) → slice_get waiting place ≡ Some old
      → sum_by counts (slice_set waiting place new) + counts old ≡ sum_by counts waiting + counts new
  set_is waiting place old new at =
      ap (λ (batch : Batch). sum_by counts (slice_set waiting place new) + counts batch)
      (sym (get_or_from_slice_get waiting place old old at))
      ∙ sum_by-set counts waiting place new old (slice_get_within waiting place old at)

  pub entered_less : (number : ℕ) (priority : ℤ) (change : ℕ) (limit : Option ℕ) (waiting : List Batch)
      → goes_before (fresh number priority change) mark ≡ false → IsBehind priority waiting
      → sum_by counts (entered number priority change waiting (joins limit priority waiting)) ≤ sum_by counts waiting
  entered_less number priority change limit waiting first behind = by (last_where (is_fresh_of priority) waiting) refl where
    alone : sum_by counts (lanes.placed (fresh number priority change) waiting) ≤ sum_by counts waiting
    alone =
        omega (
          arith,
          sum-placed counts (fresh number priority change) waiting,
          ap
              (λ (b : Bool). if b then work_of (fresh number priority change) else 0) first,
        )

    joined : (place : ℕ) (one : Batch) → last_where (is_fresh_of priority) waiting ≡ Some place → slice_get waiting place ≡ Some one
        → sum_by counts (slice_set waiting place (with_change change one)) ≤ sum_by counts waiting
    joined place one last at =
        omega (
          arith,
          set_is waiting place one (with_change change one) at,
          ap
              (λ (b : Bool). if b then work_of (with_change change one) else 0) (behind place one last at),
        )

    by : (place : Option ℕ) → last_where (is_fresh_of priority) waiting ≡ place
        → sum_by counts (entered number priority change waiting (if_room limit waiting place)) ≤ sum_by counts waiting
    by None last = alone
    by (Some place) last = got (slice_get waiting place) refl where
      got : (found : Option Batch) → slice_get waiting place ≡ found
          → sum_by counts (entered number priority change waiting (if option_map_or (has_room limit) found false then Some place else None))
          ≤ sum_by counts waiting
      got None at = alone
      got (Some one) at =
          either_way (λ there. sum_by counts (entered number priority change waiting there) ≤ sum_by counts waiting) (has_room limit one)
          (Some place) None
          (λ room. rw at (joined place one last at)) (λ full. alone)

  -- A LANE, by what runs
  goes_back : (goes : Bool) (number : ℕ) (batch part : Batch) (waiting : List Batch) → length part.changes ≤ length batch.changes
      → Before (running_back goes number batch part waiting) ≤ work_of batch + sum_by counts waiting
  goes_back goes number batch part waiting fewer =
      either_way (λ lane. Before lane ≤ work_of batch + sum_by counts waiting) (stops_running goes batch)
      (beside None (back number part waiting)) (beside (Some batch) waiting)
      (λ stops. omega (arith, back_less number batch part waiting fewer)) (λ stays. omega arith)

  taken_out_less : (stays : ℕ → Bool) (number : ℕ) (lane : Lane) → Before (lanes.taken_out stays number lane) ≤ Before lane
  taken_out_less stays number lane = by lane.running where
    by : (running : Option Batch)
        → Before (lanes.running_taken stays number running (left stays lane.waiting)) ≤ Before (beside running lane.waiting)
    by None = omega (arith, left_less stays lane.waiting)
    by (Some batch) =
        omega (
          arith,
          left_less stays lane.waiting,
          goes_back (loses stays batch) number batch (only stays batch) (left stays lane.waiting)
              (chosen_fewer stays batch.changes),
        )

  restarted_less : (number : ℕ) (lane : Lane) → Before (lanes.restarted number lane) ≤ Before lane
  restarted_less number lane = by lane.running where
    by : (running : Option Batch) → Before (lanes.running_restarted number running lane.waiting) ≤ Before (beside running lane.waiting)
    by None = omega arith
    by (Some batch) = goes_back true number batch batch lane.waiting (omega arith)

  requeued_less : (stays : ℕ → Bool) (number : ℕ) (lane : Lane) → Before (lanes.requeued stays number lane) ≤ Before lane
  requeued_less stays number lane = by lane.running where
    by : (running : Option Batch) → Before (lanes.running_requeued stays number running lane.waiting) ≤ Before (beside running lane.waiting)
    by None = omega arith
    by (Some batch) = omega (arith, back_less number batch (only stays batch) lane.waiting (chosen_fewer stays batch.changes))

  -- what runs goes on
  altered_same : (alter : Batch → Batch) → ((batch : Batch) → work_of (alter batch) ≡ work_of batch) → (lane : Lane)
      → Before (beside (option_map alter lane.running) lane.waiting) ≡ Before lane
  altered_same alter same lane = by lane.running where
    by : (running : Option Batch) → Before (beside (option_map alter running) lane.waiting) ≡ Before (beside running lane.waiting)
    by None = refl
    by (Some batch) = ap (λ (work : ℕ). work + sum_by counts lane.waiting) (same batch)

  -- A FAILURE: the halves of a batch have less work than it.
  split_less : (number : ℕ) (batch : Batch) (waiting : List Batch) → has_several batch ≡ true
      → suc (sum_by counts (split_into number batch waiting)) ≤ work_of batch + sum_by counts waiting
  split_less number batch waiting several =
      omega (
        arith,
        ltb-true 1 (length batch.changes) several,
        sum-split counts number batch waiting,
        counts_less (retried number (first_half batch)),
        counts_less (retried (number + 1) (second_half batch)),
        length-take (length batch.changes / 2) batch.changes,
        length-drop (length batch.changes / 2) batch.changes,
      )

  pub some_work : (batch : Batch) → has_changes batch ≡ true → 1 ≤ work_of batch
  some_work batch some = by batch.changes some where
    by : (changes : List ℕ) → not (eqb (length changes) 0) ≡ true → 1 ≤ 2 * length changes - 1
    by [] none = cc none
    by (first ∷ changes) some = omega arith

  pub failed_falls : (number : ℕ) (lane : Lane) → is_some lane.running ≡ true → IfSome lane.running (λ batch. has_changes batch ≡ true)
      → suc (Before (lanes.failed number lane)) ≤ Before lane
  failed_falls number lane = by lane.running where
    by : (running : Option Batch) → is_some running ≡ true → IfSome running (λ batch. has_changes batch ≡ true)
        → suc (Before (lanes.running_failed number running lane.waiting)) ≤ Before (beside running lane.waiting)
    by None runs some = cc runs
    by (Some batch) runs some =
        either_way (λ waiting. suc (0 + sum_by counts waiting) ≤ work_of batch + sum_by counts lane.waiting) (has_several batch) _
        lane.waiting
        (λ several. omega (arith, split_less number batch lane.waiting several)) (λ single. omega (arith, some_work batch some))

  failed_less : (number : ℕ) (lane : Lane) → Before (lanes.failed number lane) ≤ Before lane
  failed_less number lane = by lane.running where
    by : (running : Option Batch) → Before (lanes.running_failed number running lane.waiting) ≤ Before (beside running lane.waiting)
    by None = omega arith
    by (Some batch) =
        either_way (λ waiting. 0 + sum_by counts waiting ≤ work_of batch + sum_by counts lane.waiting) (has_several batch) _ lane.waiting
        (λ several. omega (arith, split_less number batch lane.waiting several)) (λ single. omega arith)

  -- THE FIRST BATCH IS STARTED: if it goes before the mark, its work counts already.
  abbrev pub Leads : Option Batch → List Batch → Type 0
  Leads None (first ∷ waiting) = goes_before first mark ≡ true
  Leads running waiting = Unit {0}

  pub started_same : (now : ℕ) (lane : Lane) → Leads lane.running lane.waiting → Before (lanes.started now lane) ≡ Before lane
  started_same now lane = by lane.running lane.waiting where
    by : (running : Option Batch) (waiting : List Batch) → Leads running waiting
        → Before (lanes.started_beside now running waiting) ≡ Before (beside running waiting)
    by None [] leads = refl
    by None (first ∷ waiting) leads =
        omega (arith, sum_by-cons counts first waiting, ap (λ (b : Bool). if b then work_of first else 0) leads)
    by (Some batch) waiting leads = refl

  -- A DEED on a change
  abbrev pub EntersBehind : Option ℕ → ℤ → ℕ → Queue → Type 0
  EntersBehind limit priority change queue = Before (specs.enqueued limit priority change queue).staging ≤ Before queue.staging

  abbrev pub MayFollow : Bool → Bool → Bool → Option ℕ → ℤ → ℕ → Queue → Type 0
  MayFollow false true same limit priority change queue = EntersBehind limit priority change queue
  MayFollow true true false limit priority change queue =
      EntersBehind limit priority change (specs.taken_out Staging (all_but change) queue)
  MayFollow was is same limit priority change queue = Unit {0}

  followed_less : (was is same : Bool) (limit : Option ℕ) (priority : ℤ) (change : ℕ) (queue : Queue)
      → MayFollow was is same limit priority change queue
      → Before (followed was is (not same) limit priority change queue).staging ≤ Before queue.staging
  followed_less false false same limit priority change queue may = omega arith
  followed_less false true same limit priority change queue may = may
  followed_less true false same limit priority change queue may = taken_out_less (all_but change) queue.next queue.staging
  followed_less true true true limit priority change queue may = omega arith
  followed_less true true false limit priority change queue may =
      omega (arith, may, taken_out_less (all_but change) queue.next queue.staging)

  abbrev pub MayEnter : State → Act → Type 0
  MayEnter s (On change deed) =
      let new = effect s.desk change deed in
      MayFollow (approved_on s.desk change) (approved_on new change) (int_eq (priority_on s.desk change) (priority_on new change))
      (size_on new) (priority_on new change) change s.queue
  MayEnter s (Other fact) = Unit {0}

  about_less : (s : State) (change : ℕ) (deed : Deed) → MayEnter s (On change deed)
      → Before (about s change deed).state.queue.staging ≤ Before s.queue.staging
  about_less s change deed may =
      let new = effect s.desk change deed in
      subst (λ lane. Before lane ≤ Before s.queue.staging)
      (sym (tried_by_staging (trying_on s.desk change) (trying_on new change) change (approval_followed s.desk new change s.queue)))
      (followed_less (approved_on s.desk change) (approved_on new change) (int_eq (priority_on s.desk change) (priority_on new change))
      (size_on new) (priority_on new change) change s.queue may)

  -- NEW SETTINGS
  accepted_less : (s : State) (read : Result SettingsView SettingsFault)
      → Before (accepted s read).state.queue.staging ≤ Before s.queue.staging
  accepted_less s (Err fault) = omega arith
  accepted_less s (Ok settings) =
      let out = specs.taken_out Staging (approved_on (with_new_settings s.desk settings)) s.queue in
      either_way (λ o. Before o.state.queue.staging ≤ Before s.queue.staging) (are_present s.desk settings) (quiet s) (under settings s)
      (λ present. omega arith)
      (λ new. omega (
        arith,
        restarted_less out.next out.staging,
        taken_out_less (approved_on (with_new_settings s.desk settings))
            s.queue.next s.queue.staging,
      ))

  -- A BATCH ENDS, or goes back
  ending_less : (branch : Branch) (why : Why) (s : State) → Before (ending branch why s).state.queue.staging ≤ Before s.queue.staging
  ending_less Staging why s = failed_less s.queue.next s.queue.staging
  ending_less Trying why s = omega arith

  back_to_less : (base : Option (List ℕ)) (s : State) → Before (sent_back base s).queue.staging ≤ Before s.queue.staging
  back_to_less base s = requeued_less (approved_on (sent_back base s).desk) s.queue.next s.queue.staging

  reported_same : (branch : Branch) (name : List ℕ) (report : Report) (s : State)
      → Before (specs.reported branch name report s.queue).staging ≡ Before s.queue.staging
  reported_same Staging name report s = altered_same (lanes.reported_on name report) (λ batch. refl) s.queue.staging
  reported_same Trying name report s = refl

  staged_same : (branch : Branch) (now : ℕ) (commit : List ℕ) (s : State)
      → Before (specs.staged branch now commit s.queue).staging ≡ Before s.queue.staging
  staged_same Staging now commit s = altered_same (lanes.staged_at now commit) (λ batch. refl) s.queue.staging
  staged_same Trying now commit s = refl

  -- each step of a status and of a tick
  lessening : EachStep (λ few s o. Before o.state.queue.staging ≤ Before s.queue.staging)
  lessening = record {
    nothing = λ few s. omega arith;
    both = λ s first next one other. omega (arith, one, other);
    report = λ branch name report s required next rest. omega (arith, rest, reported_same branch name report s);
    fail = λ branch cause s ends stays. ending_less branch (told_as branch cause) s;
    pass = λ s stays. omega arith;
    land = λ s batch runs passes. omega (arith, altered_same lanes.to_land (λ batch. refl) s.queue.staging);
  }

  -- ANY ACT, as it is meant, but for the start of the first batch by a tick
  pub unstarted_less : (s : State) (act : Act) → MayEnter s act → Before (unstarted s act).staging ≤ Before s.queue.staging
  unstarted_less s (On change deed) may = about_less s change deed may
  unstarted_less s (Other (Role person role)) may = omega arith
  unstarted_less s (Other (Settings text)) may = accepted_less s (settings_of text)
  unstarted_less s (Other (Base commit)) may =
      let back = sent_back (Some commit) s in
      by_bool (λ lands. Before (tries_left lands back.desk back.queue).staging ≤ Before s.queue.staging) (back_to_less (Some commit) s)
      (back_to_less (Some commit) s) (lands_with commit s.queue.staging)
  unstarted_less s (Other (Staged batch commit)) may = omega (arith, staged_same (ordered_on batch s.queue) s.desk.clock commit s)
  unstarted_less s (Other (Conflict batch)) may = ending_less (ordered_on batch s.queue) (told_as (ordered_on batch s.queue) why.Conflict) s
  unstarted_less s (Other (Status commit name state)) may = told_so lessening commit name state (heads_told commit name state s)
  unstarted_less s (Other (Refused batch)) may = back_to_less None s
  unstarted_less s (Other (Tick now)) may = timed_out_both_so lessening now (with_desk s (with_clock s.desk now))

-- AN ENDING: what is left of `Staging` then
module _ (s : State) where
  pub failure_leaves : (act : Act) → fails s act ≡ true
      → (unstarted s (meaning (look s.desk) act)).staging ≡ lanes.failed s.queue.next s.queue.staging
  failure_leaves (On change deed) so = cc so
  failure_leaves (Other (Conflict number)) so = grind (arith, so)
  failure_leaves (Other (Status commit name said)) so = grind (arith, so)
  failure_leaves (Other (Tick now)) so = grind (arith, so)
  failure_leaves (Other fact) so = cc so

  some_runs : (test : Batch → Bool) → has_running test s.queue.staging ≡ true → is_some s.queue.staging.running ≡ true
  some_runs test there = grind (arith, there)

  failure_runs : (act : Act) → fails s act ≡ true → is_some s.queue.staging.running ≡ true
  failure_runs (Other (Conflict number)) so = grind (arith, so)
  failure_runs (Other (Status commit name said)) so = grind (arith, so)
  failure_runs (Other (Tick now)) so = grind (arith, so)
  failure_runs act so = cc so

-- What has landed isn't approved, so none of it waits again.
none_chosen : (stays : ℕ → Bool) (changes : List ℕ) → ((change : ℕ) → 1 ≤ occurs change changes → stays change ≡ false)
    → filter stays changes ≡ []
none_chosen stays [] none = refl
none_chosen stays (first ∷ changes) none =
    let one = λ (change : ℕ). sum_by-cons (λ (other : ℕ). if eqb change other then 1 else 0) first changes in
    let same = (Decides-eqb first first).1 refl in
    let here = none first (grind (arith, one first, same)) in
    rw here (none_chosen stays changes (λ change there. none change (omega (arith, one change, there))))

module _ (mark : Batch) (s : State) (is : IsState s) where
  pub runs_some : IfSome s.queue.staging.running (λ batch. has_changes batch ≡ true)
  runs_some =
      by_option (λ running. IfSome running (IsRunning Staging s.desk.clock s.desk.settings) → IfSome running
      (λ batch. has_changes batch ≡ true)) (λ none. tt) (λ batch some. some.changes) s.queue.staging.running is.queue.staging.running

  failure_falls : (act : Act) → fails s act ≡ true
      → suc (Before mark (unstarted s (meaning (look s.desk) act)).staging) ≤ Before mark s.queue.staging
  failure_falls act so =
      subst (λ lane. suc (Before mark lane) ≤ Before mark s.queue.staging) (sym (failure_leaves s act so))
      (failed_falls mark s.queue.next s.queue.staging (failure_runs s act so) runs_some)

  module _ (commit : List ℕ) (other : is_base (look s.desk) commit ≡ false) where
    -- the changes that are approved then
    abbrev stay : ℕ → Bool
    stay = approved_on (sent_back (Some commit) s).desk

    landed_falls : (batch : Batch) → s.queue.staging.running ≡ Some batch → batch.stage ≡ Landing commit
        → suc (Before mark (lanes.requeued stay s.queue.next s.queue.staging)) ≤ Before mark s.queue.staging
    landed_falls batch runs at_landing =
        subst (λ running. suc (Before mark (lanes.running_requeued stay s.queue.next running s.queue.staging.waiting)) ≤ Before mark
        (beside mark running s.queue.staging.waiting)) (sym runs)
        (omega (arith, waits, some_work mark batch some)) where
          law : (denial s (Other (Base commit)) ≡ None)
              × ((change : ℕ) → 1 ≤ occurs change batch.changes → (is_landed (look (after s (Other (Base commit))).desk) change ≡ true) ×
              (is_approved (look (after s (Other (Base commit))).desk) change ≡ false))
              × ((after s (Other (Base commit))).queue.staging.running ≡ None)
          law = landings_law s batch commit is runs at_landing other

          none : (change : ℕ) → 1 ≤ occurs change batch.changes → stay change ≡ false
          none change there =
              sym (ap (λ (rule : Option Rule). approved_on (unless_denied rule s (rebased commit s)).desk change) law.0) ∙
              (law.1 change there).1

          waits : sum_by (counts mark) (back s.queue.next (only stay batch) s.queue.staging.waiting)
              ≡ sum_by (counts mark) s.queue.staging.waiting
          waits =
              ap (λ (changes : List ℕ). sum_by (counts mark)
              (back s.queue.next (record batch { changes = changes }) s.queue.staging.waiting)) (none_chosen stay batch.changes none)

          some : has_changes batch ≡ true
          some = subst (λ running. IfSome running (λ batch. has_changes batch ≡ true)) runs runs_some

    base_falls : lands_with commit s.queue.staging ≡ true
        → suc (Before mark (lanes.requeued stay s.queue.next s.queue.staging)) ≤ Before mark s.queue.staging
    base_falls so = by s.queue.staging.running refl so where
      by : (running : Option Batch) → s.queue.staging.running ≡ running
          → option_map_or (λ (batch : Batch). is_landing_with commit batch.stage) running false ≡ true
          → suc (Before mark (lanes.requeued stay s.queue.next s.queue.staging)) ≤ Before mark s.queue.staging
      by None runs so = cc so
      by (Some batch) runs so = at batch.stage refl so where
        at : (stage : StageOf) → batch.stage ≡ stage → is_landing_with commit stage ≡ true
            → suc (Before mark (lanes.requeued stay s.queue.next s.queue.staging)) ≤ Before mark s.queue.staging
        at (Landing tested) is_stage so = landed_falls batch runs (is_stage ∙ ap Landing (sym ((bytes_eq-Decides commit tested).0 so)))
        at other_stage is_stage so = cc so

  landing_falls : (act : Act) → lands s act ≡ true
      → suc (Before mark (unstarted s (meaning (look s.desk) act)).staging) ≤ Before mark s.queue.staging
  landing_falls (Other (Base commit)) so =
      let (other, there) = and_parts (not (is_base (look s.desk) commit)) (lands_with commit s.queue.staging) so in
      let back = sent_back (Some commit) s in
      let falls = base_falls commit (not-true (is_base (look s.desk) commit) other) there in
      by_bool (λ lands. suc (Before mark (tries_left lands back.desk back.queue).staging) ≤ Before mark s.queue.staging) falls falls
      (lands_with commit s.queue.staging)
  landing_falls act so = cc so

  -- so that each ending lowers the work, and no other act raises it
  pub ending_falls : (act : Act) → MayEnter mark s (meaning (look s.desk) act)
      → (if ends s act then 1 else 0) + Before mark (unstarted s (meaning (look s.desk) act)).staging ≤ Before mark s.queue.staging
  ending_falls act may = by (fails s act) (lands s act) (failure_falls act) (landing_falls act) where
    means : Act
    means = meaning (look s.desk) act

    by : (failed landed : Bool) → (failed ≡ true → suc (Before mark (unstarted s means).staging) ≤ Before mark s.queue.staging)
        → (landed ≡ true → suc (Before mark (unstarted s means).staging) ≤ Before mark s.queue.staging)
        → (if failed || landed then 1 else 0) + Before mark (unstarted s means).staging ≤ Before mark s.queue.staging
    by true landed fall land = omega (arith, fall refl)
    by false true fall land = omega (arith, land refl)
    by false false fall land = omega (arith, unstarted_less mark s means may)

  never : {P : Type 0} → false ≡ true → P
  never so = cc so

  -- No rule denies it.
  pub ending_allowed : (act : Act) → ends s act ≡ true → denial s act ≡ None
  ending_allowed act so = by (fails s act) refl where
    by : (failed : Bool) → fails s act ≡ failed → denial s act ≡ None
    by true failed = failure_allowed s act failed
    by false lasts = base act (ap (λ (b : Bool). b || lands s act) (sym lasts) ∙ so) where
      base : (act : Act) → lands s act ≡ true → denial s act ≡ None
      base (Other (Base commit)) landed = grind (arith, landed)
      base act landed = never landed
