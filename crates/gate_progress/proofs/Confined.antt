-- A change that is confined to batches of so many changes stays so, whatever is done but a deed on it: no other change joins a batch that
-- waits again, and no part of a batch is larger than the batch.
use Rattle.std.proofs.Common.{◌≡◌, ◌≤◌, ◌+◌, ℕ, ℤ, eqb, not, ◌&&◌, ◌||◌, Bool, true, false, List, [], ◌∷◌, length, map, take, drop, slice_get, if◌then◌else◌, Option, Some, None, IfSome, Result, Ok, Err, refl, sym, ◌∙◌, ap, subst, arith}
use Rattle.std.proofs.Math.Bool.{beq}
use Rattle.std.proofs.lemmas.Bool.Decides.{nat_tests, Decides-eqb}
use Rattle.std.proofs.lemmas.List.{length-take, length-drop, take-append-drop}
use Rattle.std.proofs.lemmas.List.Elements.{All-cons, All-head, All-tail, All-append, All-take, All-drop, All-set, All-get_or, All-map, All-filter, All-weaker}
use Rattle.std.proofs.lemmas.List.Folds.{list_any-append}
use Rattle.std.proofs.lemmas.Option.{slice_get_within, get_or_from_slice_get}
use Rattle.std.specs.List.{All, filter, list_any}
use Rattle.std.specs.Option.{option_map, option_map_or}
use Rattle.std.specs.Ordering.{int_eq}
use Rattle.gate_text.specs.LastWhere.{last_where}
use Rattle.gate_queue.specs.Vocabulary.{SettingsView, settings_of, SettingsFault, look, with_clock, Act, On, Other, Deed, Role, Settings, Base, Staged, Conflict, Status, Refused, Tick, Batch, Branch, Staging, Trying, Report, Lane, Queue, Rule, Why, State}
use Rattle.gate_state.specs.Lanes as lanes
use Rattle.gate_state.specs.Lanes.{back, entered, first_half, fresh, has_changes, has_room, has_several, if_room, is_fresh_of, joins, left, loses, only, placed, retried, running_back, second_half, split_into, stops_running, with_change}
use Rattle.gate_state.specs.Queue as specs
use Rattle.gate_state.specs.State.{approved_on, priority_on, trying_on}
use Rattle.gate_state.specs.declared.reply.Why.TheVariants as why
use Rattle.gate_progress.specs.Halving.{IsConfined, is_in, leaves_alone}
use Rattle.gate_queue.specs.Progress.{keeps_place}
use Rattle.gate_queue.specs.Machine.{about, accepted, acted, after, all_but, approval_followed, are_present, denial, done, effect, ending, followed, heads_told, lands_with, meaning, on_both, ordered_on, quiet, sent_back, size_on, timed_out, told_as, tries_left, under, unless_denied, with_desk}
use Rattle.gate_queue.proofs.Choosing.{by_bool, by_option, either_way}
use Rattle.gate_queue.proofs.Keeping.{tried_by_staging}
use Rattle.gate_queue.proofs.Meaning.{means}
use Rattle.gate_queue.proofs.Told.{EachStep, told_so, timed_out_both_so}

-- A PART of the changes of a batch
module _ (change : ℕ) where
  abbrev has : List ℕ → Bool
  has changes = list_any (eqb change) changes

  record IsPart (few all : List ℕ) : Type 0 where
    there : has few ≡ true → has all ≡ true
    fewer : length few ≤ length all

  chosen : (stays : ℕ → Bool) (changes : List ℕ) → IsPart (filter stays changes) changes
  chosen stays [] = record { there = λ so. so; fewer = omega arith }
  chosen stays (first ∷ changes) = let rest = chosen stays changes in grind (arith, rest)

  parts : (count : ℕ) (changes : List ℕ) → IsPart (take count changes) changes × IsPart (drop count changes) changes
  parts count changes =
      let whole = ap has (take-append-drop count changes) in
      let both = list_any-append (eqb change) (take count changes) (drop count changes) in
      (record { there = grind arith; fewer = omega (arith, length-take count changes) }, record { there = grind arith; fewer = omega (arith, length-drop count changes) })

module _ (change size : ℕ) where
  abbrev pub IsSmall : Batch → Type 0
  IsSmall batch = is_in change batch ≡ true → length batch.changes ≤ size

  abbrev pub Waits : Batch → Type 0
  Waits batch = is_in change batch ≡ true → (batch.again ≡ true) × (length batch.changes ≤ size)

  abbrev pub AllWait : List Batch → Type 0
  AllWait waiting = All Waits waiting

  abbrev Confined : Lane → Type 0
  Confined lane = IsConfined change size lane

  -- WAITING BATCHES
  placed_waits : (batch : Batch) (waiting : List Batch) → Waits batch → AllWait waiting → AllWait (placed batch waiting)
  placed_waits batch waiting one all =
      All-append Waits (take _ waiting) (batch ∷ drop _ waiting) (All-take Waits _ waiting all) (All-cons Waits batch (drop _ waiting) one (All-drop Waits _ waiting all))

  back_waits : (number : ℕ) (batch part : Batch) (waiting : List Batch) → IsPart change part.changes batch.changes → IsSmall batch → AllWait waiting → AllWait (back number part waiting)
  back_waits number batch part waiting is small all =
      either_way AllWait (has_changes part) _ waiting (λ some. placed_waits (retried number part) waiting (λ there. (refl, omega (arith, small (is.there there), is.fewer))) all) (λ none. all)

  left_waits : (stays : ℕ → Bool) (waiting : List Batch) → AllWait waiting → AllWait (left stays waiting)
  left_waits stays waiting all =
      All-filter has_changes Waits (map (only stays) waiting) (All-map Waits (only stays) waiting (All-weaker Waits (λ batch. Waits (only stays batch)) only_waits waiting all)) where
        only_waits : (batch : Batch) → Waits batch → Waits (only stays batch)
        only_waits batch waits there = let is = chosen change stays batch.changes in let was = waits (is.there there) in (was.0, omega (arith, was.1, is.fewer))

  pub split_waits : (number : ℕ) (batch : Batch) (waiting : List Batch) → IsSmall (first_half batch) → IsSmall (second_half batch) → AllWait waiting → AllWait (split_into number batch waiting)
  split_waits number batch waiting one other all =
      placed_waits (retried (number + 1) (second_half batch)) _ (λ there. (refl, other there)) (placed_waits (retried number (first_half batch)) waiting (λ there. (refl, one there)) all)

  -- A change that joins a batch joins a fresh one, so none that waits again.
  last_fresh : (priority : ℤ) (waiting : List Batch) (place : ℕ) (batch : Batch) → last_where (is_fresh_of priority) waiting ≡ Some place → slice_get waiting place ≡ Some batch → batch.again ≡ false
  last_fresh priority [] place batch last at = cc last
  last_fresh priority (first ∷ waiting) place batch last at = grind (arith, last_fresh priority waiting)

  entered_waits : (number : ℕ) (priority : ℤ) (other : ℕ) (limit : Option ℕ) (waiting : List Batch) → eqb change other ≡ false → AllWait waiting
      → AllWait (entered number priority other waiting (joins limit priority waiting))
  entered_waits number priority other limit waiting differs all = by (last_where (is_fresh_of priority) waiting) refl where
    alone : AllWait (placed (fresh number priority other) waiting)
    alone = placed_waits (fresh number priority other) waiting (λ there. grind (arith, there, differs)) all

    joined : (place : ℕ) (batch : Batch) → last_where (is_fresh_of priority) waiting ≡ Some place → slice_get waiting place ≡ Some batch → Waits (with_change other batch)
    joined place batch last at there =
        let waits = subst Waits (get_or_from_slice_get waiting place batch batch at) (All-get_or Waits waiting place batch (slice_get_within waiting place batch at) all) in
        let was = list_any-append (eqb change) batch.changes (other ∷ []) in
        let again = waits (grind (arith, there, differs)) in
        cc (sym again.0 ∙ last_fresh priority waiting place batch last at)

    by : (place : Option ℕ) → last_where (is_fresh_of priority) waiting ≡ place → AllWait (entered number priority other waiting (if_room limit waiting place))
    by None last = alone
    by (Some place) last = got (slice_get waiting place) refl where
      got : (found : Option Batch) → slice_get waiting place ≡ found → AllWait (entered number priority other waiting (if option_map_or (has_room limit) found false then Some place else None))
      got None at = alone
      got (Some batch) at =
          either_way (λ there. AllWait (entered number priority other waiting there)) (has_room limit batch) (Some place) None
          (λ room. rw at (All-set Waits waiting place (with_change other batch) (joined place batch last at) all)) (λ full. alone)

  -- A LANE, by what runs
  abbrev beside : Option Batch → List Batch → Lane
  beside running waiting = record { running = running; waiting = waiting }

  by_running : (of : Option Batch → Lane) → Confined (of None) → ((batch : Batch) → IsSmall batch → Confined (of (Some batch))) → (lane : Lane) → Confined lane → Confined (of lane.running)
  by_running of none some lane is = by_option (λ running. IfSome running IsSmall → Confined (of running)) (λ small. none) some lane.running is.running

  goes_back : (goes : Bool) (number : ℕ) (batch part : Batch) (waiting : List Batch) → IsPart change part.changes batch.changes → IsSmall batch → AllWait waiting → Confined (running_back goes number batch part waiting)
  goes_back goes number batch part waiting is small all =
      either_way Confined (stops_running goes batch) (beside None (back number part waiting)) (beside (Some batch) waiting)
      (λ stops. record { running = tt; waiting = back_waits number batch part waiting is small all }) (λ stays. record { running = small; waiting = all })

  taken_out_confined : (stays : ℕ → Bool) (number : ℕ) (lane : Lane) → Confined lane → Confined (lanes.taken_out stays number lane)
  taken_out_confined stays number lane is =
      let all = left_waits stays lane.waiting is.waiting in
      by_running (λ running. lanes.running_taken stays number running (left stays lane.waiting)) (record { running = tt; waiting = all })
      (λ batch small. goes_back (loses stays batch) number batch (only stays batch) (left stays lane.waiting) (chosen change stays batch.changes) small all) lane is

  restarted_confined : (number : ℕ) (lane : Lane) → Confined lane → Confined (lanes.restarted number lane)
  restarted_confined number lane is =
      by_running (λ running. lanes.running_restarted number running lane.waiting) (record { running = tt; waiting = is.waiting })
      (λ batch small. goes_back true number batch batch lane.waiting (record { there = λ so. so; fewer = omega arith }) small is.waiting) lane is

  requeued_confined : (stays : ℕ → Bool) (number : ℕ) (lane : Lane) → Confined lane → Confined (lanes.requeued stays number lane)
  requeued_confined stays number lane is =
      by_running (λ running. lanes.running_requeued stays number running lane.waiting) (record { running = tt; waiting = is.waiting })
      (λ batch small. record { running = tt; waiting = back_waits number batch (only stays batch) lane.waiting (chosen change stays batch.changes) small is.waiting }) lane is

  failed_confined : (number : ℕ) (lane : Lane) → Confined lane → Confined (lanes.failed number lane)
  failed_confined number lane is =
      by_running (λ running. lanes.running_failed number running lane.waiting) (record { running = tt; waiting = is.waiting })
      (λ batch small. record { running = tt; waiting = either_way AllWait (has_several batch) _ lane.waiting (λ several. halves batch small) (λ single. is.waiting) }) lane is where
        halves : (batch : Batch) → IsSmall batch → AllWait (split_into number batch lane.waiting)
        halves batch small =
            let (one, other) = parts change (lanes.half batch) batch.changes in
            split_waits number batch lane.waiting (λ there. omega (arith, small (one.there there), one.fewer)) (λ there. omega (arith, small (other.there there), other.fewer)) is.waiting

  pub started_confined : (now : ℕ) (lane : Lane) → Confined lane → Confined (lanes.started now lane)
  started_confined now lane is = by lane.running lane.waiting is.running is.waiting where
    by : (running : Option Batch) (waiting : List Batch) → IfSome running IsSmall → AllWait waiting → Confined (lanes.started_beside now running waiting)
    by None [] small all = record { running = tt; waiting = all }
    by None (first ∷ waiting) small all = let waits = All-head Waits first waiting all in record { running = λ there. (waits there).1; waiting = All-tail Waits first waiting all }
    by (Some batch) waiting small all = record { running = small; waiting = all }

  -- what runs goes on
  altered_confined : (alter : Batch → Batch) → ((batch : Batch) → IsSmall batch → IsSmall (alter batch)) → (lane : Lane) → Confined lane → Confined (beside (option_map alter lane.running) lane.waiting)
  altered_confined alter still lane is =
      by_running (λ running. beside (option_map alter running) lane.waiting) (record { running = tt; waiting = is.waiting }) (λ batch small. record { running = still batch small; waiting = is.waiting }) lane is

  -- A DEED on another change
  followed_confined : (was now moved : Bool) (limit : Option ℕ) (priority : ℤ) (other : ℕ) (queue : Queue) → eqb change other ≡ false → Confined queue.staging
      → Confined (followed was now moved limit priority other queue).staging
  followed_confined was now moved limit priority other queue differs is = by was now moved where
    out : Lane
    out = lanes.taken_out (all_but other) queue.next queue.staging

    taken : Confined out
    taken = taken_out_confined (all_but other) queue.next queue.staging is

    queued : (number : ℕ) (lane : Lane) → Confined lane → Confined (lanes.enqueued limit number priority other lane)
    queued number lane lane_is = record { running = lane_is.running; waiting = entered_waits number priority other limit lane.waiting differs lane_is.waiting }

    by : (was now moved : Bool) → Confined (followed was now moved limit priority other queue).staging
    by false false moved = is
    by false true moved = queued queue.next queue.staging is
    by true false moved = taken
    by true true false = is
    by true true true = queued _ out taken

  about_confined : (s : State) (other : ℕ) (deed : Deed) → eqb change other ≡ false → Confined s.queue.staging → Confined (about s other deed).state.queue.staging
  about_confined s other deed differs is = subst Confined (sym (tried_by_staging _ _ other _)) (followed_confined _ _ _ _ _ other s.queue differs is)

  -- and one that leaves the approval and the priority of its change
  followed_left : (was now same : Bool) (limit : Option ℕ) (priority : ℤ) (other : ℕ) (queue : Queue) → (beq was now && same) ≡ true → (followed was now (not same) limit priority other queue).staging ≡ queue.staging
  followed_left was now same limit priority other queue left = grind (arith, left)

  left_confined : (s : State) (other : ℕ) (deed : Deed) → keeps_place s other (about s other deed).state ≡ true → Confined s.queue.staging → Confined (about s other deed).state.queue.staging
  left_confined s other deed left is =
      let new = effect s.desk other deed in
      subst Confined (sym (tried_by_staging (trying_on s.desk other) (trying_on new other) other (approval_followed s.desk new other s.queue)
      ∙ followed_left (approved_on s.desk other) (approved_on new other) (int_eq (priority_on s.desk other) (priority_on new other)) (size_on new) (priority_on new other) other s.queue left)) is

  -- NEW SETTINGS
  accepted_confined : (s : State) (read : Result SettingsView SettingsFault) → Confined s.queue.staging → Confined (accepted s read).state.queue.staging
  accepted_confined s (Err fault) is = is
  accepted_confined s (Ok settings) is =
      either_way (λ o. Confined o.state.queue.staging) (are_present s.desk settings) (quiet s) (under settings s) (λ present. is)
      (λ new. restarted_confined _ _ (taken_out_confined _ s.queue.next s.queue.staging is))

  -- A BATCH ENDS, or goes back
  ending_confined : (branch : Branch) (why : Why) (s : State) → Confined s.queue.staging → Confined (ending branch why s).state.queue.staging
  ending_confined Staging why s is = failed_confined s.queue.next s.queue.staging is
  ending_confined Trying why s is = is

  back_confined : (base : Option (List ℕ)) (s : State) → Confined s.queue.staging → Confined (sent_back base s).queue.staging
  back_confined base s is = requeued_confined _ s.queue.next s.queue.staging is

  reported_confined : (branch : Branch) (name : List ℕ) (report : Report) (s : State) → Confined s.queue.staging → Confined (specs.reported branch name report s.queue).staging
  reported_confined Staging name report s is = altered_confined (lanes.reported_on name report) (λ batch small. small) s.queue.staging is
  reported_confined Trying name report s is = is

  staged_confined : (branch : Branch) (now : ℕ) (commit : List ℕ) (s : State) → Confined s.queue.staging → Confined (specs.staged branch now commit s.queue).staging
  staged_confined Staging now commit s is = altered_confined (lanes.staged_at now commit) (λ batch small. small) s.queue.staging is
  staged_confined Trying now commit s is = is

  -- each step of a status and of a tick
  pub confining : EachStep (λ few s o. Confined s.queue.staging → Confined o.state.queue.staging)
  confining = record {
    nothing = λ few s is. is;
    both = λ s first next one other is. other (one is);
    report = λ branch name report s required next rest is. rest (reported_confined branch name report s is);
    fail = λ branch cause s ends stays is. ending_confined branch (told_as branch cause) s is;
    pass = λ s stays is. is;
    land = λ s batch runs passes is. altered_confined lanes.to_land (λ batch small. small) s.queue.staging is;
  }

  -- ANY ACT, as it is meant
  abbrev is_beside : Act → Bool
  is_beside (On other deed) = all_but change other
  is_beside (Other fact) = true

  abbrev lets : State → Act → Bool
  lets s act = is_beside act || keeps_place s change (done s act).state

  done_confined : (s : State) (act : Act) → lets s act ≡ true → Confined s.queue.staging → Confined (done s act).state.queue.staging
  done_confined s (On other deed) left is = by (eqb change other) refl where
    by : (here : Bool) → eqb change other ≡ here → Confined (about s other deed).state.queue.staging
    by false elsewhere = about_confined s other deed elsewhere is
    by true at =
        let same : change ≡ other = (Decides-eqb change other).0 at in
        left_confined s other deed (subst (λ (c : ℕ). keeps_place s c (about s other deed).state ≡ true) same (grind (arith, nat_tests, left, at))) is
  done_confined s (Other (Role person role)) left is = is
  done_confined s (Other (Settings text)) left is = accepted_confined s (settings_of text) is
  done_confined s (Other (Base commit)) left is =
      let back = sent_back (Some commit) s in
      by_bool (λ lands. Confined (tries_left lands back.desk back.queue).staging) (back_confined (Some commit) s is) (back_confined (Some commit) s is) (lands_with commit s.queue.staging)
  done_confined s (Other (Staged batch commit)) left is = staged_confined (ordered_on batch s.queue) s.desk.clock commit s is
  done_confined s (Other (Conflict batch)) left is = ending_confined (ordered_on batch s.queue) (told_as (ordered_on batch s.queue) why.Conflict) s is
  done_confined s (Other (Status commit name state)) left is = told_so confining commit name state (heads_told commit name state s) is
  done_confined s (Other (Refused batch)) left is = back_confined None s is
  done_confined s (Other (Tick now)) left is =
      let t = with_desk s (with_clock s.desk now) in
      started_confined now (on_both (timed_out now) t).state.queue.staging (timed_out_both_so confining now t is)

  -- A `retry` is a deed on the same change, and what a rule denies changes nothing.
  means_beside : (s : State) (act : Act) → is_beside (meaning (look s.desk) act) ≡ is_beside act
  means_beside s act = means (λ a. is_beside a ≡ is_beside act) (look s.desk) act refl (λ n person at. ap is_beside (sym at))

  lets_meant : (s : State) (act : Act) → leaves_alone change s act ≡ true → denial s act ≡ None → lets s (meaning (look s.desk) act) ≡ true
  lets_meant s (Other fact) left allowed = refl
  lets_meant s (On other deed) left allowed =
      ap (λ (b : Bool). b || keeps_place s change (acted s (On other deed)).state) (means_beside s (On other deed))
      ∙ subst (λ (rule : Option Rule). (all_but change other || keeps_place s change (unless_denied rule s (acted s (On other deed)).state)) ≡ true) allowed left

  pub after_confined : (s : State) (act : Act) → leaves_alone change s act ≡ true → Confined s.queue.staging → Confined (after s act).queue.staging
  after_confined s act left is =
      by_option (λ rule. denial s act ≡ rule → Confined (unless_denied rule s (acted s act).state).queue.staging)
      (λ allowed. done_confined s (meaning (look s.desk) act) (lets_meant s act left allowed) is) (λ rule denied. is) (denial s act) refl
