-- What a legal history and its state keep, step by step: an act, and then its orders.
use Rattle.std.proofs.Common.{◌≡◌, ◌≢◌, ◌≤◌, ◌+◌, ℕ, eqb, ltb, Bool, true, false, not, if◌then◌else◌, List, [], ◌∷◌, ◌++◌, length, Option, Some, None, Result, is_some, refl, sym, ◌∙◌, ap, subst, arith, ◌⊎◌, inl, inr}
use Rattle.std.proofs.lemmas.Bool.Decides.{nat_tests, Decides-eqb}
use Rattle.std.proofs.lemmas.List.Elements.{All-head}
use Rattle.std.proofs.lemmas.List.Sums.{sum_by-cons}
use Rattle.std.specs.Bool.{⊤, then_some}
use Rattle.std.specs.FinMap as finite
use Rattle.std.specs.List.{All, cons_option, filter_map, list_any}
use Rattle.std.specs.Option.{option_map, option_map_or}
use Rattle.std.proofs.lemmas.Bool.{or_left}
use Rattle.gate_queue.specs.Vocabulary.{SettingsView, SettingsFault, Look, DeskView, look, Change, Act, Head, Order, Stage, Land, Notice, Why, Batch, Branch, Staging, Trying, Report, StageOf, Lane, Queue, Outcome, State}
use Rattle.gate_state.specs.Counts.{held, held_by, of_any_priority, uses}
use Rattle.gate_state.specs.declared.reply.Why.TheVariants as why
use Rattle.gate_queue.specs.History.{Event, did, gave, given, author_back, change_of, names_change, batches_back, commit_of, landing_of, landing_with, is_stage_of, is_land_of, stages, landings, ends_why, look_back}
use Rattle.gate_state.specs.Lanes as lanes
use Rattle.gate_state.specs.Lanes.{batches_of, is_landing, ordered_at, with_report, reported_on, staged_at, to_land as lanes_to_land}
use Rattle.gate_queue.specs.Machine.{broken, followed_on, then_next, accepted, lone_notices, failing, has_passed, to_land, land_order, tries_left, head_on, first_order, starting, with_queue, ending, on_both, lone_on}
use Rattle.gate_state.specs.State.{IsWaiting}
use Rattle.gate_state.specs.Queue as specs
use Rattle.gate_state.specs.Queue.{lane_of}
use Rattle.gate_state.specs.declared.batch.Stage.TheVariants as stage
use Rattle.gate_queue.proofs.Acting.{AreMild, starting_look, land_look, ending_look, ends_on}
use Rattle.gate_queue.proofs.After.{order_elsewhere}
use Rattle.gate_queue.proofs.Growing.{waits, Grows, same_grows, started_grows, reported_grows, ending_grows}
use Rattle.gate_queue.proofs.Keeping.{lands, some_there}
use Rattle.gate_queue.proofs.Landing.{Lands, Members, list_any_skip, none_lands, named_heads, staged_named, counted}
use Rattle.gate_state.specs.Lemmas.Numbers.{has_number, all_uses}
use Rattle.gate_queue.proofs.Held.{Holds}
use Rattle.gate_queue.proofs.States.{ready, tried_ready, running_ready, queued_held, tried_held, reported_holds, starting_holds, holding, IsNow, its_branch}
use Rattle.gate_queue.proofs.Unseen.{Unseen, order_unseen, still_unseen}
use Rattle.gate_queue.proofs.Told.{EachStep}
use Rattle.gate_queue.proofs.Choosing.{by_option}

abbrev once : Bool → ℕ
once b = if b then 1 else 0

-- NUMBERS: one that was staged doesn't wait on either branch, and none from the next one on was staged; and the running batch on
-- `Staging`, if it isn't landing, was staged once more than it was to land.
abbrev pub untold : ℕ → Option Batch → ℕ
untold number None = 0
untold number (Some batch) = if is_landing batch.stage then 0 else once (eqb number batch.number)

pub record Numbered (events : List Event) (queue : Queue) : Type 0 where
  pub once : (number : ℕ) → stages number events + waits number queue ≤ (if ltb number queue.next then 1 else 0)
  pub lands : (number : ℕ) → landings number events + untold number queue.staging.running ≤ stages number events

-- WHAT RUNS on `Staging` after a step is what ran, or nothing if that wasn't landing.
abbrev pub Runs : Option Batch → Option Batch → Type 0
Runs old new = (new ≡ old) ⊎ ((new ≡ None) × (lands old ≡ false))

pub followed_runs : (old new : DeskView) (change : ℕ) (queue : Queue) → Runs queue.staging.running (followed_on old new change queue).staging.running
followed_runs old new change queue = grind arith

pub accepted_runs : (s : State) (read : Result SettingsView SettingsFault) → Runs s.queue.staging.running (accepted s read).state.queue.staging.running
accepted_runs s read = grind arith

-- So it isn't told of more than before, and has the changes that it had; and it goes on if it is landing as before.
pub record Goes (old new : Option Batch) : Type 0 where
  pub lands : (number : ℕ) → landing_of number new ≡ landing_of number old
  pub untold : (number : ℕ) → untold number new ≤ untold number old
  pub members : (events : List Event) → Members events old → Members events new

pub same_goes : (running : Option Batch) → Goes running running
same_goes running = record { lands = λ number. refl; untold = λ number. omega arith; members = λ events all. all }

pub runs_goes : (old new : Option Batch) → Runs old new → Goes old new
runs_goes old new (inl same) = subst (Goes old) (sym same) (same_goes old)
runs_goes old new (inr (none, not_so)) =
    subst (Goes old) (sym none) (record { lands = λ number. sym (none_lands number old not_so); untold = λ number. omega arith; members = λ events all. tt })

pub tries_left_staging : (b : Bool) (desk : DeskView) (queue : Queue) → (tries_left b desk queue).staging ≡ queue.staging
tries_left_staging b desk queue = grind arith

-- a batch whose stage changes, and is landing as before
restaged_goes : (at : Batch → StageOf) → (running : Option Batch)
    → ((batch : Batch) → running ≡ Some batch → (commit_of (at batch) ≡ commit_of batch.stage) × (is_landing (at batch) ≡ is_landing batch.stage))
    → Goes running (option_map {T = Batch} (λ batch. record batch { stage = at batch }) running)
restaged_goes at running same = record {
  lands = λ number. grind (arith, same);
  untold = λ number. grind (arith, same);
  members = λ events. by_option (λ r. Members events r → Members events (option_map {T = Batch} (λ batch. record batch { stage = at batch }) r)) (λ all. all) (λ batch all. all) running;
}

pub reported_goes : (name : List ℕ) (report : Report) (running : Option Batch) → Goes running (option_map (reported_on name report) running)
reported_goes name report running = restaged_goes (λ batch. with_report name report batch.stage) running (λ batch runs. (grind arith, grind arith))

pub staged_goes : (now : ℕ) (commit : List ℕ) (running : Option Batch) → lands running ≡ false → Goes running (option_map (staged_at now commit) running)
staged_goes now commit running not_so = restaged_goes (λ batch. (staged_at now commit batch).stage) running (λ batch runs. let stays = ap lands (sym runs) ∙ not_so in (grind arith, grind arith))

-- WHAT IS KEPT: the rules read the desk and the history alike; a change that was never opened has nothing; and the numbers, what
-- is landing, and the changes of the running batch are those of the history.
pub record Kept (events : List Event) (s : State) : Type 0 where
  pub same : look s.desk ≡ look_back events
  pub unseen : (c : ℕ) → Unseen events c
  pub numbered : Numbered events s.queue
  pub landing : Lands events s.queue.staging.running
  pub members : Members events s.queue.staging.running

-- an event after which no more is staged or to land, and each change has the batches that it had
record Quiet (was is : List Event) : Type 0 where
  unseen : (c : ℕ) → Unseen was c → Unseen is c
  staged : (number : ℕ) → stages number is ≡ stages number was
  to_land : (number : ℕ) → landings number is ≡ landings number was
  batches : (c : ℕ) → batches_back is c ≡ batches_back was c

still_members : (was is : List Event) → Quiet was is → (running : Option Batch) → Members was running → Members is running
still_members was is silent None all = tt
still_members was is silent (Some batch) all = λ c. ap (list_any (λ number. eqb number batch.number)) (silent.batches c) ∙ all c

still_numbered : {few : ℕ} (was is : List Event) (old new : Queue) → Quiet was is → Grows few old new → ((number : ℕ) → untold number new.staging.running ≤ untold number old.staging.running)
    → Numbered was old → Numbered is new
still_numbered was is old new silent grows fewer numbered = record {
  once = λ number.
      let before = silent.staged number in
      let had = numbered.once number in
      let grown = grows.waiting number in
      let next = grows.next in
      grind (arith, nat_tests);
  lands = λ number. omega (arith, silent.staged number, silent.to_land number, fewer number, numbered.lands number);
}

-- after which what was landing is
still_kept : {few : ℕ} (was is : List Event) (old new : State) → Quiet was is → ((number : ℕ) → landing_with is number ≡ landing_with was number) → Kept was old → look new.desk ≡ look_back is
    → Grows few old.queue new.queue → Goes old.queue.staging.running new.queue.staging.running → Kept is new
still_kept was is old new silent landing kept same grows goes = record {
  same = same;
  unseen = λ c. silent.unseen c (kept.unseen c);
  numbered = still_numbered was is old.queue new.queue silent grows goes.untold kept.numbered;
  landing = λ number. landing number ∙ kept.landing number ∙ sym (goes.lands number);
  members = still_members was is silent new.queue.staging.running (goes.members was kept.members);
}

-- THE ACT
did_quiet : (events : List Event) (act : Act) → broken (look_back events) act ≡ None → Quiet events (did act ∷ events)
did_quiet events act holds =
    record { unseen = still_unseen events act holds; staged = λ number. refl; to_land = λ number. refl; batches = λ c. refl }

-- one after which what was landing is
pub did_kept : {few : ℕ} (events : List Event) (act : Act) (old new : State) → Kept events old → broken (look_back events) act ≡ None → look new.desk ≡ look_back (did act ∷ events)
    → ((number : ℕ) → landing_with (did act ∷ events) number ≡ landing_with events number) → Grows few old.queue new.queue → Goes old.queue.staging.running new.queue.staging.running
    → Kept (did act ∷ events) new
did_kept events act old new kept holds same landing grows goes = still_kept events (did act ∷ events) old new (did_quiet events act holds) landing kept same grows goes

-- and one that ends all landing
pub ended_kept : {few : ℕ} (events : List Event) (act : Act) (old new : State) → Kept events old → broken (look_back events) act ≡ None → look new.desk ≡ look_back (did act ∷ events)
    → Lands (did act ∷ events) None → Grows few old.queue new.queue → new.queue.staging.running ≡ None → Kept (did act ∷ events) new
ended_kept events act old new kept holds same none grows empty = record {
  same = same;
  unseen = λ c. still_unseen events act holds c (kept.unseen c);
  numbered = still_numbered events (did act ∷ events) old.queue new.queue (did_quiet events act holds) grows (λ number. rw empty (omega arith)) kept.numbered;
  landing = rw empty none;
  members = rw empty tt;
}

-- NOTICES
abbrev pub AreNotices : List Order → Type 0
AreNotices [] = ⊤
AreNotices (Notice change why ∷ orders) = AreNotices orders
AreNotices (other ∷ orders) = ⊥

noticed : {few : ℕ} (events : List Event) (change : ℕ) (why : Why) (s t : State) → Kept events s → look t.desk ≡ look_back (gave (Notice change why) ∷ events) → Grows few s.queue t.queue
    → Goes s.queue.staging.running t.queue.staging.running → Kept (gave (Notice change why) ∷ events) t
noticed events change why s t =
    still_kept events (gave (Notice change why) ∷ events) s t (record {
      unseen = λ c. order_unseen events (Notice change why) c refl;
      staged = λ number. refl;
      to_land = λ number. refl;
      batches = λ c. refl;
    }) (λ number. refl)

pub notices_kept : (s : State) (orders : List Order) (events : List Event) → AreNotices orders → AreMild events orders → Kept events s → Kept (given events orders) s
notices_kept s [] events are mild kept = kept
notices_kept s (Notice change why ∷ orders) events are mild kept =
    notices_kept s orders (gave (Notice change why) ∷ events) are mild.1
    (noticed events change why s s kept (kept.same ∙ (λ i. record (look_back events) { change = λ c. (sym (order_elsewhere events c (Notice change why) (mild.0 c).0 (mild.0 c).1 (mild.0 c).2)) i })) (same_grows 0 s.queue) (same_goes s.queue.staging.running))
notices_kept s (other ∷ orders) events are mild kept = absurd are

-- A BATCH FAILS, or a try ends
same_quiet : (events : List Event) → Quiet events events
same_quiet events = record { unseen = λ c so. so; staged = λ number. refl; to_land = λ number. refl; batches = λ c. refl }

quietly : {few : ℕ} (events : List Event) (s t : State) → Kept events s → look t.desk ≡ look_back events → Grows few s.queue t.queue → Goes s.queue.staging.running t.queue.staging.running → Kept events t
quietly events s t = still_kept events events s t (same_quiet events) (λ number. refl)

lone_kept : {few : ℕ} (events : List Event) (s t : State) (why : Why) (one : Option ℕ) → Kept events s → look t.desk ≡ look_back (given events (lone_notices why one)) → Grows few s.queue t.queue
    → Goes s.queue.staging.running t.queue.staging.running → Kept (given events (lone_notices why one)) t
lone_kept events s t why None kept same grows goes = quietly events s t kept same grows goes
lone_kept events s t why (Some n) kept same grows goes = noticed events n why s t kept same grows goes

ending_runs : (branch : Branch) (why : Why) (s : State) → lands (lane_of branch s.queue).running ≡ false → Runs s.queue.staging.running (ending branch why s).state.queue.staging.running
ending_runs branch why s not_so = grind arith

pub ending_kept : (branch : Branch) (events : List Event) (s : State) (why : Why) → ends_on branch why ≡ true → lands (lane_of branch s.queue).running ≡ false → Kept events s
    → Kept (given events (ending branch why s).orders) (ending branch why s).state
ending_kept branch events s why ends not_so kept =
    lone_kept events s (ending branch why s).state why (lone_on branch s) kept (ending_look branch s events why ends kept.same) (ending_grows branch why s) (runs_goes _ _ (ending_runs branch why s not_so))

pub failing_kept : (branch : Branch) (events : List Event) (s : State) (cause : Why) → ends_why cause ≡ true → lands (lane_of branch s.queue).running ≡ false → Kept events s
    → Kept (given events (failing branch cause s).orders) (failing branch cause s).state
failing_kept Staging events s cause ends not_so kept = ending_kept Staging events s cause ends not_so kept
failing_kept Trying events s cause ends not_so kept = ending_kept Trying events s why.TryFailed refl not_so kept

-- THE FIRST WAITING BATCH OF A BRANCH RUNS
-- none runs, and this one is next
abbrev pub IsNext : Lane → Batch → List Batch → Type 0
IsNext lane batch waiting = lane ≡ record { running = None; waiting = batch ∷ waiting }

-- the order for it
abbrev pub stage_on : DeskView → Batch → List ℕ → Order
stage_on desk batch base = Stage batch.number batch.branch base (filter_map (head_on desk) batch.changes)

-- a number that waits was never staged, and never to land
never : (events : List Event) (queue : Queue) → Numbered events queue → (branch : Branch) (number : ℕ) → 1 ≤ uses number (lane_of branch queue).waiting
    → (stages number events ≡ 0) × (landings number events ≡ 0)
never events queue is branch number waits_there =
    let within : uses number (lane_of branch queue).waiting ≤ waits number queue = grind arith in
    let few = is.once number in
    let lands = is.lands number in
    (grind arith, grind arith)

-- a number of a try isn't that of the running batch on staging
pub other_number : (s : State) → Holds s → (number : ℕ) → 1 ≤ uses number (batches_of s.queue.trying) → (batch : Batch) → s.queue.staging.running ≡ Some batch → eqb number batch.number ≡ false
other_number s is number used batch runs =
    let apart = is.queue.order.apart number in
    let all = all_uses number s.queue.staging in
    let its = ap (λ (o : Option Batch). option_map_or (has_number number) o 0) runs in
    grind (arith, nat_tests)

-- a change that is in a batch of a branch is known, and there is a base
known_on : (branch : Branch) (s : State) → Holds s → (c : ℕ) → 1 ≤ held of_any_priority c (lane_of branch s.queue) → is_some (finite.get s.desk.changes c) ≡ true
known_on Staging s is c some = grind (arith, queued_held s is c some)
known_on Trying s is c some = grind (arith, tried_held s is c some)

based_on : (branch : Branch) (s : State) → Holds s → (changes : List ℕ) → not (eqb (length changes) 0) ≡ true
    → ((c : ℕ) → list_any (eqb c) changes ≡ true → 1 ≤ held of_any_priority c (lane_of branch s.queue)) → is_some s.desk.base ≡ true
based_on Staging s is changes some all = (ready s is changes some (λ c there. queued_held s is c (all c there))).1
based_on Trying s is [] some all = cc some
based_on Trying s is (first ∷ changes) some all = (tried_ready s is first (tried_held s is first (all first (or_left _ _ ((Decides-eqb first first).1 refl))))).1

-- the first waiting batch has its number, and is of the branch
pub first_used : (lane : Lane) (batch : Batch) (waiting : List Batch) → IsNext lane batch waiting
    → (1 ≤ uses batch.number lane.waiting) × (1 ≤ uses batch.number (batches_of lane))
first_used lane batch waiting idle =
    let first = sum_by-cons (has_number batch.number) batch waiting in
    let itself = (Decides-eqb batch.number batch.number).1 refl in
    (grind arith, grind arith)

pub first_kind : (branch : Branch) (s : State) → Holds s → (batch : Batch) (waiting : List Batch) → IsNext (lane_of branch s.queue) batch waiting
    → IsWaiting branch batch
first_kind branch s is batch waiting idle = All-head (IsWaiting branch) batch waiting (subst (λ (l : Lane). All (IsWaiting branch) l.waiting) idle (its_branch branch s is).waiting)

-- a batch of another number is ordered
other_members : (events : List Event) (number : ℕ) (branch : Branch) (base : List ℕ) (heads : List Head) (running : Option Batch)
    → ((batch : Batch) → running ≡ Some batch → eqb number batch.number ≡ false) → Members events running → Members (gave (Stage number branch base heads) ∷ events) running
other_members events number branch base heads None other all = tt
other_members events number branch base heads (Some batch) other all =
    λ c. list_any_skip (λ n. eqb n batch.number) (names_change c heads) number (batches_back events c) (other batch refl) ∙ all c

-- a change of a batch is there
there_held : (branch : Branch) (s : State) → Holds s → (c : ℕ) → 1 ≤ held of_any_priority c (lane_of branch s.queue) → is_some (finite.get s.desk.changes c) ≡ true
there_held Staging s is c some = let places = is.queue.staging.places c in grind arith
there_held Trying s is c some = let places = is.queue.trying.places c in grind arith

some_head : (desk : DeskView) (changes : List ℕ) → not (eqb (length changes) 0) ≡ true → ((c : ℕ) → list_any (eqb c) changes ≡ true → is_some (finite.get desk.changes c) ≡ true)
    → filter_map (head_on desk) changes ≢ []
some_head desk [] some there = cc some
some_head desk (first ∷ changes) some there = by (finite.get desk.changes first) (there first (or_left _ _ ((Decides-eqb first first).1 refl))) where
  by : (had : Option Change) → is_some had ≡ true → cons_option (option_map (λ (x : Change). record { change = first; head = x.head }) had) (filter_map (head_on desk) changes) ≢ []
  by None is = cc is
  by (Some c) is = λ none. cc none

module _ (branch : Branch) (s : State) (is : Holds s) (batch : Batch) (waiting : List Batch) (idle : IsNext (lane_of branch s.queue) batch waiting) where
  held_there : (c : ℕ) → list_any (eqb c) batch.changes ≡ true → 1 ≤ held of_any_priority c (lane_of branch s.queue)
  held_there c there =
      omega (
        arith,
        ap (λ (l : Lane). held of_any_priority c l) idle,
        sum_by-cons (held_by of_any_priority c) batch waiting,
        some_there c batch.changes there,
      )

  first_based : is_some s.desk.base ≡ true
  first_based = based_on branch s is batch.changes (first_kind branch s is batch waiting idle).changes held_there

  -- It has a head, since each of its changes is there.
  pub first_headed : filter_map (head_on s.desk) batch.changes ≢ []
  first_headed = some_head s.desk batch.changes (first_kind branch s is batch waiting idle).changes (λ c among. there_held branch s is c (held_there c among))

-- what is started on a branch: nothing, or the first waiting batch, on the base
pub by_start : (now : ℕ) (branch : Branch) (s : State) → Holds s → (P : List Order → Type 0) → ((specs.started branch now s.queue).staging.running ≡ s.queue.staging.running → P [])
    → ((batch : Batch) (waiting : List Batch) (base : List ℕ) → IsNext (lane_of branch s.queue) batch waiting → s.desk.base ≡ Some base → P (stage_on s.desk batch base ∷ []))
    → P (starting now branch s).orders
by_start now branch s is P none first = by (lane_of branch s.queue).running (lane_of branch s.queue).waiting refl where
  by : (running : Option Batch) (waiting : List Batch) → lane_of branch s.queue ≡ record { running = running; waiting = waiting } → P (first_order s.desk running waiting)
  by (Some batch) waiting at = none (grind arith)
  by None [] at = none (grind arith)
  by None (batch ∷ waiting) at =
      by_option (λ base. s.desk.base ≡ base → P (option_map_or (λ b. stage_on s.desk batch b ∷ []) base [])) (λ based. cc (based, first_based branch s is batch waiting at))
      (λ base based. first batch waiting base at based) s.desk.base refl

module _ (branch : Branch) (events : List Event) (s : State) (kept : Kept events s) (is : Holds s) (batch : Batch) (waiting : List Batch)
    (idle : IsNext (lane_of branch s.queue) batch waiting) where
  known : (c : ℕ) → list_any (eqb c) batch.changes ≡ true → is_some (finite.get s.desk.changes c) ≡ true
  known c there = known_on branch s is c (held_there branch s is batch waiting idle c there)

  -- so a change that was never opened isn't named
  unnamed : (c : ℕ) → author_back events c ≡ None → names_change c (filter_map (head_on s.desk) batch.changes) ≡ false
  unnamed c none =
      let as_known = ap (λ (l : Look). is_some (l.change c)) kept.same ∙ ap (λ (a : Option (List ℕ)). is_some (option_map (change_of events c) a)) none in
      named_heads s.desk c batch.changes known ∙ grind (arith, known c)

  -- it is one of the batches of a change exactly if it has the change
  named_members : (base : List ℕ) (c : ℕ) → list_any (λ n. eqb n batch.number) (batches_back (gave (stage_on s.desk batch base) ∷ events) c) ≡ list_any (eqb c) batch.changes
  named_members base c =
      staged_named batch.number c events batch.branch base (filter_map (head_on s.desk) batch.changes) (never events s.queue kept.numbered branch batch.number (first_used (lane_of branch s.queue) batch waiting idle).0).0
      ∙ named_heads s.desk c batch.changes known

  -- and that which runs on staging has its changes, be it this one or another
  started_members : (now : ℕ) (base : List ℕ) → Members (gave (stage_on s.desk batch base) ∷ events) (specs.started branch now s.queue).staging.running
  started_members now base = by branch idle (named_members base) where
    by : (b : Branch) → IsNext (lane_of b s.queue) batch waiting → Members (gave (stage_on s.desk batch base) ∷ events) (Some (ordered_at now batch))
        → Members (gave (stage_on s.desk batch base) ∷ events) (specs.started b now s.queue).staging.running
    by Staging at named = subst (λ (l : Lane). Members (gave (stage_on s.desk batch base) ∷ events) (lanes.started now l).running) (sym at) named
    by Trying at named =
        other_members events batch.number batch.branch base (filter_map (head_on s.desk) batch.changes) s.queue.staging.running
        (other_number s is batch.number (first_used s.queue.trying batch waiting at).1) kept.members

  first_kept : (now : ℕ) (base : List ℕ) → look s.desk ≡ look_back (gave (stage_on s.desk batch base) ∷ events)
      → Kept (gave (stage_on s.desk batch base) ∷ events) (with_queue s (specs.started branch now s.queue))
  first_kept now base same =
      let order = gave (stage_on s.desk batch base) in
      record {
        same = same;
        unseen = λ c none.
            order_unseen events (stage_on s.desk batch base) c (ap (λ (b : Bool). then_some b batch.number) (unnamed c none)) (kept.unseen c) none;
        numbered = record {
          once = λ number.
              let was = kept.numbered.once number in
              let staged = counted (is_stage_of number) order events in
              let one = sum_by-cons (has_number number) batch waiting in
              let next = (started_grows branch s.queue now).next in
              grind (arith, nat_tests);
          lands = λ number.
              let staged = counted (is_stage_of number) order events in
              let landed = counted (is_land_of number) order events in
              let was = kept.numbered.lands number in
              grind arith;
        };
        landing = λ number. kept.landing number ∙ grind arith;
        members = started_members now base;
      }

pub starting_kept : (now : ℕ) (branch : Branch) (events : List Event) (s : State) → Holds s → Kept events s → Kept (given events (starting now branch s).orders) (starting now branch s).state
starting_kept now branch events s is kept =
    let after = with_queue s (specs.started branch now s.queue) in
    by_start now branch s is (λ orders. look s.desk ≡ look_back (given events orders) → Kept (given events orders) after)
    (λ still same. quietly events s after kept same (started_grows branch s.queue now) (runs_goes _ _ (inl still)))
    (λ batch waiting base at based same. first_kept branch events s kept is batch waiting at now base same)
    (starting_look branch s events now kept.same (λ number there. (never events s.queue kept.numbered branch number there).1))

-- A BATCH IS TO LAND
land_kept : (events : List Event) (s : State) (batch : Batch) (since : ℕ) (base commit : List ℕ) (reports : finite.FinMap _ Report) → s.queue.staging.running ≡ Some batch
    → batch.stage ≡ stage.Staged since commit reports → Kept events s → Kept (gave (Land batch.number base commit) ∷ events) (to_land batch s).state
land_kept events s batch since base commit reports runs at kept =
    record {
      same = land_look s events batch base commit kept.same none all;
      unseen = λ c. order_unseen events (Land batch.number base commit) c refl (kept.unseen c);
      numbered = record {
        once = λ number.
            let was = kept.numbered.once number in
            let staged = counted (is_stage_of number) order events in
            grind (arith, nat_tests);
        lands = λ number.
            let staged = counted (is_stage_of number) order events in
            let landed = counted (is_land_of number) order events in
            let was = kept.numbered.lands number in
            grind arith;
      };
      landing = λ number. landed number ∙ ap (λ (o : Option Batch). landing_of number (option_map lanes_to_land o)) (sym runs);
      members = subst (λ (o : Option Batch). Members (gave (Land batch.number base commit) ∷ events) (option_map lanes_to_land o)) (sym runs) all;
    } where
      order : Event
      order = gave (Land batch.number base commit)

      none : Lands events None
      none number = kept.landing number ∙ ap (landing_of number) runs ∙ none_lands number (Some batch) (ap is_landing at)

      all : Members events (Some batch)
      all = subst (Members events) runs kept.members

      landed : (number : ℕ) → landing_with (gave (Land batch.number base commit) ∷ events) number ≡ landing_of number (Some (lanes_to_land batch))
      landed number = grind (arith, none number)

-- ONE STEP AFTER THE OTHER
given-append : (events : List Event) (first second : List Order) → given events (first ++ second) ≡ given (given events first) second
given-append events [] second = refl
given-append events (order ∷ first) second = given-append (gave order ∷ events) first second

pub given_both : (P : List Event → Type 0) (events : List Event) (first second : List Order) → P (given (given events first) second) → P (given events (first ++ second))
given_both P events first second = subst P (sym (given-append events first second))

pub then_kept : (events : List Event) (first : Outcome) (next : State → Outcome) → Kept (given (given events first.orders) (next first.state).orders) (next first.state).state
    → Kept (given events (then_next first next).orders) (then_next first next).state
then_kept events first next = given_both (λ es. Kept es (next first.state).state) events first.orders (next first.state).orders

-- A BATCH HAS PASSED
passed_kept : (s : State) (batch : Batch) → s.queue.staging.running ≡ Some batch → has_passed s.desk.settings batch.stage ≡ true → Holds s → (events : List Event) → Kept events s
    → Kept (given events (to_land batch s).orders) (to_land batch s).state
passed_kept s batch runs passes is events kept = by batch.stage refl passes where
  by : (at : StageOf) → batch.stage ≡ at → has_passed s.desk.settings at ≡ true → Kept (given events (land_order s.desk batch.number batch.stage)) (to_land batch s).state
  by (stage.Staged since commit reports) at passes =
      subst (λ (l : StageOf). Kept (given events (land_order s.desk batch.number l)) (to_land batch s).state) (sym at)
      (by_option (λ base. is_some base ≡ true → Kept (given events (option_map_or (λ b. Land batch.number b commit ∷ []) base [])) (to_land batch s).state) (λ some. cc some)
      (λ base some. land_kept events s batch since base commit reports runs at kept) s.desk.base (running_ready s is batch runs).1)
  by other at passes = cc passes

-- A STATUS of a commit that is tested, and the end of batches that have taken too long
report_goes : (branch : Branch) (name : List ℕ) (report : Report) (queue : Queue) → Goes queue.staging.running (specs.reported branch name report queue).staging.running
report_goes Staging name report queue = reported_goes name report queue.staging.running
report_goes Trying name report queue = same_goes queue.staging.running

pub keeping : EachStep (λ few s is. Holds s → Holds is.state × ((events : List Event) → Kept events s → Kept (given events is.orders) is.state))
keeping = record {
  nothing = λ few s is. (is, λ events kept. kept);
  both = λ s first next one other is.
      let after = one is in
      let later = other after.0 in
      (later.0, λ events kept. then_kept events first next (later.1 (given events first.orders) (after.1 events kept)));
  report = λ branch name report s required next rest is.
      let after = with_queue s (specs.reported branch name report s.queue) in
      let later = rest (reported_holds branch s name report required is) in
      (later.0, λ events kept. later.1 events (quietly events s after kept kept.same (reported_grows branch s.queue name report) (report_goes branch name report s.queue)));
  fail = λ branch cause s ends stays is. (holding.fail branch cause s ends stays is, λ events kept. failing_kept branch events s cause ends stays kept);
  pass = λ s stays is. (holding.pass s stays is, λ events kept. ending_kept Trying events s why.TryPassed refl stays kept);
  land = λ s batch runs passes is. (holding.land s batch runs passes is, passed_kept s batch runs passes is);
}

-- A TICK: the start of other batches, after that end
pub all_starting_kept : (now : ℕ) (events : List Event) (s : State) → IsNow now s → Kept events s
    → Kept (given events (on_both (starting now) s).orders) (on_both (starting now) s).state
all_starting_kept now events s is kept =
    let one = starting now Staging s in
    then_kept events one (starting now Trying) (starting_kept now Trying (given events one.orders) one.state (starting_holds now Staging s is).1 (starting_kept now Staging events s is.1 kept))
