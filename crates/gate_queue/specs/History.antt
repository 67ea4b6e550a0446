-- THE HISTORY: all acts so far with their replies, and what it says of people and changes.
use Rattle.std.specs.Prelude.{◌≡◌, ◌≢◌, ℕ, ℤ, pos, ◌==◌, ◌≤◌, Bool, true, false, not, ◌&&◌, ◌||◌, ⊤, List, [], ◌∷◌, Option, Some, None, is_some, if◌then◌else◌}
use Rattle.std.specs.FinMap as finite
use Rattle.std.specs.FinSet as set
use Rattle.std.specs.Bool.{then_some}
use Rattle.std.specs.List.{fold, filter_map, list_any, count_by, All}
use Rattle.std.specs.Option.{option_flatten, unwrap_or, option_or, option_map, option_map_or, option_and_then}
use Rattle.std.specs.Result.{result_ok}
use Rattle.std.specs.Str.{bytes_eq}
use Rattle.gate_state.specs.Acts.{on, ActKeepsLimits}
use Rattle.gate_state.specs.declared.reply.Head.{Head}
use Rattle.gate_state.specs.declared.reply.Why.TheVariants as why
use Rattle.gate_queue.specs.Vocabulary.{SettingsView, settings_of, same_settings, Approve, ApproveFor, Withdraw, Priority, Try, TryCancel, DelegateAuthor, DelegateTo, DelegateNone, Known, Look, Texts, is_open_phase, is_fit, DeskView, role_on, Change, Phase, Repeat, Nobody, RoleOf, Rule, Act, On, Other, Deed, Said, Happened, Opened, Pushed, Closed, Labeled, Unlabeled, Review, Fact, Role, Settings, Base, Staged, Status, Refused, Tick, StatusState, Success, Failure, Error, Pending, Order, Stage, Land, Notice, Reply, Done, Denied, Why, State}
use Rattle.gate_rules.specs.declared.change.Phase.TheVariants as phase
use Rattle.gate_rules.specs.declared.change.Repeat.TheVariants as repeat
use Rattle.gate_state.specs.Counts.{held, in_landing, of_any_priority}
use Rattle.gate_queue.specs.Machine.{IsEmpty, broken, missing, meaning, is_good, reply_to, after, Step}
use Rattle.gate_state.specs.State.{IsState}
use Rattle.gate_state.specs.declared.batch.Batch.{Batch}
use Rattle.gate_state.specs.declared.batch.Branch.{Branch}
use Rattle.gate_state.specs.declared.batch.Branch.TheVariants.{Staging, Trying}
use Rattle.gate_state.specs.declared.batch.Stage.{Stage as StageOf}
use Rattle.gate_state.specs.declared.batch.Stage.TheVariants as stage
use Rattle.gate_state.specs.Room.{HasRoom}

-- A history is a list of entries, the newest first.
pub record Entry : Type 0 where
  pub act : Act
  pub reply : Reply

-- What has happened, in events. The newest stands first.
pub data Event : Type 0 where
  did : Act → Event
  gave : Order → Event

-- LOOKING BACK, by two words; each test is given an event and what happened before it
-- what the last event says that says anything
abbrev pub last_of : {X : Type 0} → (Event → List Event → Option X) → List Event → Option X
last_of said [] = None
last_of said (event ∷ events) = option_or (said event events) (last_of said events)

-- whether some event started it and all events since have kept it
abbrev pub since : (Event → List Event → Bool) → (Event → List Event → Bool) → List Event → Bool
since start keep [] = false
since start keep (event ∷ events) = start event events || (keep event events && since start keep events)

-- what a fact says that is about no change, if the event is one
abbrev pub said_by : {X : Type 0} → (Fact → Option X) → Event → List Event → Option X
said_by said (did (On change deed)) before = None
said_by said (did (Other fact)) before = said fact
said_by said (gave order) before = None

-- what was done to a change, if the event was that
abbrev pub done_to : ℕ → Event → Option Deed
done_to change (did act) = on change act
done_to change (gave order) = None

-- what that says
abbrev pub said_on : {X : Type 0} → ℕ → (Deed → Option X) → Event → List Event → Option X
said_on change said event before = option_and_then said (done_to change event)

-- ROLES, SETTINGS, BASE, CLOCK
abbrev pub role_said : List ℕ → Fact → Option RoleOf
role_said person (Role other role) = if bytes_eq person other then Some role else None
role_said person _ = None

abbrev pub role_back : List Event → List ℕ → RoleOf
role_back events person = unwrap_or (last_of (said_by (role_said person)) events) Nobody

abbrev pub settings_said : Fact → Option SettingsView
settings_said (Settings text) = result_ok (settings_of text)
settings_said _ = None

abbrev pub settings_back : List Event → Option SettingsView
settings_back events = last_of (said_by settings_said) events

abbrev pub base_said : Fact → Option (List ℕ)
base_said (Base commit) = Some commit
base_said _ = None

abbrev pub base_back : List Event → Option (List ℕ)
base_back events = last_of (said_by base_said) events

abbrev pub clock_said : Fact → Option ℕ
clock_said (Tick now) = Some now
clock_said _ = None

abbrev pub clock_back : List Event → ℕ
clock_back events = unwrap_or (last_of (said_by clock_said) events) 0

-- CHANGES
abbrev pub author_said : Deed → Option (List ℕ)
author_said (Happened (Opened author head)) = Some author
author_said _ = None

-- none if the change was never opened
abbrev pub author_back : List Event → ℕ → Option (List ℕ)
author_back events change = last_of (said_on change author_said) events

abbrev pub head_said : Deed → Option (List ℕ)
head_said (Happened (Opened author head)) = Some head
head_said (Happened (Pushed head)) = Some head
head_said _ = None

-- empty if the change was never opened
abbrev pub head_back : List Event → ℕ → List ℕ
head_back events change = unwrap_or (last_of (said_on change head_said) events) []

-- a head move: the change is opened, or another head than before is pushed
abbrev pub moves_head : ℕ → List Event → Deed → Bool
moves_head change before (Happened (Opened author head)) = true
moves_head change before (Happened (Pushed head)) = not (bytes_eq (head_back before change) head)
moves_head change before _ = false

abbrev pub moves : ℕ → Event → List Event → Bool
moves change event before = option_map_or (moves_head change before) (done_to change event) false

-- BATCHES OF A CHANGE: the numbers of those that an order to stage names it for
abbrev pub names_change : ℕ → List Head → Bool
names_change change heads = list_any (λ (head : Head). change == head.change) heads

abbrev pub stage_naming : ℕ → Event → Option ℕ
stage_naming change (did act) = None
stage_naming change (gave (Stage batch branch base heads)) = then_some (names_change change heads) batch
stage_naming change (gave (Land batch base commit)) = None
stage_naming change (gave (Notice other why)) = None

abbrev pub batches_back : List Event → ℕ → List ℕ
batches_back events change = filter_map (stage_naming change) events

-- LANDING: the commit that a batch was ordered to land with, until the host refuses it, or the base is another
abbrev pub ends_landing : ℕ → Fact → Bool
ends_landing number (Base commit) = true
ends_landing number (Refused batch) = number == batch
ends_landing number fact = false

abbrev pub landing_said : ℕ → Event → List Event → Option (Option (List ℕ))
landing_said number (did (On change deed)) before = None
landing_said number (did (Other fact)) before = then_some (ends_landing number fact) None
landing_said number (gave (Stage batch branch base heads)) before = None
landing_said number (gave (Land batch base commit)) before = then_some (number == batch) (Some commit)
landing_said number (gave (Notice change why)) before = None

abbrev pub landing_with : List Event → ℕ → Option (List ℕ)
landing_with events number = option_flatten (last_of (landing_said number) events)

-- LANDED: since the base was the commit that the batch was to land with
abbrev pub are_same : Option (List ℕ) → Option (List ℕ) → Bool
are_same None commit = false
are_same (Some base) None = false
are_same (Some base) (Some commit) = bytes_eq base commit

abbrev pub lands_now : ℕ → Event → List Event → Bool
lands_now number event before = are_same (said_by base_said event before) (landing_with before number)

abbrev pub has_landed : List Event → ℕ → Bool
has_landed events number = since (lands_now number) (λ event before. true) events

-- A change is landing, or has landed, if a batch of it is or has.
abbrev pub landing_back : List Event → ℕ → Bool
landing_back events change = list_any (λ number. is_some (landing_with events number)) (batches_back events change)

abbrev pub landed_back : List Event → ℕ → Bool
landed_back events change = list_any (has_landed events) (batches_back events change)

-- PHASES: a change that has landed stays so; else it is open from when it was opened last, until it is closed
abbrev pub phase_said : Deed → Option Phase
phase_said (Happened (Opened author head)) = Some phase.Opened
phase_said (Happened Closed) = Some phase.Closed
phase_said _ = None

-- A change that was never opened isn't open.
abbrev pub phase_by : Bool → Option Phase → Phase
phase_by true said = phase.Landed
phase_by false said = unwrap_or said phase.Closed

abbrev pub phase_back : List Event → ℕ → Phase
phase_back events change = phase_by (landed_back events change) (last_of (said_on change phase_said) events)

abbrev pub priority_said : Deed → Option ℤ
priority_said (Said person (Known (Priority priority))) = Some priority
priority_said _ = None

abbrev pub priority_back : List Event → ℕ → ℤ
priority_back events change = unwrap_or (last_of (said_on change priority_said) events) (pos 0)

-- the last `r+`, `r=` or `try`
abbrev pub repeat_said : Deed → Option Repeat
repeat_said (Said person (Known Approve)) = Some repeat.Approve
repeat_said (Said person (Known (ApproveFor names))) = Some (repeat.ApproveFor names)
repeat_said (Said person (Known Try)) = Some repeat.Try
repeat_said _ = None

abbrev pub repeat_back : List Event → ℕ → Option Repeat
repeat_back events change = last_of (said_on change repeat_said) events

-- SETS of a change: each deed on it may put a text in or take one out.
pub data Mark : Type 0 where
  put : List ℕ → Mark
  taken : List ℕ → Mark

abbrev pub marked : Option Mark → Texts → Texts
marked None texts = texts
marked (Some (put text)) texts = set.insert texts text
marked (Some (taken text)) texts = set.remove texts text

abbrev pub label_said : Deed → Option Mark
label_said (Happened (Labeled label)) = Some (put label)
label_said (Happened (Unlabeled label)) = Some (taken label)
label_said _ = None

abbrev pub labels_back : List Event → ℕ → Texts
labels_back [] change = set.empty
labels_back (event ∷ events) change = marked (said_on change label_said event events) (labels_back events change)

abbrev pub review_said : Deed → Option Mark
review_said (Happened (Review person head approves)) = Some (if approves then put person else taken person)
review_said _ = None

-- A head move ends all reviews.
abbrev pub reviews_back : List Event → ℕ → Texts
reviews_back [] change = set.empty
reviews_back (event ∷ events) change = if moves change event events then set.empty else marked (said_on change review_said event events) (reviews_back events change)

-- A status of a head: a success puts its name in, and all else takes it out.
abbrev pub status_said : List ℕ → Fact → Option Mark
status_said head (Status commit name state) = then_some (bytes_eq commit head) (if is_good state then put name else taken name)
status_said head _ = None

-- what has succeeded on the head of a change since its last move
abbrev pub told_back : List Event → ℕ → Texts
told_back [] change = set.empty
told_back (event ∷ events) change = if moves change event events then set.empty else marked (said_by (status_said (head_back events change)) event events) (told_back events change)

-- the same of an open change, and nothing of any other
abbrev pub passed_back : List Event → ℕ → Texts
passed_back events change = if is_open_phase (phase_back events change) then told_back events change else set.empty

-- who becomes a delegate: the author at that moment, the people of a list, or nobody any longer
pub data Delegation : Type 0 where
  to_author : Delegation
  to_people : List (List ℕ) → Delegation
  to_nobody : Delegation

abbrev pub delegation_said : Deed → Option Delegation
delegation_said (Said person (Known DelegateAuthor)) = Some to_author
delegation_said (Said person (Known (DelegateTo names))) = Some (to_people names)
delegation_said (Said person (Known DelegateNone)) = Some to_nobody
delegation_said _ = None

abbrev pub with_author : Option (List ℕ) → Texts → Texts
with_author None delegates = delegates
with_author (Some author) delegates = set.insert delegates author

abbrev pub delegated : Option (List ℕ) → Option Delegation → Texts → Texts
delegated author None delegates = delegates
delegated author (Some to_author) delegates = with_author author delegates
delegated author (Some (to_people names)) delegates = fold set.insert delegates names
delegated author (Some to_nobody) delegates = set.empty

abbrev pub delegates_back : List Event → ℕ → Texts
delegates_back [] change = set.empty
delegates_back (event ∷ events) change = delegated (author_back events change) (said_on change delegation_said event events) (delegates_back events change)

-- APPROVALS
-- fit: the change is open, settings exist, no label of it is blocking, and it has reviews enough
abbrev pub fit_back : List Event → ℕ → Bool
fit_back events change = is_fit (settings_back events) (phase_back events change) (labels_back events change) (reviews_back events change)

-- the approvers that a deed gives its change
abbrev pub approval_said : Deed → Option (List (List ℕ))
approval_said (Said person (Known Approve)) = Some (person ∷ [])
approval_said (Said person (Known (ApproveFor names))) = Some names
approval_said _ = None

-- what ends an approval, beside the loss of fitness: `r-`, a head move, that the change is closed, and the notice that its
-- batch has failed
abbrev pub ends_it : ℕ → List Event → Deed → Bool
ends_it change before (Said person (Known Withdraw)) = true
ends_it change before (Happened Closed) = true
ends_it change before deed = moves_head change before deed

abbrev pub ends_why : Why → Bool
ends_why why.Conflict = true
ends_why (why.Failed name) = true
ends_why why.TimedOut = true
ends_why why.Pushed = false
ends_why why.Closed = false
ends_why why.Labeled = false
ends_why why.Reviews = false
ends_why why.Settings = false
ends_why why.TryPassed = false
ends_why why.TryFailed = false

abbrev pub order_ends : ℕ → Order → Bool
order_ends change (Notice other why) = ends_why why && (change == other)
order_ends change (Stage batch branch base heads) = false
order_ends change (Land batch base commit) = false

abbrev pub ends : ℕ → Event → List Event → Bool
ends change (did act) before = option_map_or (ends_it change before) (on change act) false
ends change (gave order) before = order_ends change order

-- A change is standing if an approval of it was given while it was fit, and it has been fit at each moment since, and
-- nothing has ended it.
abbrev pub standing_back : List Event → ℕ → Bool
standing_back events change = since
    (λ event before. is_some (said_on change approval_said event before) && fit_back (event ∷ before) change)
    (λ event before. not (ends change event before) && fit_back (event ∷ before) change)
    events

-- its approvers are those of the last approval
abbrev pub approvers_back : List Event → ℕ → Option (List (List ℕ))
approvers_back events change = if standing_back events change then last_of (said_on change approval_said) events else None

-- TRIES
abbrev pub try_said : Deed → Bool
try_said (Said person (Known Try)) = true
try_said _ = false

abbrev pub try_starts : ℕ → Event → List Event → Bool
try_starts change event before = option_map_or try_said (done_to change event) false

-- what ends one: `try-`, a head move, that the change is closed, and the notice that it has passed or failed
abbrev pub ends_its_try : ℕ → List Event → Deed → Bool
ends_its_try change before (Said person (Known TryCancel)) = true
ends_its_try change before (Happened Closed) = true
ends_its_try change before deed = moves_head change before deed

abbrev pub tells_of_try : Why → Bool
tells_of_try why.Conflict = false
tells_of_try (why.Failed name) = false
tells_of_try why.TimedOut = false
tells_of_try why.Pushed = false
tells_of_try why.Closed = false
tells_of_try why.Labeled = false
tells_of_try why.Reviews = false
tells_of_try why.Settings = false
tells_of_try why.TryPassed = true
tells_of_try why.TryFailed = true

abbrev pub order_ends_try : ℕ → Order → Bool
order_ends_try change (Notice other why) = tells_of_try why && (change == other)
order_ends_try change (Stage batch branch base heads) = false
order_ends_try change (Land batch base commit) = false

abbrev pub try_ends : ℕ → Event → List Event → Bool
try_ends change (did act) before = option_map_or (ends_its_try change before) (on change act) false
try_ends change (gave order) before = order_ends_try change order

abbrev pub tried_back : List Event → ℕ → Bool
tried_back events change = since (try_starts change) (λ event before. not (try_ends change event before)) events

-- A change is tried since a `try` that nothing has ended, unless it has landed.
abbrev pub trying_back : List Event → ℕ → Bool
trying_back events change = tried_back events change && not (landed_back events change)

-- A CHANGE that was opened, with all that the history says of it
abbrev pub change_of : List Event → ℕ → List ℕ → Change
change_of events change author = record {
  author = author;
  head = head_back events change;
  phase = phase_back events change;
  priority = priority_back events change;
  labels = labels_back events change;
  reviews = reviews_back events change;
  passed = passed_back events change;
  delegates = delegates_back events change;
  approved = approvers_back events change;
  trying = trying_back events change;
  landing = landing_back events change;
  last = repeat_back events change;
}

abbrev pub change_back : List Event → ℕ → Option Change
change_back events change = option_map (change_of events change) (author_back events change)

-- ORDERS: how many were to stage a batch, and how many to land it
abbrev pub is_stage_of : ℕ → Order → Bool
is_stage_of number (Stage batch branch base heads) = number == batch
is_stage_of number (Land batch base commit) = false
is_stage_of number (Notice change why) = false

abbrev pub is_land_of : ℕ → Order → Bool
is_land_of number (Stage batch branch base heads) = false
is_land_of number (Land batch base commit) = number == batch
is_land_of number (Notice change why) = false

abbrev pub is_order : (Order → Bool) → Event → Bool
is_order test (did act) = false
is_order test (gave order) = test order

abbrev pub stages : ℕ → List Event → ℕ
stages number events = count_by (is_order (is_stage_of number)) events

abbrev pub landings : ℕ → List Event → ℕ
landings number events = count_by (is_order (is_land_of number)) events

-- the heads that the last order to stage a batch names
abbrev pub heads_said : ℕ → Event → List Event → Option (List Head)
heads_said number (did act) before = None
heads_said number (gave (Stage batch branch base heads)) before = then_some (number == batch) heads
heads_said number (gave (Land batch base commit)) before = None
heads_said number (gave (Notice change why)) before = None

abbrev pub heads_back : List Event → ℕ → List Head
heads_back events number = unwrap_or (last_of (heads_said number) events) []

-- TESTED, for a base and a commit.
-- The batch was ordered on this base, and since then no base was set, and settings only that equal those before.
abbrev pub is_order_on : ℕ → List ℕ → Event → List Event → Bool
is_order_on number base (gave (Stage batch Staging other heads)) before = (number == batch) && bytes_eq base other
is_order_on number base event before = false

abbrev pub keeps_settings : Option SettingsView → Fact → Bool
keeps_settings present fact = option_map_or (λ (new : SettingsView). option_map_or (λ (old : SettingsView). same_settings old new) present false) (settings_said fact) true

abbrev pub keeps_order : Event → List Event → Bool
keeps_order (did (On change deed)) before = true
keeps_order (did (Other fact)) before = not (is_some (base_said fact)) && keeps_settings (settings_back before) fact
keeps_order (gave order) before = true

abbrev pub is_ordered_on : List Event → ℕ → List ℕ → Bool
is_ordered_on events number base = since (is_order_on number base) keeps_order events

-- It was staged with this commit, and not staged or ordered anew since.
abbrev pub is_staging : ℕ → List ℕ → Fact → Bool
is_staging number commit (Staged batch other) = (number == batch) && bytes_eq commit other
is_staging number commit fact = false

abbrev pub stages_anew : ℕ → Fact → Bool
stages_anew number (Staged batch commit) = number == batch
stages_anew number fact = false

abbrev pub is_staged_as : ℕ → List ℕ → Event → List Event → Bool
is_staged_as number commit (did (On change deed)) before = false
is_staged_as number commit (did (Other fact)) before = is_staging number commit fact
is_staged_as number commit (gave order) before = false

abbrev pub keeps_staged : ℕ → Event → List Event → Bool
keeps_staged number (did (On change deed)) before = true
keeps_staged number (did (Other fact)) before = not (stages_anew number fact)
keeps_staged number (gave order) before = not (is_stage_of number order)

abbrev pub is_staged_back : List Event → ℕ → List ℕ → Bool
is_staged_back events number commit = since (is_staged_as number commit) (keeps_staged number) events

-- what a fact reports of a status of a commit
abbrev pub state_said : List ℕ → List ℕ → Fact → Option StatusState
state_said commit name (Status other status state) = then_some (bytes_eq commit other && bytes_eq name status) state
state_said commit name fact = None

abbrev pub is_bad : StatusState → Bool
is_bad Success = false
is_bad Failure = true
is_bad Error = true
is_bad Pending = false

-- Since it was staged, none of these reports was bad.
abbrev pub keeps_clean : ℕ → List ℕ → List ℕ → Event → List Event → Bool
keeps_clean number commit name event before = keeps_staged number event before && not (option_map_or is_bad (said_by (state_said commit name) event before) false)

abbrev pub is_clean : List Event → ℕ → List ℕ → List ℕ → Bool
is_clean events number commit name = since (is_staged_as number commit) (keeps_clean number commit name) events

-- The last was good, and came after it was staged, and none before it was bad.
abbrev pub passes : ℕ → List ℕ → List ℕ → Event → List Event → Bool
passes number commit name event before = is_clean before number commit name && option_map_or is_good (said_by (state_said commit name) event before) false

abbrev pub keeps_passed : ℕ → List ℕ → List ℕ → Event → List Event → Bool
keeps_passed number commit name event before = keeps_staged number event before && not (is_some (said_by (state_said commit name) event before))

abbrev pub has_passed : List Event → ℕ → List ℕ → List ℕ → Bool
has_passed events number commit name = since (passes number commit name) (keeps_passed number commit name) events

pub record IsTested (events : List Event) (number : ℕ) (base commit : List ℕ) : Type 0 where
  pub ordered : is_ordered_on events number base ≡ true
  pub present : base_back events ≡ Some base
  pub staged : is_staged_back events number commit ≡ true
  pub settings : SettingsView
  pub accepted : settings_back events ≡ Some settings
  pub passed : All (λ name. has_passed events number commit name ≡ true) settings.status

-- RIGHT ORDERS
-- a change that is staged is standing, at its present head, and has this priority
pub record IsStandingAt (events : List Event) (priority : ℤ) (staged : Head) : Type 0 where
  pub standing : standing_back events staged.change ≡ true
  pub head : head_back events staged.change ≡ staged.head
  pub of_priority : priority_back events staged.change ≡ priority

-- a change that is to land is standing and fit, at the head at which it was staged, and its head hasn't moved since
abbrev pub is_order_at : ℕ → Head → Event → List Event → Bool
is_order_at number head (gave (Stage batch branch base heads)) before = (number == batch) && list_any (λ (other : Head). (head.change == other.change) && bytes_eq head.head other.head) heads
is_order_at number head event before = false

abbrev pub keeps_head : ℕ → Event → List Event → Bool
keeps_head change event before = not (moves change event before)

abbrev pub is_unmoved : List Event → ℕ → Head → Bool
is_unmoved events number head = since (is_order_at number head) (keeps_head head.change) events

pub record IsReadyToLand (events : List Event) (number : ℕ) (staged : Head) : Type 0 where
  pub standing : standing_back events staged.change ≡ true
  pub fit : fit_back events staged.change ≡ true
  pub head : head_back events staged.change ≡ staged.head
  pub unmoved : is_unmoved events number staged ≡ true

-- An order to land comes by a success of the commit, if the batch is tested and each change that it was staged with is ready.
pub record IsRightLanding (events : List Event) (act : Act) (number : ℕ) (base commit : List ℕ) : Type 0 where
  pub name : List ℕ
  pub success : act ≡ Other (Status commit name Success)
  pub tested : IsTested events number base commit
  pub ready : All (IsReadyToLand events number) (heads_back events number)

-- a change that is staged on the other branch is tried, at its present head
pub record IsTriedAt (events : List Event) (staged : Head) : Type 0 where
  pub trying : trying_back events staged.change ≡ true
  pub head : head_back events staged.change ≡ staged.head

-- On `Staging` all heads are of changes that stand, and these have one priority; on `Trying` it is the head of one change alone.
abbrev pub AreRightHeads : List Event → Branch → List Head → Type 0
AreRightHeads events Staging heads = (priority : ℤ) × All (IsStandingAt events priority) heads
AreRightHeads events Trying heads = (one : Head) × (heads ≡ one ∷ []) × IsTriedAt events one

-- An order to stage names the present base and right heads, one at least.
abbrev pub IsRightOrder : List Event → Act → Order → Type 0
IsRightOrder events act (Stage batch branch base heads) = (base_back events ≡ Some base) × (heads ≢ []) × AreRightHeads events branch heads
IsRightOrder events act (Land batch base commit) = IsRightLanding events act batch base commit
IsRightOrder events act (Notice change why) = ⊤

-- WHAT THE RULES READ of a history
abbrev pub look_back : List Event → Look
look_back events = record {
  role = role_back events;
  change = change_back events;
  settings = settings_back events;
  base = base_back events;
  clock = clock_back events;
}

-- WHAT HAS HAPPENED: an entry that acted is what its act means, and then its orders; one that was denied is nothing. So the
-- moments of a history are those after each event: an order comes after its act.
abbrev pub given : List Event → List Order → List Event
given events [] = events
given events (order ∷ orders) = given (gave order ∷ events) orders

abbrev pub happened : List Event → Act → Reply → List Event
happened events act (Done orders) = given (did (meaning (look_back events) act) ∷ events) orders
happened events act (Denied rule) = events

abbrev pub events_of : List Entry → List Event
events_of [] = []
events_of (entry ∷ history) = happened (events_of history) entry.act entry.reply

-- the rule that denies an act, read on the history
abbrev pub rule_back : List Entry → Act → Option Rule
rule_back history act = broken (look_back (events_of history)) act

-- LEGAL: the entries are steps of the machine, one after the other, from an empty state to this one, each to a state
abbrev pub Legal : List Entry → State → Type 0
Legal [] s = IsEmpty s × IsState s
Legal (entry ∷ history) s = (before : State) × Legal history before × Step before entry.act entry.reply s × IsState s

-- the approvers of a change, if it is there and has any
abbrev pub approvers_on : DeskView → ℕ → Option (List (List ℕ))
approvers_on desk change = option_and_then (λ c. c.approved) (finite.get desk.changes change)

-- the commit that the batch of a number is to land with, if it is the one that runs and is landing
abbrev pub commit_of : StageOf → Option (List ℕ)
commit_of (stage.Landing commit) = Some commit
commit_of other = None

abbrev pub landing_of : ℕ → Option Batch → Option (List ℕ)
landing_of number None = None
landing_of number (Some batch) = if number == batch.number then commit_of batch.stage else None

-- WHAT RUNS ON STAGING, by the history. A batch that is ordered or staged was ordered there once, on the present base. Since then no base
-- was set, and settings only that equal those before. Each head that the order names is the present one, and hasn't moved since.
pub record HasStayed (events : List Event) (number : ℕ) (staged : Head) : Type 0 where
  pub head : head_back events staged.change ≡ staged.head
  pub unmoved : is_unmoved events number staged ≡ true

pub record OrderTells (events : List Event) (number : ℕ) : Type 0 where
  pub base : List ℕ
  pub present : base_back events ≡ Some base
  pub ordered : is_ordered_on events number base ≡ true
  pub once : stages number events ≤ 1
  pub heads : All (HasStayed events number) (heads_back events number)

-- One that is staged was staged with this commit last. Of one that lands `landing_with` tells.
abbrev pub StageTells : List Event → ℕ → StageOf → Type 0
StageTells events number stage.Waiting = ⊤
StageTells events number (stage.Ordered since) = OrderTells events number
StageTells events number (stage.Staged since commit reports) = OrderTells events number × (is_staged_back events number commit ≡ true)
StageTells events number (stage.Landing commit) = ⊤

abbrev pub RunningTells : List Event → Option Batch → Type 0
RunningTells events None = ⊤
RunningTells events (Some batch) = StageTells events batch.number batch.stage

-- WHAT A HISTORY TELLS of the state that it led to
pub record StateTells (history : List Entry) (s : State) : Type 0 where
  -- people, settings, base and clock are those of the history
  pub roles : (person : List ℕ) → role_on s.desk person ≡ role_back (events_of history) person
  pub settings : s.desk.settings ≡ settings_back (events_of history)
  pub base : s.desk.base ≡ base_back (events_of history)
  pub clock : s.desk.clock ≡ clock_back (events_of history)
  -- a change is there exactly if it was opened; then its author, head, phase, priority, labels, reviews, what has succeeded on
  -- its head, delegates, its last command, and whether it is tried or landing, are those of the history
  pub changes : (change : ℕ) → finite.get s.desk.changes change ≡ change_back (events_of history) change
  -- a change has approvers exactly if it is standing, and then those of its last approval
  pub approvers : (change : ℕ) → approvers_on s.desk change ≡ approvers_back (events_of history) change
  -- a change is in exactly one batch on staging if it is standing or landing, and in none if it isn't; and its batch is landing
  -- exactly if it is
  pub queued : (change : ℕ) → held of_any_priority change s.queue.staging
      ≡ (if standing_back (events_of history) change || landing_back (events_of history) change then 1 else 0)
  pub landing : (change : ℕ) → in_landing of_any_priority change s.queue.staging ≡ (if landing_back (events_of history) change then 1 else 0)
  -- what a batch is to land with by the history, the batch that runs on staging is landing with
  pub to_land : (number : ℕ) → landing_with (events_of history) number ≡ landing_of number s.queue.staging.running
  -- the batch that runs there, if it is ordered or staged, is so by the history
  pub running : RunningTells (events_of history) s.queue.staging.running
  -- it is in exactly one batch on trying if it is tried, and in none if it isn't
  pub tried : (change : ℕ) → held of_any_priority change s.queue.trying ≡ (if trying_back (events_of history) change then 1 else 0)

-- EVERY LEGAL HISTORY TELLS that of the state that it led to.
abbrev pub LawOfHistories : Type 0
LawOfHistories = (history : List Entry) (s : State) → Legal history s → StateTells history s

-- WHAT ONE MORE ENTRY TELLS, after a history that led from an empty state to `old`.
-- the orders of a reply, and the rule that it names
abbrev pub orders_in : Reply → List Order
orders_in (Done orders) = orders
orders_in (Denied rule) = []

abbrev pub denied_by : Reply → Option Rule
denied_by (Done orders) = None
denied_by (Denied rule) = Some rule

pub record EntryTells (history : List Entry) (old : State) (entry : Entry) (new : State) : Type 0 where
  -- the state is as the history with the entry tells
  pub state : StateTells (entry ∷ history) new
  -- no number was staged twice, and none was to land twice; each order is right
  pub staged_once : (number : ℕ) → stages number (events_of (entry ∷ history)) ≤ 1
  pub landed_once : (number : ℕ) → landings number (events_of (entry ∷ history)) ≤ 1
  pub ordered_rightly : All (IsRightOrder (events_of (entry ∷ history)) entry.act) (orders_in entry.reply)
  -- acts exactly by rule: done if no rule fails on the history before, and else denied by the first that does. News of a batch
  -- is denied before if no batch is where it needs one; a status may also be of the head of an open change.
  pub by_rule : denied_by entry.reply ≡ option_or (missing old entry.act) (rule_back history entry.act)
  -- a denied act changes nothing
  pub denied : (rule : Rule) → entry.reply ≡ Denied rule → new ≡ old
  -- legality goes on
  pub legal : Legal (entry ∷ history) new

abbrev pub entry_of : Act → Reply → Entry
entry_of act reply = record { act = act; reply = reply }

-- EACH STEP TELLS IT: after every legal history, one more act that keeps its limits, if the next number leaves room for it.
abbrev pub LawOfEntries : Type 0
LawOfEntries = (history : List Entry) (old : State) (act : Act) → Legal history old → HasRoom old.queue → ActKeepsLimits act
    → EntryTells history old (entry_of act (reply_to old act)) (after old act)
