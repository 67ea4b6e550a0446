-- THE MACHINE: what one act is answered on a state, and the state after it.
use Rattle.std.specs.Prelude.{◌≡◌, ◌==◌, ◌-◌, ◌++◌, ℕ, ℤ, pos, nat_le, not, Bool, true, false, ◌&&◌, ◌||◌, ⊤, List, [], ◌∷◌, map, slice_get, Option, Some, None, Result, Ok, Err, is_some, is_none, if◌then◌else◌}
use Rattle.std.proofs.Math.Bool.{beq}
use Rattle.std.specs.FinMap as finite
use Rattle.std.specs.FinSet as set
use Rattle.std.specs.List.{fold, filter_map, list_all}
use Rattle.std.specs.Option.{option_map, option_map_or, option_and_then, option_or}
use Rattle.std.specs.Ordering.{int_eq}
use Rattle.std.specs.Str.{bytes_eq}
use Rattle.gate_state.specs.declared.reply.Head.{Head}
use Rattle.gate_state.specs.declared.reply.Why.TheVariants as why
use Rattle.gate_queue.specs.Vocabulary.{SettingsView, settings_of, fault_number, same_settings, Command, Ping, Approve, ApproveFor, Withdraw, Priority, Try, TryCancel, DelegateAuthor, DelegateTo, DelegateNone, Retry, Known, Unknown, SettingsFault, Look, asks, last_command, is_known, is_open, is_landed, is_member, is_blocked, has_too_few_reviews, first_failing, DeskView, empty_desk, with_role, with_change, with_settings, with_base, with_clock, with_ended, numbers_where, ended_if, without_approval, is_required, is_open_head, with_told, look, Change, Repeat, Nobody, Rule, UnknownChange, NotOpen, AlreadyOpen, ChangeLanded, StaleHead, NotMember, OwnChange, BadSettings, ClockBack, NoSuchBatch, SameAsBase, Act, On, Other, Deed, Said, Happened, Opened, Pushed, Closed, Labeled, Unlabeled, Review, Fact, Role, Settings, Base, Staged, Conflict, Status, Refused, Tick, StatusState, Success, Failure, Error, Pending, Order, Stage, Land, Notice, Reply, Done, Denied, Why, State, Outcome}
use Rattle.gate_rules.specs.Rules as rules
use Rattle.gate_rules.specs.declared.change.Phase.TheVariants as phase
use Rattle.gate_rules.specs.declared.change.Repeat.TheVariants as repeat
use Rattle.gate_state.specs.Lanes as lanes
use Rattle.gate_state.specs.Lanes.{has_succeeded}
use Rattle.gate_state.specs.Queue.{empty_queue, lane_of, enqueued, tried, taken_out, restarted, requeued, staged, failed, started, reported, landing, dropped}
use Rattle.gate_state.specs.State.{approved_on, priority_on, trying_on}
use Rattle.gate_state.specs.declared.batch.Batch.{Batch}
use Rattle.gate_state.specs.declared.batch.Branch.{Branch}
use Rattle.gate_state.specs.declared.batch.Branch.TheVariants.{Staging, Trying}
use Rattle.gate_state.specs.declared.batch.Report.{Report}
use Rattle.gate_state.specs.declared.batch.Report.TheVariants as report
use Rattle.gate_state.specs.declared.batch.Stage.{Stage as StageOf}
use Rattle.gate_state.specs.declared.batch.Stage.TheVariants as stage
use Rattle.gate_state.specs.declared.lane.Lane.{Lane}
use Rattle.gate_state.specs.declared.queue.Queue.{Queue}

-- A STATE is the desk and the batches. An empty one has nothing but the next number.
abbrev pub empty_state : ℕ → State
empty_state next = record { desk = empty_desk; queue = empty_queue next }

abbrev pub IsEmpty : State → Type 0
IsEmpty s = s ≡ empty_state s.queue.next

-- THE RULES OF FACTS
abbrev pub is_base : Look → List ℕ → Bool
is_base s commit = option_map_or (λ base. bytes_eq base commit) s.base false

abbrev pub is_head : Look → ℕ → List ℕ → Bool
is_head s change head = option_map_or (λ c. bytes_eq c.head head) (s.change change) false

abbrev pub is_author : Look → ℕ → List ℕ → Bool
is_author s change person = option_map_or (λ c. bytes_eq c.author person) (s.change change) false

-- the rule on a text that was read as settings
abbrev pub bad_settings : Result SettingsView SettingsFault → Option Rule
bad_settings (Ok settings) = None
bad_settings (Err fault) = Some (BadSettings (fault_number fault))

-- the rules that facts on a change begin with
abbrev pub of_open_change : Look → ℕ → List (Option Rule) → List (Option Rule)
of_open_change s change others = asks (is_known s change) UnknownChange ∷ asks (is_open s change) NotOpen ∷ others

abbrev pub opening_row : Look → ℕ → List (Option Rule)
opening_row s change = asks (not (is_open s change)) AlreadyOpen ∷ asks (not (is_landed s change)) ChangeLanded ∷ []

abbrev pub review_row : Look → ℕ → List ℕ → List ℕ → List (Option Rule)
review_row s change person head =
    of_open_change s change
    (asks (is_head s change head) StaleHead
    ∷ asks (is_member (s.role person)) NotMember
    ∷ asks (not (is_author s change person)) OwnChange
    ∷ [])

-- what an act is judged by, in order: a deed on a change, and any other fact
abbrev pub deed_row : Look → ℕ → Deed → List (Option Rule)
deed_row s change (Said person spoken) = rules.line_row s person change spoken
deed_row s change (Happened (Opened author head)) = opening_row s change
deed_row s change (Happened (Pushed head)) = of_open_change s change []
deed_row s change (Happened Closed) = of_open_change s change []
deed_row s change (Happened (Labeled label)) = of_open_change s change []
deed_row s change (Happened (Unlabeled label)) = of_open_change s change []
deed_row s change (Happened (Review person head approves)) = review_row s change person head

abbrev pub fact_row : Look → Fact → List (Option Rule)
fact_row s (Role person role) = []
fact_row s (Settings text) = bad_settings (settings_of text) ∷ []
fact_row s (Base commit) = asks (not (is_base s commit)) SameAsBase ∷ []
fact_row s (Staged batch commit) = asks (not (is_base s commit)) SameAsBase ∷ []
fact_row s (Conflict batch) = []
fact_row s (Status commit name state) = []
fact_row s (Refused batch) = []
fact_row s (Tick now) = asks (nat_le s.clock now) ClockBack ∷ []

abbrev pub row : Look → Act → List (Option Rule)
row s (On change deed) = deed_row s change deed
row s (Other fact) = fact_row s fact

-- the first of these that fails
abbrev pub broken : Look → Act → Option Rule
broken s act = first_failing (row s act)

-- News of a batch is judged by this before: a running batch has the number, or the commit, and is where the news needs it. A status
-- may also be of the head of an open change.
abbrev pub is_ordered : StageOf → Bool
is_ordered stage.Waiting = false
is_ordered (stage.Ordered since) = true
is_ordered (stage.Staged since commit reports) = false
is_ordered (stage.Landing commit) = false

abbrev pub is_staged_with : List ℕ → StageOf → Bool
is_staged_with commit stage.Waiting = false
is_staged_with commit (stage.Ordered since) = false
is_staged_with commit (stage.Staged since other reports) = bytes_eq commit other
is_staged_with commit (stage.Landing other) = false

abbrev pub has_running : (Batch → Bool) → Lane → Bool
has_running test lane = option_map_or test lane.running false

abbrev pub has_ordered : ℕ → Lane → Bool
has_ordered number lane = has_running (λ batch. (number == batch.number) && is_ordered batch.stage) lane

abbrev pub has_staged : List ℕ → Lane → Bool
has_staged commit lane = has_running (λ batch. is_staged_with commit batch.stage) lane

abbrev pub has_landing : ℕ → Lane → Bool
has_landing number lane = has_running (λ batch. (number == batch.number) && lanes.is_landing batch.stage) lane

abbrev pub on_either : (Lane → Bool) → Queue → Bool
on_either test queue = test queue.staging || test queue.trying

-- Tries don't land.
abbrev pub missing : State → Act → Option Rule
missing s (Other (Staged batch commit)) = asks (on_either (has_ordered batch) s.queue) NoSuchBatch
missing s (Other (Conflict batch)) = asks (on_either (has_ordered batch) s.queue) NoSuchBatch
missing s (Other (Status commit name state)) = asks (on_either (has_staged commit) s.queue || is_open_head commit s.desk) NoSuchBatch
missing s (Other (Refused batch)) = asks (has_landing batch s.queue.staging) NoSuchBatch
missing s act = None

-- the rule that denies an act, if one does
abbrev pub denial : State → Act → Option Rule
denial s act = option_or (missing s act) (broken (look s.desk) act)

-- whether a refusal may want memory: to read settings, or to copy what the rule names
abbrev pub RefusalMayWantMemory : Act → Option Rule → Type 0
RefusalMayWantMemory (Other (Settings text)) rule = ⊤
RefusalMayWantMemory act rule = rules.MayWantMemory rule

-- WHAT AN ACT MEANS: `retry` is the command that it repeats, by the person who writes it. With nothing to repeat it never acts.
abbrev pub repeated : Option Repeat → Command
repeated None = Retry
repeated (Some repeat.Approve) = Approve
repeated (Some (repeat.ApproveFor names)) = ApproveFor names
repeated (Some repeat.Try) = Try

abbrev pub meant : Look → ℕ → Command → Command
meant s change Retry = repeated (last_command s change)
meant s change command = command

abbrev pub meaning : Look → Act → Act
meaning s (On change (Said person (Known command))) = On change (Said person (Known (meant s change command)))
meaning s act = act

-- WHAT AN ACT DOES TO ITS CHANGE
abbrev pub approved_by : List (List ℕ) → Repeat → Change → Change
approved_by approvers last change = record change { approved = Some approvers; last = Some last }

abbrev pub with_try : Change → Change
with_try change = record change { trying = true; last = Some repeat.Try }

abbrev pub without_try : Change → Change
without_try change = record change { trying = false }

abbrev pub with_priority : ℤ → Change → Change
with_priority priority change = record change { priority = priority }

abbrev pub with_delegates : List (List ℕ) → Change → Change
with_delegates names change = record change { delegates = fold set.insert change.delegates names }

abbrev pub with_author_as_delegate : Change → Change
with_author_as_delegate change = record change { delegates = set.insert change.delegates change.author }

abbrev pub without_delegates : Change → Change
without_delegates change = record change { delegates = set.empty }

abbrev pub just_opened : List ℕ → List ℕ → Change
just_opened author head = record {
  author = author;
  head = head;
  phase = phase.Opened;
  priority = pos 0;
  labels = set.empty;
  reviews = set.empty;
  passed = set.empty;
  delegates = set.empty;
  approved = None;
  trying = false;
  landing = false;
  last = None;
}

-- Opened again, a change keeps all but its author, its head, its reviews and the statuses of its head. It wasn't open, so it isn't
-- tried.
abbrev pub opened : List ℕ → List ℕ → Option Change → Change
opened author head None = just_opened author head
opened author head (Some change) = record change { author = author; head = head; phase = phase.Opened; reviews = set.empty; passed = set.empty; trying = false }

-- Another head ends the reviews, the statuses of the head, the approval and the try; the same head does nothing.
abbrev pub moved_to : List ℕ → Change → Change
moved_to head change = record change { head = head; reviews = set.empty; passed = set.empty; approved = None; trying = false }

abbrev pub pushed : List ℕ → Change → Change
pushed head change = if bytes_eq change.head head then change else moved_to head change

abbrev pub closed : Change → Change
closed change = record change { phase = phase.Closed; passed = set.empty; approved = None; trying = false }

-- the approval ends if the settings, if there are any, are against it
abbrev pub unless_against : (SettingsView → Change → Bool) → Option SettingsView → Change → Change
unless_against against None change = change
unless_against against (Some settings) change = if against settings change then without_approval change else change

abbrev pub with_label : List ℕ → Change → Change
with_label label change = record change { labels = set.insert change.labels label }

abbrev pub labeled : Option SettingsView → List ℕ → Change → Change
labeled settings label change = unless_against (λ s c. is_blocked s c.labels) settings (with_label label change)

abbrev pub without_label : List ℕ → Change → Change
without_label label change = record change { labels = set.remove change.labels label }

abbrev pub with_review : List ℕ → Bool → Change → Change
with_review person approves change = record change { reviews = if approves then set.insert change.reviews person else set.remove change.reviews person }

abbrev pub reviewed : Option SettingsView → List ℕ → Bool → Change → Change
reviewed settings person approves change = unless_against (λ s c. has_too_few_reviews s c.reviews) settings (with_review person approves change)

-- ON THE DESK
-- the desk with one change altered, if it is there
abbrev pub with_altered : DeskView → ℕ → Option Change → DeskView
with_altered desk number None = desk
with_altered desk number (Some change) = with_change desk number change

abbrev pub altered : DeskView → ℕ → (Change → Change) → DeskView
altered desk number alter = with_altered desk number (option_map alter (finite.get desk.changes number))

-- NEW SETTINGS end the approvals of changes with a blocking label or too few reviews.
abbrev pub loses_approval : SettingsView → Change → Bool
loses_approval settings change = is_some change.approved && (is_blocked settings change.labels || has_too_few_reviews settings change.reviews)

abbrev pub settled : SettingsView → Change → Change
settled settings change = ended_if (loses_approval settings) change

abbrev pub with_settled : DeskView → SettingsView → DeskView
with_settled desk settings = with_ended (loses_approval settings) desk

-- the numbers of these changes, upwards
abbrev pub losing_on : DeskView → SettingsView → List ℕ
losing_on desk settings = numbers_where (loses_approval settings) desk

-- Settings that equal the present ones do nothing.
abbrev pub are_present : DeskView → SettingsView → Bool
are_present desk settings = option_map_or (λ present. same_settings present settings) desk.settings false

-- A DEED ON A CHANGE, on the desk and if no rule denies it
-- `ping` does nothing. An unknown line never acts, and a `retry` acts as what it repeats.
abbrev pub command_effect : DeskView → List ℕ → ℕ → Command → DeskView
command_effect desk person change Approve = altered desk change (approved_by (person ∷ []) repeat.Approve)
command_effect desk person change (ApproveFor names) = altered desk change (approved_by names (repeat.ApproveFor names))
command_effect desk person change Withdraw = altered desk change without_approval
command_effect desk person change Try = altered desk change with_try
command_effect desk person change TryCancel = altered desk change without_try
command_effect desk person change (Priority priority) = altered desk change (with_priority priority)
command_effect desk person change DelegateAuthor = altered desk change with_author_as_delegate
command_effect desk person change (DelegateTo names) = altered desk change (with_delegates names)
command_effect desk person change DelegateNone = altered desk change without_delegates
command_effect desk person change Ping = desk
command_effect desk person change Retry = desk

abbrev pub effect : DeskView → ℕ → Deed → DeskView
effect desk change (Said person (Known command)) = command_effect desk person change command
effect desk change (Said person Unknown) = desk
effect desk change (Happened (Opened author head)) = with_change desk change (opened author head (finite.get desk.changes change))
effect desk change (Happened (Pushed head)) = altered desk change (pushed head)
effect desk change (Happened Closed) = altered desk change closed
effect desk change (Happened (Labeled label)) = altered desk change (labeled desk.settings label)
effect desk change (Happened (Unlabeled label)) = altered desk change (without_label label)
effect desk change (Happened (Review person head approves)) = altered desk change (reviewed desk.settings person approves)

-- Its notices: one if the change was approved and no longer is, or was tried and no longer is; `r-` and `try-` give none.
abbrev pub notice_if : Bool → ℕ → Why → List Order
notice_if ends number why = if ends then Notice number why ∷ [] else []

abbrev pub ends_approval : (Change → Change) → Change → Bool
ends_approval alter change = is_some change.approved && not (is_some (alter change).approved)

abbrev pub ends_try : (Change → Change) → Change → Bool
ends_try alter change = change.trying && not (alter change).trying

abbrev pub ends_either : (Change → Change) → Change → Bool
ends_either alter change = ends_approval alter change || ends_try alter change

abbrev pub notice_of : DeskView → ℕ → Why → (Change → Bool) → List Order
notice_of desk number why ends = notice_if (option_map_or ends (finite.get desk.changes number) false) number why

abbrev pub notices : DeskView → ℕ → Deed → List Order
notices desk change (Happened (Pushed head)) = notice_of desk change why.Pushed (ends_either (pushed head))
notices desk change (Happened Closed) = notice_of desk change why.Closed (ends_either closed)
notices desk change (Happened (Labeled label)) = notice_of desk change why.Labeled (ends_approval (labeled desk.settings label))
notices desk change (Happened (Review person head approves)) = notice_of desk change why.Reviews (ends_approval (reviewed desk.settings person approves))
notices desk change deed = []

-- THE QUEUE FOLLOWS what a deed does to its change: it sees whether the change was approved and is, and its priority; and whether
-- it was tried and is.
abbrev pub size_on : DeskView → Option ℕ
size_on desk = option_and_then (λ (settings : SettingsView). settings.max_batch_size) desk.settings

abbrev pub all_but : ℕ → ℕ → Bool
all_but change other = not (other == change)

-- What became approved is queued, and what no longer is is taken out; what goes on is queued anew if its priority has moved.
abbrev pub followed : Bool → Bool → Bool → Option ℕ → ℤ → ℕ → Queue → Queue
followed false false moved size priority change queue = queue
followed false true moved size priority change queue = enqueued size priority change queue
followed true false moved size priority change queue = taken_out Staging (all_but change) queue
followed true true false size priority change queue = queue
followed true true true size priority change queue = enqueued size priority change (taken_out Staging (all_but change) queue)

-- What is tried from now on has a batch of its own on the other branch, and what no longer is is taken out.
abbrev pub tried_by : Bool → Bool → ℕ → Queue → Queue
tried_by false false change queue = queue
tried_by false true change queue = tried change queue
tried_by true false change queue = taken_out Trying (all_but change) queue
tried_by true true change queue = queue

abbrev pub approval_followed : DeskView → DeskView → ℕ → Queue → Queue
approval_followed old new change queue =
    followed (approved_on old change) (approved_on new change) (not (int_eq (priority_on old change) (priority_on new change))) (size_on new) (priority_on new change) change queue

abbrev pub followed_on : DeskView → DeskView → ℕ → Queue → Queue
followed_on old new change queue = tried_by (trying_on old change) (trying_on new change) change (approval_followed old new change queue)

-- WHAT AN ACT COMES TO: the state after it, and its orders
abbrev pub quiet : State → Outcome
quiet s = record { state = s; orders = [] }

-- one after the other
abbrev pub then_next : Outcome → (State → Outcome) → Outcome
then_next first next = record { state = (next first.state).state; orders = first.orders ++ (next first.state).orders }

abbrev pub with_desk : State → DeskView → State
with_desk s desk = record { desk = desk; queue = s.queue }

abbrev pub with_queue : State → Queue → State
with_queue s queue = record { desk = s.desk; queue = queue }

-- A DEED ON A CHANGE: the queue follows the desk.
abbrev pub about : State → ℕ → Deed → Outcome
about s change deed = record {
  state = record { desk = effect s.desk change deed; queue = followed_on s.desk (effect s.desk change deed) change s.queue };
  orders = notices s.desk change deed;
}

-- NEW SETTINGS take the place of the present ones, and end the approvals that they are against. The queue loses what isn't
-- approved any longer, and then the running batches wait again.
abbrev pub resettled : DeskView → Queue → Queue
resettled desk queue = restarted Trying (restarted Staging (taken_out Staging (approved_on desk) queue))

abbrev pub settings_notices : List ℕ → List Order
settings_notices numbers = map (λ number. Notice number why.Settings) numbers

abbrev pub with_new_settings : DeskView → SettingsView → DeskView
with_new_settings desk settings = with_settings (with_settled desk settings) settings

abbrev pub under : SettingsView → State → Outcome
under settings s = record {
  state = record { desk = with_new_settings s.desk settings; queue = resettled (with_new_settings s.desk settings) s.queue };
  orders = settings_notices (losing_on s.desk settings);
}

abbrev pub accepted : State → Result SettingsView SettingsFault → Outcome
accepted s (Ok settings) = if are_present s.desk settings then quiet s else under settings s
accepted s (Err fault) = quiet s

-- ONE BATCH OF EACH BRANCH may run. What is done to it is said once, for both.
-- one after the other, `Staging` first
abbrev pub on_both : (Branch → State → Outcome) → State → Outcome
on_both does s = then_next (does Staging s) (does Trying)

-- the change of a batch that has no other
abbrev pub lone : Option Batch → Option ℕ
lone None = None
lone (Some batch) = if lanes.has_several batch then None else slice_get batch.changes 0

abbrev pub lone_altered : (Change → Change) → DeskView → Option ℕ → DeskView
lone_altered alter desk None = desk
lone_altered alter desk (Some change) = altered desk change alter

abbrev pub lone_notices : Why → Option ℕ → List Order
lone_notices why None = []
lone_notices why (Some change) = Notice change why ∷ []

abbrev pub lone_on : Branch → State → Option ℕ
lone_on branch s = lone (lane_of branch s.queue).running

-- A BATCH ENDS. On `Staging` one of one change is dropped, and a larger one is split; a try is dropped in any case. The change of a
-- batch that has no other is no longer approved then, or tried, and a notice says so.
abbrev pub given_up : Branch → Change → Change
given_up Staging = without_approval
given_up Trying = without_try

abbrev pub without_running : Branch → Queue → Queue
without_running Staging = failed Staging
without_running Trying = dropped Trying

abbrev pub ending : Branch → Why → State → Outcome
ending branch why s = record {
  state = record { desk = lone_altered (given_up branch) s.desk (lone_on branch s); queue = without_running branch s.queue };
  orders = lone_notices why (lone_on branch s);
}

-- A BATCH FAILS. Of a try the notice says no more.
abbrev pub told_as : Branch → Why → Why
told_as Staging cause = cause
told_as Trying cause = why.TryFailed

abbrev pub failing : Branch → Why → State → Outcome
failing branch cause s = ending branch (told_as branch cause) s

-- A STATUS of a commit first goes to the open changes whose head that is, whether or not the settings name it.
abbrev pub is_good : StatusState → Bool
is_good Success = true
is_good Failure = false
is_good Error = false
is_good Pending = false

abbrev pub heads_told : List ℕ → List ℕ → StatusState → State → State
heads_told commit name state s = with_desk s (with_told commit name (is_good state) s.desk)

-- Then it goes to the batches that are tested as this commit: one that isn't required does nothing. One that has failed fails
-- the batch. Another takes the place of the last report of that name; and if all required names now report a success, the batch
-- is to land, or the try has passed. If a batch of each branch was staged with the commit, that on `Staging` comes first.
abbrev pub has_passed : Option SettingsView → StageOf → Bool
has_passed settings stage.Waiting = false
has_passed settings (stage.Ordered since) = false
has_passed settings (stage.Staged since commit reports) = option_map_or (λ (s : SettingsView). list_all (has_succeeded reports) s.status) settings false
has_passed settings (stage.Landing commit) = false

-- A batch that is to land: its changes are marked, and the host is ordered to land the commit that was tested.
abbrev pub with_landing : Bool → Change → Change
with_landing landing change = record change { landing = landing }

abbrev pub all_altered : (Change → Change) → DeskView → List ℕ → DeskView
all_altered alter desk changes = fold (λ d change. altered d change alter) desk changes

abbrev pub land_order : DeskView → ℕ → StageOf → List Order
land_order desk number stage.Waiting = []
land_order desk number (stage.Ordered since) = []
land_order desk number (stage.Staged since commit reports) = option_map_or (λ base. Land number base commit ∷ []) desk.base []
land_order desk number (stage.Landing commit) = []

abbrev pub to_land : Batch → State → Outcome
to_land batch s = record {
  state = record { desk = all_altered (with_landing true) s.desk batch.changes; queue = landing Staging s.queue };
  orders = land_order s.desk batch.number batch.stage;
}

-- A try that has passed ends.
abbrev pub passing : Branch → Batch → State → Outcome
passing Staging batch s = to_land batch s
passing Trying batch s = ending Trying why.TryPassed s

abbrev pub if_passed : Branch → State → Option Batch → Outcome
if_passed branch s None = quiet s
if_passed branch s (Some batch) = if has_passed s.desk.settings batch.stage then passing branch batch s else quiet s

abbrev pub goes_on : Branch → List ℕ → Report → State → Outcome
goes_on branch name report s =
    let after = with_queue s (reported branch name report s.queue) in
    if_passed branch after (lane_of branch after.queue).running

abbrev pub told_of : Branch → List ℕ → StatusState → State → Outcome
told_of branch name Success s = goes_on branch name report.Success s
told_of branch name Pending s = goes_on branch name report.Pending s
told_of branch name Failure s = failing branch (why.Failed name) s
told_of branch name Error s = failing branch (why.Failed name) s

abbrev pub told_on : List ℕ → List ℕ → StatusState → Branch → State → Outcome
told_on commit name state branch s = if has_staged commit (lane_of branch s.queue) then told_of branch name state s else quiet s

abbrev pub told : List ℕ → List ℕ → StatusState → State → Outcome
told commit name state s = if is_required s.desk.settings name then on_both (told_on commit name state) s else quiet s

-- THE RUNNING BATCH GOES BACK: the base is new, or the host refuses to land it. If it was landing, its changes no longer are;
-- they have landed if the new base is the commit that was to land. Those of its changes that are approved then wait again, which
-- is all of them if it wasn't landing. What has landed isn't tried any longer; all other tries go on.
abbrev pub landed : Change → Change
landed change = record change { phase = phase.Landed; passed = set.empty; approved = None; landing = false; trying = false }

abbrev pub released : Option (List ℕ) → List ℕ → Change → Change
released None commit change = with_landing false change
released (Some base) commit change = if bytes_eq base commit then landed change else with_landing false change

abbrev pub released_at : Option (List ℕ) → DeskView → List ℕ → StageOf → DeskView
released_at base desk changes stage.Waiting = desk
released_at base desk changes (stage.Ordered since) = desk
released_at base desk changes (stage.Staged since commit reports) = desk
released_at base desk changes (stage.Landing commit) = all_altered (released base commit) desk changes

abbrev pub released_on : Option (List ℕ) → DeskView → Option Batch → DeskView
released_on base desk None = desk
released_on base desk (Some batch) = released_at base desk batch.changes batch.stage

abbrev pub sent_back : Option (List ℕ) → State → State
sent_back base s =
    let desk = released_on base s.desk s.queue.staging.running in
    record { desk = desk; queue = requeued Staging (approved_on desk) s.queue }

abbrev pub is_landing_with : List ℕ → StageOf → Bool
is_landing_with commit stage.Waiting = false
is_landing_with commit (stage.Ordered since) = false
is_landing_with commit (stage.Staged since other reports) = false
is_landing_with commit (stage.Landing other) = bytes_eq commit other

abbrev pub lands_with : List ℕ → Lane → Bool
lands_with commit lane = has_running (λ batch. is_landing_with commit batch.stage) lane

abbrev pub tries_left : Bool → DeskView → Queue → Queue
tries_left true desk queue = taken_out Trying (trying_on desk) queue
tries_left false desk queue = queue

abbrev pub rebased : List ℕ → State → State
rebased base s =
    let back = sent_back (Some base) s in
    record { desk = with_base back.desk base; queue = tries_left (lands_with base s.queue.staging) back.desk back.queue }

-- A TICK sets the clock. On each branch, the running batch fails if it has taken too long. Then, on each branch, the first
-- waiting batch is ordered, if none runs.
abbrev pub is_overdue : Option SettingsView → ℕ → StageOf → Bool
is_overdue settings now stage.Waiting = false
is_overdue settings now (stage.Ordered since) = option_map_or (λ (s : SettingsView). nat_le s.timeout_sec (now - since)) settings false
is_overdue settings now (stage.Staged since commit reports) = option_map_or (λ (s : SettingsView). nat_le s.timeout_sec (now - since)) settings false
is_overdue settings now (stage.Landing commit) = false

abbrev pub has_overdue : ℕ → Option SettingsView → Lane → Bool
has_overdue now settings lane = has_running (λ batch. is_overdue settings now batch.stage) lane

abbrev pub timed_out : ℕ → Branch → State → Outcome
timed_out now branch s = if has_overdue now s.desk.settings (lane_of branch s.queue) then failing branch why.TimedOut s else quiet s

abbrev pub head_on : DeskView → ℕ → Option Head
head_on desk change = option_map (λ (c : Change). record { change = change; head = c.head }) (finite.get desk.changes change)

abbrev pub stage_order : DeskView → Batch → List Order
stage_order desk batch = option_map_or (λ base. Stage batch.number batch.branch base (filter_map (head_on desk) batch.changes) ∷ []) desk.base []

abbrev pub first_order : DeskView → Option Batch → List Batch → List Order
first_order desk None (batch ∷ waiting) = stage_order desk batch
first_order desk None [] = []
first_order desk (Some batch) waiting = []

abbrev pub stage_orders : DeskView → Lane → List Order
stage_orders desk lane = first_order desk lane.running lane.waiting

abbrev pub starting : ℕ → Branch → State → Outcome
starting now branch s = record {
  state = with_queue s (started branch now s.queue);
  orders = stage_orders s.desk (lane_of branch s.queue);
}

-- News of a batch goes to the branch on which it was ordered.
abbrev pub ordered_on : ℕ → Queue → Branch
ordered_on number queue = if has_ordered number queue.staging then Staging else Trying

-- ANY ACT that no rule denies
abbrev pub fact_done : State → Fact → Outcome
fact_done s (Role person role) = quiet (with_desk s (with_role s.desk person role))
fact_done s (Settings text) = accepted s (settings_of text)
fact_done s (Base commit) = quiet (rebased commit s)
fact_done s (Staged batch commit) = quiet (with_queue s (staged (ordered_on batch s.queue) s.desk.clock commit s.queue))
fact_done s (Conflict batch) = failing (ordered_on batch s.queue) why.Conflict s
fact_done s (Status commit name state) = told commit name state (heads_told commit name state s)
fact_done s (Refused batch) = quiet (sent_back None s)
fact_done s (Tick now) = then_next (on_both (timed_out now) (with_desk s (with_clock s.desk now))) (on_both (starting now))

abbrev pub done : State → Act → Outcome
done s (On change deed) = about s change deed
done s (Other fact) = fact_done s fact

-- WHAT TAKES NO MEMORY: an act that adds nothing to a list, a set or a map, and gives no order
abbrev pub CommandTakesNoMemory : Command → Type 0
CommandTakesNoMemory Ping = ⊤
CommandTakesNoMemory Withdraw = ⊤
CommandTakesNoMemory (Priority priority) = ⊤
CommandTakesNoMemory DelegateNone = ⊤
CommandTakesNoMemory Approve = ⊥
CommandTakesNoMemory (ApproveFor names) = ⊥
CommandTakesNoMemory DelegateAuthor = ⊥
CommandTakesNoMemory (DelegateTo names) = ⊥
CommandTakesNoMemory Try = ⊥
CommandTakesNoMemory TryCancel = ⊤
CommandTakesNoMemory Retry = ⊥

-- on the desk
abbrev pub DeedTakesNoMemory : DeskView → ℕ → Deed → Type 0
DeedTakesNoMemory desk change (Said person (Known command)) = CommandTakesNoMemory command
DeedTakesNoMemory desk change (Said person Unknown) = ⊤
DeedTakesNoMemory desk change (Happened (Opened author head)) = ⊥
DeedTakesNoMemory desk change (Happened (Pushed head)) = is_head (look desk) change head ≡ true
DeedTakesNoMemory desk change (Happened Closed) = notices desk change (Happened Closed) ≡ []
DeedTakesNoMemory desk change (Happened (Labeled label)) = ⊥
DeedTakesNoMemory desk change (Happened (Unlabeled label)) = ⊤
DeedTakesNoMemory desk change (Happened (Review person head approves)) = ⊥

abbrev pub FactTakesNoMemory : DeskView → Fact → Type 0
FactTakesNoMemory desk (Role person role) = role ≡ Nobody
FactTakesNoMemory desk (Settings text) = ⊥
FactTakesNoMemory desk (Base commit) = ⊤
FactTakesNoMemory desk (Staged batch commit) = ⊤
FactTakesNoMemory desk (Conflict batch) = ⊥
FactTakesNoMemory desk (Status commit name state) = (is_required desk.settings name ≡ false) × (is_open_head commit desk ≡ false)
FactTakesNoMemory desk (Refused batch) = ⊤
FactTakesNoMemory desk (Tick now) = ⊤

abbrev pub DeskTakesNoMemory : DeskView → Act → Type 0
DeskTakesNoMemory desk (On change deed) = DeedTakesNoMemory desk change deed
DeskTakesNoMemory desk (Other fact) = FactTakesNoMemory desk fact

-- The queue needn't follow.
abbrev pub needs_no_move : Bool → Bool → Bool → Bool
needs_no_move false false moved = true
needs_no_move false true moved = false
needs_no_move true false moved = false
needs_no_move true true moved = not moved

abbrev pub is_unmoved_on : DeskView → DeskView → ℕ → Bool
is_unmoved_on old new change =
    needs_no_move (approved_on old change) (approved_on new change) (not (int_eq (priority_on old change) (priority_on new change)))
    && beq (trying_on old change) (trying_on new change)

-- in the queue: a batch that runs may wait again, and one that waits may be ordered by a tick
abbrev pub IsIdle : ℕ → DeskView → Lane → Type 0
IsIdle now desk lane = (has_overdue now desk.settings lane ≡ false) × (stage_orders desk lane ≡ [])

abbrev pub QueueTakesNoMemory : State → Act → Type 0
QueueTakesNoMemory s (On change deed) = is_unmoved_on s.desk (effect s.desk change deed) change ≡ true
QueueTakesNoMemory s (Other (Base commit)) = is_none s.queue.staging.running ≡ true
QueueTakesNoMemory s (Other (Refused batch)) = is_none s.queue.staging.running ≡ true
QueueTakesNoMemory s (Other (Tick now)) = IsIdle now s.desk s.queue.staging × IsIdle now s.desk s.queue.trying
QueueTakesNoMemory s (Other fact) = ⊤

-- A STEP: an act that a rule denies is answered the first that does, and changes nothing. Any other does what it means.
abbrev pub acted : State → Act → Outcome
acted s act = done s (meaning (look s.desk) act)

abbrev pub answered : Option Rule → List Order → Reply
answered None orders = Done orders
answered (Some rule) orders = Denied rule

abbrev pub reply_to : State → Act → Reply
reply_to s act = answered (denial s act) (acted s act).orders

abbrev pub unless_denied : Option Rule → State → State → State
unless_denied None before done = done
unless_denied (Some rule) before done = before

abbrev pub after : State → Act → State
after s act = unless_denied (denial s act) s (acted s act).state

abbrev pub Step : State → Act → Reply → State → Type 0
Step s act reply t = (reply ≡ reply_to s act) × (t ≡ after s act)
