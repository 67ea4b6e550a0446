-- THE WORDS OF THE HISTORY over a whole list of events. The look-backs take one event after the other; these laws say what
-- they come to.
use Rattle.std.specs.Prelude.{◌≡◌, ◌≢◌, ◌↔◌, ℕ, Bool, true, false, not, ◌&&◌, ⊤, List, [], ◌∷◌, ◌++◌, Option, Some, None, is_none, if◌then◌else◌}
use Rattle.std.specs.FinSet as set
use Rattle.std.specs.List.{list_any, All}
use Rattle.std.specs.Option.{unwrap_or, option_and_then, option_map_or}
use Rattle.std.specs.Str.{bytes_eq}
use Rattle.gate_state.specs.declared.reply.Head.{Head}
use Rattle.gate_queue.specs.History.{Event, Mark, put, taken, Delegation, to_author, to_people, to_nobody, last_of, since, said_by, said_on, author_back, head_back, phase_back, moves, status_said, passed_back, label_said, labels_back, review_said, reviews_back, delegation_said, delegates_back, did, gave, settings_back, base_back, IsTested}
use Rattle.gate_queue.specs.Vocabulary.{Deed, Other, is_open_phase, SettingsView, Base, Staged, Status, StatusState, Success, Failure, Error, Stage}
use Rattle.gate_state.specs.declared.batch.Branch.{Branch}
use Rattle.gate_state.specs.declared.batch.Branch.TheVariants.{Staging}

-- SINCE. The list can be cut at an event that started it, and each event that came after has kept it.
abbrev pub AllKept : (Event → List Event → Bool) → List Event → List Event → Type 0
AllKept keep [] before = ⊤
AllKept keep (event ∷ later) before = (keep event (later ++ before) ≡ true) × AllKept keep later before

abbrev pub StartedAndKept : (Event → List Event → Bool) → (Event → List Event → Bool) → List Event → Type 0
StartedAndKept start keep events =
    (later before : List Event) × (event : Event) × (events ≡ later ++ event ∷ before) × (start event before ≡ true) × AllKept keep later (event ∷ before)

abbrev pub LawOfSince : Type 0
LawOfSince = (start keep : Event → List Event → Bool) (events : List Event) → (since start keep events ≡ true) ↔ StartedAndKept start keep events

-- THE LAST. Some event says it, and none after that one says anything; or none says anything.
abbrev pub AllSilent : {X : Type 0} → (Event → List Event → Option X) → List Event → List Event → Type 0
AllSilent said [] before = ⊤
AllSilent said (event ∷ later) before = (said event (later ++ before) ≡ None) × AllSilent said later before

abbrev pub SaidLast : {X : Type 0} → (Event → List Event → Option X) → List Event → X → Type 0
SaidLast said events x =
    (later before : List Event) × (event : Event) × (events ≡ later ++ event ∷ before) × (said event before ≡ Some x) × AllSilent said later (event ∷ before)

abbrev pub LawOfTheLast : Type 0 → Type 0
LawOfTheLast X = (said : Event → List Event → Option X) (events : List Event) →
    ((x : X) → (last_of said events ≡ Some x) ↔ SaidLast said events x) × ((last_of said events ≡ None) ↔ AllSilent said events [])

-- SETS. A label is on a change by the last act that put it on or took it off.
abbrev pub mark_of : List ℕ → Mark → Option Bool
mark_of text (put other) = if bytes_eq text other then Some true else None
mark_of text (taken other) = if bytes_eq text other then Some false else None

abbrev pub marks : ℕ → (Deed → Option Mark) → List ℕ → Event → List Event → Option Bool
marks change mark_said text event before = option_and_then (mark_of text) (said_on change mark_said event before)

abbrev pub is_labeled : List Event → ℕ → List ℕ → Bool
is_labeled events change label = unwrap_or (last_of (marks change label_said label) events) false

-- A person is among the reviews of a change since the person approved of it, until another review or a head move.
abbrev pub has_reviewed : List Event → ℕ → List ℕ → Bool
has_reviewed events change person = since
    (λ event before. not (moves change event before) && unwrap_or (marks change review_said person event before) false)
    (λ event before. not (moves change event before) && is_none (marks change review_said person event before))
    events

-- A status has succeeded on the head of an open change since a success of its name was reported of that head, until another report
-- of the name there, or a head move.
abbrev pub head_marks : ℕ → List ℕ → Event → List Event → Option Bool
head_marks change name event before = option_and_then (mark_of name) (said_by (status_said (head_back before change)) event before)

abbrev pub has_succeeded_there : List Event → ℕ → List ℕ → Bool
has_succeeded_there events change name = is_open_phase (phase_back events change) && since
    (λ event before. not (moves change event before) && unwrap_or (head_marks change name event before) false)
    (λ event before. not (moves change event before) && is_none (head_marks change name event before))
    events

-- A person is a delegate of a change since a delegation, until all are taken back.
abbrev pub names_person : List ℕ → Option (List ℕ) → Delegation → Bool
names_person person author to_author = option_map_or (λ name. bytes_eq person name) author false
names_person person author (to_people names) = list_any (bytes_eq person) names
names_person person author to_nobody = false

abbrev pub takes_back : Delegation → Bool
takes_back to_author = false
takes_back (to_people names) = false
takes_back to_nobody = true

abbrev pub is_delegated : List Event → ℕ → List ℕ → Bool
is_delegated events change person = since
    (λ event before. option_map_or (names_person person (author_back before change)) (said_on change delegation_said event before) false)
    (λ event before. not (option_map_or takes_back (said_on change delegation_said event before) false))
    events

abbrev pub LawOfSets : Type 0
LawOfSets = (events : List Event) (change : ℕ) (name : List ℕ) →
    (set.contains (labels_back events change) name ≡ is_labeled events change name)
    × (set.contains (reviews_back events change) name ≡ has_reviewed events change name)
    × (set.contains (passed_back events change) name ≡ has_succeeded_there events change name)
    × (set.contains (delegates_back events change) name ≡ is_delegated events change name)

-- TESTED. Not one of the events is this one.
abbrev pub Lacks : List Event → Event → Type 0
Lacks [] event = ⊤
Lacks (other ∷ events) event = (other ≢ event) × Lacks events event

-- Of a status of a commit, these events report a success, and nothing after it; and no event of them reports it as bad.
pub record Succeeded (events : List Event) (commit name : List ℕ) : Type 0 where
  pub later : List Event
  pub before : List Event
  pub success : events ≡ later ++ did (Other (Status commit name Success)) ∷ before
  pub last : (state : StatusState) → Lacks later (did (Other (Status commit name state)))
  pub no_failure : Lacks events (did (Other (Status commit name Failure)))
  pub no_error : Lacks events (did (Other (Status commit name Error)))

pub record WasTested (events : List Event) (number : ℕ) (base commit : List ℕ) : Type 0 where
  -- The batch was ordered on staging, on this base.
  pub later : List Event
  pub before : List Event
  pub heads : List Head
  pub ordered : events ≡ later ++ gave (Stage number Staging base heads) ∷ before
  -- Since then no base was set, and it is the base of now.
  pub no_base : (other : List ℕ) → Lacks later (did (Other (Base other)))
  pub present : base_back events ≡ Some base
  -- At each moment from the order on, the settings were those of now.
  pub settings : SettingsView
  pub accepted : settings_back events ≡ Some settings
  pub same : (newer older : List Event) → later ≡ newer ++ older → settings_back (older ++ gave (Stage number Staging base heads) ∷ before) ≡ Some settings
  -- Since the order it was staged with this commit, and then neither staged nor ordered anew.
  pub after : List Event
  pub between : List Event
  pub staged : later ≡ after ++ did (Other (Staged number commit)) ∷ between
  pub not_staged_anew : (other : List ℕ) → Lacks after (did (Other (Staged number other)))
  pub not_ordered_anew : (branch : Branch) (other : List ℕ) (others : List Head) → Lacks after (gave (Stage number branch other others))
  -- After it was staged, each required status succeeded.
  pub succeeded : All (Succeeded after commit) settings.status

abbrev pub LawOfTests : Type 0
LawOfTests = (events : List Event) (number : ℕ) (base commit : List ℕ) → IsTested events number base commit → WasTested events number base commit
