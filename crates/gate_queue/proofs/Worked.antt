-- Worked acts: what the definitions come to on a short history. Each is computed.
use Rattle.std.proofs.Common.{◌≡◌, ℕ, pos, true, false, List, [], ◌∷◌, Some, None, Ok, refl}
use Rattle.std.specs.FinSet as set
use Rattle.gate_queue.specs.Vocabulary.{SettingsView, settings_of, Approve, Withdraw, Priority, Retry, Known, Unknown, Texts, has_too_few_reviews, Nobody, UnknownChange, NotOpen, AlreadyOpen, ClockBack, NoSuchBatch, SameAsBase, On, Other, Opened, Pushed, Closed, Said, Happened, Role, Settings, Base, Staged, Conflict, Status, Refused, Tick, Success, Failure, Pending, Stage, Land, Notice, Done, Staging}
use Rattle.gate_rules.specs.Rules.{need, permits}
use Rattle.gate_rules.specs.declared.change.Phase.TheVariants as phase
use Rattle.gate_rules.specs.declared.change.Repeat.TheVariants as repeat
use Rattle.gate_rules.specs.declared.role.Level.TheVariants as level
use Rattle.gate_rules.specs.declared.role.Role.TheVariants.{Reviewer}
use Rattle.gate_rules.specs.declared.rule.Rule.TheVariants.{NotACommand, NoSettings, NotApproved}
use Rattle.gate_state.specs.Acts.{on}
use Rattle.gate_state.specs.declared.reply.Why.TheVariants as why
use Rattle.gate_queue.specs.History.{Event, did, gave, role_back, author_back, head_back, moves, landing_back, landed_back, passed_back, phase_back, priority_back, standing_back, is_ordered_on, has_passed, is_unmoved, look_back}
use Rattle.gate_state.specs.Lanes.{fresh}
use Rattle.gate_queue.specs.Machine.{empty_state, broken, denial, followed, reply_to, pushed, ends_approval, just_opened, approved_by}
use Rattle.gate_state.specs.Queue.{empty_queue}
use Rattle.gate_queue.proofs.Sets.{passed_law}

abbrev alice : List ℕ
alice = 97 ∷ 108 ∷ []

abbrev eve : List ℕ
eve = 101 ∷ []

abbrev carol : List ℕ
carol = 99 ∷ []

abbrev a : List ℕ
a = 10 ∷ []

abbrev b : List ℕ
b = 11 ∷ []

-- Alice is a reviewer, and carol has opened change 1.
abbrev opened_one : List Event
opened_one = did (On 1 (Happened (Opened carol a))) ∷ did (Other (Role alice Reviewer)) ∷ []

roles : (role_back opened_one alice ≡ Reviewer) × (role_back opened_one eve ≡ Nobody)
roles = (refl, refl)

authors : (author_back opened_one 1 ≡ Some carol) × (author_back opened_one 2 ≡ None)
authors = (refl, refl)

-- a push of the same head is no head move, and one of another change neither
head_moves : (moves 1 (did (On 1 (Happened (Pushed b)))) opened_one ≡ true) × (moves 1 (did (On 1 (Happened (Pushed a)))) opened_one ≡ false) × (moves 1 (did (On 2 (Happened (Pushed b)))) opened_one ≡ false)
head_moves = (refl, refl, refl)

heads : head_back (did (On 2 (Happened (Pushed b))) ∷ did (On 1 (Happened (Pushed b))) ∷ opened_one) 1 ≡ b
heads = refl

closed_then_opened : (phase_back (did (On 1 (Happened Closed)) ∷ opened_one) 1 ≡ phase.Closed) × (phase_back (did (On 1 (Happened (Opened carol a))) ∷ did (On 1 (Happened Closed)) ∷ opened_one) 1 ≡ phase.Opened)
closed_then_opened = (refl, refl)

priorities : priority_back (did (On 1 (Said alice (Known (Priority (pos 5))))) ∷ opened_one) 1 ≡ pos 5
priorities = refl

-- what denies a command, and what is asked for first
denials : (broken (look_back opened_one) (On 2 (Said alice Unknown)) ≡ Some UnknownChange)
    × (broken (look_back opened_one) (On 1 (Said alice Unknown)) ≡ Some NotACommand)
    × (broken (look_back opened_one) (On 1 (Said alice (Known Approve))) ≡ Some NoSettings)
    × (broken (look_back opened_one) (On 1 (Said alice (Known Withdraw))) ≡ Some NotApproved)
denials = (refl, refl, refl, refl)

-- what a command needs, and who has it
levels : (need (look_back opened_one) 1 Approve ≡ level.ReviewerOrDelegate) × (permits (look_back opened_one) alice 1 Approve ≡ true) × (need (look_back opened_one) 1 Retry ≡ level.Member)
levels = (refl, refl, refl)

-- what denies a fact
facts : (broken (look_back opened_one) (On 1 (Happened (Opened carol a))) ≡ Some AlreadyOpen)
    × (broken (look_back (did (On 1 (Happened Closed)) ∷ opened_one)) (On 1 (Happened Closed)) ≡ Some NotOpen)
    × (broken (look_back (did (Other (Base a)) ∷ opened_one)) (Other (Base a)) ≡ Some SameAsBase)
    × (broken (look_back (did (Other (Base a)) ∷ opened_one)) (Other (Base b)) ≡ None)
facts = (refl, refl, refl, refl)

-- an approval without settings isn't one: the change isn't fit
unfit : standing_back (did (On 1 (Said alice (Known Approve))) ∷ opened_one) 1 ≡ false
unfit = refl

-- another head ends an approval, and the same one doesn't
pushes : (ends_approval (pushed b) (approved_by (alice ∷ []) repeat.Approve (just_opened carol a)) ≡ true)
    × (ends_approval (pushed a) (approved_by (alice ∷ []) repeat.Approve (just_opened carol a)) ≡ false)
pushes = (refl, refl)

first_reply : reply_to (empty_state 1) (Other (Role alice Reviewer)) ≡ Done []
first_reply = refl

deeds_on : (on 1 (On 1 (Happened Closed)) ≡ Some (Happened Closed)) × (on 2 (On 1 (Happened Closed)) ≡ None) × (on 1 (Other (Base a)) ≡ None)
deeds_on = (refl, refl, refl)

-- an act on a batch that wasn't ordered, and a clock that goes back
batches : (denial (empty_state 1) (Other (Staged 1 a)) ≡ Some NoSuchBatch)
    × (denial (empty_state 1) (Other (Conflict 1)) ≡ Some NoSuchBatch)
    × (broken (look_back (did (Other (Tick 5)) ∷ opened_one)) (Other (Tick 4)) ≡ Some ClockBack)
    × (broken (look_back (did (Other (Tick 5)) ∷ opened_one)) (Other (Tick 5)) ≡ None)
batches = (refl, refl, refl, refl)

-- what the queue does by the marks of a change: its first approval, and its last
queues : (followed false true false None (pos 0) 1 (empty_queue 7) ≡ record (empty_queue 8) { staging = record { running = None; waiting = fresh 7 (pos 0) 1 ∷ [] } })
    × (followed true false false None (pos 0) 1 (followed false true false None (pos 0) 1 (empty_queue 7)) ≡ empty_queue 8)
queues = (refl, refl)

-- Under settings that block nothing and ask for no review, an approval makes the change stand, until the notice of a conflict.
module _ (text : List ℕ) (settings : SettingsView) (read : settings_of text ≡ Ok settings) (free : settings.block_labels ≡ []) (enough : (reviews : Texts) → has_too_few_reviews settings reviews ≡ false) where
  abbrev approved_one : List Event
  approved_one = did (On 1 (Said alice (Known Approve))) ∷ did (Other (Settings text)) ∷ opened_one

  stands : standing_back approved_one 1 ≡ true
  stands = rw (read, free, enough set.empty) refl

  ended : standing_back (gave (Notice 1 why.Conflict) ∷ approved_one) 1 ≡ false
  ended = refl

  elsewhere : standing_back (gave (Notice 2 why.Conflict) ∷ approved_one) 1 ≡ true
  elsewhere = rw (read, free, enough set.empty) refl

abbrev ci : List ℕ
ci = 99 ∷ 105 ∷ []

-- A status has succeeded on the head of a change until another report of its name, a head move or a closing. One on another commit
-- says nothing.
abbrev succeeded : List Event
succeeded = did (Other (Status a ci Success)) ∷ opened_one

abbrev has_passed_after : List Event → Type 0
has_passed_after events = set.contains (passed_back events 1) ci ≡ true

abbrev has_not_after : List Event → Type 0
has_not_after events = set.contains (passed_back events 1) ci ≡ false

on_the_head : has_passed_after succeeded × has_not_after (did (Other (Status b ci Success)) ∷ opened_one) × has_not_after (did (Other (Status a ci Failure)) ∷ succeeded) × has_not_after (did (Other (Status a ci Pending)) ∷ succeeded)
on_the_head = (
  passed_law succeeded 1 ci,
  passed_law (did (Other (Status b ci Success)) ∷ opened_one) 1 ci,
  passed_law (did (Other (Status a ci Failure)) ∷ succeeded) 1 ci,
  passed_law (did (Other (Status a ci Pending)) ∷ succeeded) 1 ci,
)

forgotten : has_passed_after (did (On 1 (Happened (Pushed a))) ∷ succeeded) × has_not_after (did (On 1 (Happened (Pushed a))) ∷ did (On 1 (Happened (Pushed b))) ∷ succeeded) × has_not_after (did (On 1 (Happened Closed)) ∷ succeeded) × has_not_after (did (On 1 (Happened (Opened carol a))) ∷ did (On 1 (Happened Closed)) ∷ succeeded)
forgotten = (
  passed_law (did (On 1 (Happened (Pushed a))) ∷ succeeded) 1 ci,
  passed_law (did (On 1 (Happened (Pushed a))) ∷ did (On 1 (Happened (Pushed b))) ∷ succeeded) 1 ci,
  passed_law (did (On 1 (Happened Closed)) ∷ succeeded) 1 ci,
  passed_law (did (On 1 (Happened (Opened carol a))) ∷ did (On 1 (Happened Closed)) ∷ succeeded) 1 ci,
)

-- Batch 7 has change 1 at its head, is ordered on base a, and is staged as commit b.
abbrev ordered_seven : List Event
ordered_seven = gave (Stage 7 Staging a (record { change = 1; head = a } ∷ [])) ∷ opened_one

abbrev staged_seven : List Event
staged_seven = did (Other (Staged 7 b)) ∷ ordered_seven

-- a status has passed if its last report is a success, none before was bad, and all came since the batch was staged
statuses : (has_passed (did (Other (Status b ci Success)) ∷ staged_seven) 7 b ci ≡ true)
    × (has_passed (did (Other (Status b ci Success)) ∷ did (Other (Status b ci Pending)) ∷ staged_seven) 7 b ci ≡ true)
    × (has_passed (did (Other (Status b ci Pending)) ∷ did (Other (Status b ci Success)) ∷ staged_seven) 7 b ci ≡ false)
    × (has_passed (did (Other (Status b ci Success)) ∷ did (Other (Status b ci Failure)) ∷ staged_seven) 7 b ci ≡ false)
    × (has_passed (did (Other (Staged 7 b)) ∷ did (Other (Status b ci Success)) ∷ ordered_seven) 7 b ci ≡ false)
    × (has_passed (did (Other (Status a ci Success)) ∷ staged_seven) 7 b ci ≡ false)
statuses = (refl, refl, refl, refl, refl, refl)

-- a base ends that the batch was ordered on the base of before
bases : (is_ordered_on staged_seven 7 a ≡ true) × (is_ordered_on (did (Other (Base b)) ∷ staged_seven) 7 a ≡ false) × (is_ordered_on (did (Other (Base a)) ∷ did (Other (Base b)) ∷ staged_seven) 7 a ≡ false)
bases = (refl, refl, refl)

-- and a push, that its head hasn't moved, also if the head of before comes back
unmoved : (is_unmoved staged_seven 7 (record { change = 1; head = a }) ≡ true)
    × (is_unmoved (did (On 1 (Happened (Pushed a))) ∷ staged_seven) 7 (record { change = 1; head = a }) ≡ true)
    × (is_unmoved (did (On 1 (Happened (Pushed a))) ∷ did (On 1 (Happened (Pushed b))) ∷ staged_seven) 7 (record { change = 1; head = a }) ≡ false)
unmoved = (refl, refl, refl)

-- it lands if the next base is its commit, and the host hasn't refused it before
landings_of_one : (landing_back (gave (Land 7 a b) ∷ staged_seven) 1 ≡ true)
    × (landing_back (gave (Land 7 a b) ∷ staged_seven) 2 ≡ false)
    × (landed_back (did (Other (Base b)) ∷ gave (Land 7 a b) ∷ staged_seven) 1 ≡ true)
    × (landing_back (did (Other (Base b)) ∷ gave (Land 7 a b) ∷ staged_seven) 1 ≡ false)
    × (landed_back (did (Other (Base b)) ∷ did (Other (Base a)) ∷ gave (Land 7 a b) ∷ staged_seven) 1 ≡ false)
    × (landed_back (did (Other (Base b)) ∷ did (Other (Refused 7)) ∷ gave (Land 7 a b) ∷ staged_seven) 1 ≡ false)
    × (phase_back (did (On 1 (Happened Closed)) ∷ did (Other (Base b)) ∷ gave (Land 7 a b) ∷ staged_seven) 1 ≡ phase.Landed)
landings_of_one = (refl, refl, refl, refl, refl, refl, refl)
