-- What the queue does by each deed on a change, on every state: it follows the approval, and then the try.
use Rattle.std.proofs.Common.{◌≡◌, ℕ, ℤ, eqb, Bool, true, false, not, ◌&&◌, if◌then◌else◌, List, [], ◌∷◌, Option, None, is_some, refl, ◌∙◌, ap, arith}
use Rattle.std.proofs.lemmas.Bool.{not-true}
use Rattle.std.proofs.lemmas.Bool.Decides.{nat_tests}
use Rattle.std.proofs.lemmas.List.Elements.{All-head, All-tail}
use Rattle.std.proofs.lemmas.List.Sums.{sum_by-cons}
use Rattle.std.specs.Cmp.{signed_Decides}
use Rattle.std.specs.FinMap as finite
use Rattle.std.specs.List.{All, filter, list_all}
use Rattle.std.specs.Option.{option_map_or, option_and_then}
use Rattle.std.specs.Ordering.{int_eq}
use Rattle.gate_queue.specs.Vocabulary.{SettingsView, Command, Ping, Approve, ApproveFor, Withdraw, Priority, Try, TryCancel, DelegateAuthor, DelegateTo, DelegateNone, Known, Look, first_failing, is_blocked, has_too_few_reviews, is_known, is_open, DeskView, without_approval, look, Change, AlreadyOpen, Act, On, Opened, Pushed, Closed, Labeled, Unlabeled, Review, Said, Happened, Batch, Branch, Staging, Trying, Lane, Queue, State}
use Rattle.gate_rules.specs.Rules.{begins_with_rules, approval_rules, try_rules}
use Rattle.gate_rules.specs.declared.change.Repeat.TheVariants as repeat
use Rattle.gate_state.specs.Counts.{occurs, inside, in_landing, held, held_by, of_any_priority}
use Rattle.gate_queue.specs.Following.{with, without, without_any, is_ended, Leaves, ActByAct, LawOfTheQueue}
use Rattle.gate_state.specs.Lanes.{left, taken_out, taken_out_uses}
use Rattle.gate_queue.specs.Machine.{broken, denial, is_head, meaning, done, unless_denied, missing, effect, altered, approved_by, with_try, without_try, with_priority, pushed, closed, unless_against, with_label, without_label, with_review, size_on, all_but, tried_by, approval_followed, followed_on, ends_approval, with_delegates, with_author_as_delegate, without_delegates}
use Rattle.gate_state.specs.State.{approved_on, priority_on, trying_on, IsWaiting, Marks, marks_on, IsBranch, IsState}
use Rattle.gate_state.specs.Queue as specs
use Rattle.gate_state.specs.Lemmas.Counts.{held_is}
use Rattle.gate_queue.proofs.Changes.{altered_look, altered_here, opened_here}
use Rattle.gate_queue.proofs.Fitness.{passed}
use Rattle.gate_queue.proofs.Meaning.{retry_means}
use Rattle.gate_queue.proofs.Wording.{none_both}

-- TO TAKE OUT A CHANGE THAT IS IN NO BATCH changes nothing.
all_others : (change : ℕ) (changes : List ℕ) → occurs change changes ≡ 0 → (filter (all_but change) changes ≡ changes) × (list_all (all_but change) changes ≡ true)
all_others change [] none = (refl, refl)
all_others change (first ∷ changes) none = grind (arith, nat_tests, sum_by-cons (λ other. if eqb change other then 1 else 0) first changes, all_others change changes)

none_left : (branch : Branch) (change : ℕ) (waiting : List Batch) → All (IsWaiting branch) waiting → inside of_any_priority change waiting ≡ 0 → left (all_but change) waiting ≡ waiting
none_left branch change [] all none = refl
none_left branch change (first ∷ waiting) all none =
    let was = All-head (IsWaiting branch) first waiting all in
    let rest = none_left branch change waiting (All-tail (IsWaiting branch) first waiting all) in
    grind (arith, sum_by-cons (held_by of_any_priority change) first waiting, all_others change first.changes)

-- The running batch runs on, and no number is used. If the change is in it, it is landing.
none_taken_lane : (branch : Branch) (change number : ℕ) (lane : Lane) → All (IsWaiting branch) lane.waiting → held of_any_priority change lane ≡ in_landing of_any_priority change lane
    → (taken_out (all_but change) number lane ≡ lane) × (taken_out_uses (all_but change) lane ≡ 0)
none_taken_lane branch change number lane all same =
    grind (arith, held_is of_any_priority change lane, λ (batch : Batch). all_others change batch.changes, none_left branch change lane.waiting all)

-- A change that a branch doesn't want is taken out of nothing there: if it is in a batch, that is landing.
none_taken : (branch : Branch) (now : ℕ) (settings : Option SettingsView) (marks : Marks) (change : ℕ) (queue : Queue) → IsBranch branch now settings marks (specs.lane_of branch queue)
    → marks.wanted change ≡ false → specs.taken_out branch (all_but change) queue ≡ queue
none_taken branch now settings marks change queue is wasnt =
    let same = none_taken_lane branch change queue.next (specs.lane_of branch queue) is.waiting (grind (arith, is.places change, is.landing change)) in
    with_same_lane branch queue same.0 same.1 where
      with_same_lane : (branch : Branch) (queue : Queue) {lane : Lane} {used : ℕ} → lane ≡ specs.lane_of branch queue → used ≡ 0 → specs.with_lane branch lane used queue ≡ queue
      with_same_lane branch queue same none = grind arith

-- BY THE MARKS of the change before and after
same_int : (priority : ℤ) → int_eq priority priority ≡ true
same_int priority = (signed_Decides priority priority).1 refl

module _ (s : State) (change : ℕ) (is : IsState s) where
  -- a change that isn't approved, and one that isn't tried, is taken out of nothing
  unapproved : approved_on s.desk change ≡ false → without s change ≡ s.queue
  unapproved wasnt = none_taken Staging s.desk.clock s.desk.settings (marks_on Staging s.desk) change s.queue is.queue.staging wasnt

  abbrev AreTries : Queue → Type 0
  AreTries queue = IsBranch Trying s.desk.clock s.desk.settings (marks_on Trying s.desk) queue.trying

  untried : (queue : Queue) → AreTries queue → trying_on s.desk change ≡ false → specs.taken_out Trying (all_but change) queue ≡ queue
  untried queue tries wasnt = none_taken Trying s.desk.clock s.desk.settings (marks_on Trying s.desk) change queue tries wasnt

  -- an act that alters the change, if it is there
  module _ (alter : Change → Change) where
    abbrev new : DeskView
    new = altered s.desk change alter

    same_size : size_on new ≡ size_on s.desk
    same_size = ap (λ (l : Look). option_and_then (λ (settings : SettingsView). settings.max_batch_size) l.settings) (altered_look s.desk change alter)

    -- an act that leaves the try: the queue follows the approval alone
    by_approval : (queue : Queue) → ((c : Change) → (alter c).trying ≡ c.trying) → approval_followed s.desk new change s.queue ≡ queue → followed_on s.desk new change s.queue ≡ queue
    by_approval queue same so = ap (tried_by (trying_on s.desk change) (trying_on new change) change) so ∙ grind (arith, altered_here s.desk change alter, same)

    -- one that ends every try takes the change out of the tries too
    tries_ended : (queue : Queue) → AreTries queue → ((c : Change) → (alter c).trying ≡ false) → approval_followed s.desk new change s.queue ≡ queue
        → followed_on s.desk new change s.queue ≡ specs.taken_out Trying (all_but change) queue
    tries_ended queue tries none so =
        ap (tried_by (trying_on s.desk change) (trying_on new change) change) so ∙ grind (arith, altered_here s.desk change alter, none, untried queue tries)

    -- an act that keeps the priority: what it ends is taken out, what it approves is queued, and all else stays
    kept_followed : ((c : Change) → (alter c).priority ≡ c.priority) → ((c : Change) → is_some (alter c).approved ≡ true → is_some c.approved ≡ true)
        → approval_followed s.desk new change s.queue ≡ (if option_map_or (ends_approval alter) (finite.get s.desk.changes change) false then without s change else s.queue)
    kept_followed same fewer = grind (arith, altered_here s.desk change alter, same_int, same, fewer)

    -- one that ends every approval takes the change out
    ended_followed : ((c : Change) → (alter c).priority ≡ c.priority) → ((c : Change) → (alter c).approved ≡ None) → approval_followed s.desk new change s.queue ≡ without s change
    ended_followed same none = grind (arith, altered_here s.desk change alter, none, unapproved)

    -- one that approves what wasn't approved queues it
    approved_followed : ((c : Change) → (alter c).priority ≡ c.priority) → ((c : Change) → is_some (alter c).approved ≡ true) → is_known (look s.desk) change ≡ true → approved_on s.desk change ≡ false
        → approval_followed s.desk new change s.queue ≡ with s change
    approved_followed same some known wasnt = grind (arith, altered_here s.desk change alter, same_size, same, some)

  -- ACT BY ACT
  holds_by : (act : Act) → denial s act ≡ None → broken (look s.desk) act ≡ None
  holds_by act holds = (none_both (missing s act) (broken (look s.desk) act) holds).1

  new_by : (person : List ℕ) (command : Command) → first_failing (begins_with_rules (look s.desk) person change command (approval_rules (look s.desk) change)) ≡ None
      → (is_known (look s.desk) change ≡ true) × (approved_on s.desk change ≡ false)
  new_by person command holds = grind arith

  approves_by : (command : Command) (person : List ℕ) (alter : Change → Change) → ((c : Change) → (alter c).priority ≡ c.priority) → ((c : Change) → is_some (alter c).approved ≡ true)
      → ((c : Change) → (alter c).trying ≡ c.trying) → first_failing (begins_with_rules (look s.desk) person change command (approval_rules (look s.desk) change)) ≡ None
      → followed_on s.desk (altered s.desk change alter) change s.queue ≡ with s change
  approves_by command person alter same some tries holds =
      let new = new_by person command holds in
      by_approval alter (with s change) tries (approved_followed alter same some new.0 new.1)

  -- a `try` is of a known change that isn't tried
  untried_by : (person : List ℕ) (command : Command) → first_failing (begins_with_rules (look s.desk) person change command (try_rules (look s.desk) change)) ≡ None
      → (is_known (look s.desk) change ≡ true) × (trying_on s.desk change ≡ false)
  untried_by person command holds = grind arith

  priority_by : (priority : ℤ) → approval_followed s.desk (altered s.desk change (with_priority priority)) change s.queue
      ≡ (if approved_on s.desk change && not (int_eq (priority_on s.desk change) priority) then specs.enqueued (size_on s.desk) priority change (without s change) else s.queue)
  priority_by priority = grind (arith, altered_here s.desk change (with_priority priority), same_size (with_priority priority))

  moved_by : (head : List ℕ) → approval_followed s.desk (altered s.desk change (pushed head)) change s.queue ≡ (if is_head (look s.desk) change head then s.queue else without s change)
  moved_by head = grind (arith, altered_here s.desk change (pushed head), same_int, unapproved)

  pushed_by : (head : List ℕ) → followed_on s.desk (altered s.desk change (pushed head)) change s.queue ≡ (if is_head (look s.desk) change head then s.queue else without_any s change)
  pushed_by head =
      ap (tried_by (trying_on s.desk change) (trying_on (altered s.desk change (pushed head)) change) change) (moved_by head)
      ∙ grind (arith, altered_here s.desk change (pushed head), untried (without s change) is.queue.trying)

  -- a label and a review end the approval or leave it, and leave all else
  ended_by : (against : SettingsView → Change → Bool) (alter : Change → Change) → ((c : Change) → (alter c).priority ≡ c.priority) → ((c : Change) → (alter c).trying ≡ c.trying)
      → ((c : Change) → (alter c).approved ≡ c.approved)
      → followed_on s.desk (altered s.desk change (λ c. unless_against against s.desk.settings (alter c))) change s.queue
      ≡ (if is_ended s change (λ c. unless_against against s.desk.settings (alter c)) then without s change else s.queue)
  ended_by against alter same tries approved =
      by_approval (λ c. unless_against against s.desk.settings (alter c)) _ (λ c. grind (arith, tries c))
      (kept_followed (λ c. unless_against against s.desk.settings (alter c)) (λ c. grind (arith, same c)) (λ c some. grind (arith, approved c)))

  -- one that leaves the approval and the priority leaves the queue, but for the tries
  quiet_by : (alter : Change → Change) → ((c : Change) → (alter c).priority ≡ c.priority) → ((c : Change) → (alter c).approved ≡ c.approved)
      → approval_followed s.desk (altered s.desk change alter) change s.queue ≡ s.queue
  quiet_by alter same approved = grind (arith, altered_here s.desk change alter, same_int, same, approved)

  -- and so does one that does nothing
  kept_quiet : followed_on s.desk s.desk change s.queue ≡ s.queue
  kept_quiet = grind (arith, same_int)

  -- a `try` queues the change on the other branch
  try_by : (person : List ℕ) → first_failing (begins_with_rules (look s.desk) person change Try (try_rules (look s.desk) change)) ≡ None
      → followed_on s.desk (altered s.desk change with_try) change s.queue ≡ specs.tried change s.queue
  try_by person holds =
      let rules = untried_by person Try holds in
      ap (tried_by (trying_on s.desk change) (trying_on (altered s.desk change with_try) change) change) (quiet_by with_try (λ c. refl) (λ c. refl))
      ∙ grind (arith, altered_here s.desk change with_try, rules.0, rules.1)

  -- a change that is opened isn't open, so it is neither approved nor tried
  opened_by : (author head : List ℕ) → is_open (look s.desk) change ≡ false → followed_on s.desk (effect s.desk change (Happened (Opened author head))) change s.queue ≡ s.queue
  opened_by author head shut = grind (arith, opened_here s.desk change author head, is.desk.changes change, same_int)

  -- an act that means itself
  left_by : (act : Act) (queue : Queue) → meaning (look s.desk) act ≡ act → (denial s act ≡ None → (done s act).state.queue ≡ queue) → Leaves s act queue
  left_by act queue same stays holds = (λ i. (unless_denied (holds i) s (done s (same i)).state).queue) ∙ stays holds

  pub act_by_act : ActByAct s change
  act_by_act = record {
    approve = λ person. left_by (On change (Said person (Known Approve))) _ refl
        (λ holds. approves_by Approve person (approved_by (person ∷ []) repeat.Approve) (λ c. refl) (λ c. refl) (λ c. refl) (holds_by (On change (Said person (Known Approve))) holds));
    approve_for = λ person names. left_by (On change (Said person (Known (ApproveFor names)))) _ refl
        (λ holds. approves_by (ApproveFor names) person (approved_by names (repeat.ApproveFor names)) (λ c. refl) (λ c. refl) (λ c. refl) (holds_by (On change (Said person (Known (ApproveFor names)))) holds));
    withdraw = λ person. left_by (On change (Said person (Known Withdraw))) _ refl
        (λ holds. by_approval without_approval (without s change) (λ c. refl) (ended_followed without_approval (λ c. refl) (λ c. refl)));
    priority = λ person priority. left_by (On change (Said person (Known (Priority priority)))) _ refl (λ holds. by_approval (with_priority priority) _ (λ c. refl) (priority_by priority));
    try = λ person. left_by (On change (Said person (Known Try))) _ refl (λ holds. try_by person (holds_by (On change (Said person (Known Try))) holds));
    try_cancel = λ person. left_by (On change (Said person (Known TryCancel))) _ refl
        (λ holds. tries_ended without_try s.queue is.queue.trying (λ c. refl) (quiet_by without_try (λ c. refl) (λ c. refl)));
    pushed = λ head. left_by (On change (Happened (Pushed head))) _ refl (λ holds. pushed_by head);
    closed = left_by (On change (Happened Closed)) _ refl
        (λ holds. tries_ended closed (without s change) is.queue.trying (λ c. refl) (ended_followed closed (λ c. refl) (λ c. refl)));
    labeled = λ label. left_by (On change (Happened (Labeled label))) _ refl
        (λ holds. ended_by (λ settings c. is_blocked settings c.labels) (with_label label) (λ c. refl) (λ c. refl) (λ c. refl));
    reviewed = λ person head approves. left_by (On change (Happened (Review person head approves))) _ refl
        (λ holds. ended_by (λ settings c. has_too_few_reviews settings c.reviews) (with_review person approves) (λ c. refl) (λ c. refl) (λ c. refl));
    retry = λ person holds. retry_means s change person holds;
    ping = λ person. left_by (On change (Said person (Known Ping))) _ refl (λ holds. kept_quiet);
    delegate_author = λ person. left_by (On change (Said person (Known DelegateAuthor))) _ refl (λ holds. by_approval with_author_as_delegate s.queue (λ c. refl) (quiet_by with_author_as_delegate (λ c. refl) (λ c. refl)));
    delegate_to = λ person names. left_by (On change (Said person (Known (DelegateTo names)))) _ refl (λ holds. by_approval (with_delegates names) s.queue (λ c. refl) (quiet_by (with_delegates names) (λ c. refl) (λ c. refl)));
    delegate_none = λ person. left_by (On change (Said person (Known DelegateNone))) _ refl (λ holds. by_approval without_delegates s.queue (λ c. refl) (quiet_by without_delegates (λ c. refl) (λ c. refl)));
    opened = λ author head. left_by (On change (Happened (Opened author head))) _ refl
        (λ holds. opened_by author head (not-true (is_open (look s.desk) change) (passed (not (is_open (look s.desk) change)) AlreadyOpen _ (holds_by (On change (Happened (Opened author head))) holds)).0));
    unlabeled = λ label. left_by (On change (Happened (Unlabeled label))) _ refl (λ holds. by_approval (without_label label) s.queue (λ c. refl) (quiet_by (without_label label) (λ c. refl) (λ c. refl)));
  }

pub queue_law : LawOfTheQueue
queue_law s change is = act_by_act s change is
