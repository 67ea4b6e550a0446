-- What an act leaves as it was, act by act.
use Rattle.std.proofs.Common.{◌≡◌, ◌<◌, ◌≤◌, ℕ, ℤ, Bool, true, false, not, ◌||◌, if◌then◌else◌, List, Option, Some, None, Result, Ok, Err, refl, sym, ◌∙◌, ap, subst, arith}
use Rattle.std.proofs.lemmas.Bool.{or_parts, not-true, and_parts}
use Rattle.std.proofs.lemmas.List.Folds.{list_any-append}
use Rattle.std.proofs.lemmas.Map.Text.{is_eq-slice_cmp}
use Rattle.std.specs.Cmp.{nat_cmp_total}
use Rattle.std.specs.Cmp.Lexicographic.{nat_list_cmp_total}
use Rattle.std.specs.FinMap.{get-insert, get-remove}
use Rattle.std.specs.Option.{option_map_or}
use Rattle.std.specs.Ordering.{int_eq, nat_cmp}
use Rattle.gate_text.specs.Finite.{get-mapped}
use Rattle.gate_queue.specs.Vocabulary.{SettingsView, settings_of, Approve, ApproveFor, Try, Retry, Known, Unknown, SettingsFault, last_command, DeskView, with_role, look, Change, Repeat, RoleOf, Act, On, Other, Opened, Pushed, Closed, Labeled, Unlabeled, Review, Deed, Said, Happened, Role, Settings, Base, Staged, Conflict, Status, Refused, Tick, StatusState, Batch, Staging, Trying, Queue, State, Outcome}
use Rattle.gate_rules.specs.View.{told_at}
use Rattle.gate_rules.specs.declared.change.Repeat.TheVariants as repeat
use Rattle.gate_state.specs.Lanes as lanes
use Rattle.gate_state.specs.Lanes.{is_fresh_beside, is_fresh_of, last_so, loses}
use Rattle.gate_state.specs.Queue.{batches_of, taken_out, restarted}
use Rattle.gate_state.specs.State.{approved_on, priority_on, trying_on, IsState}
use Rattle.gate_queue.specs.Machine.{denial, repeated, done, acted, effect, about, all_but, followed, tried_by, approval_followed, size_on, pushed, closed, labeled, with_label, without_label, reviewed, with_review, settled, with_new_settings, resettled, under, accepted, are_present, quiet, on_either, has_staged, is_good, heads_told, told, ordered_on, sent_back, rebased, tries_left, lands_with, with_desk, unless_denied as denied, told_as}
use Rattle.gate_queue.specs.MayChange.{Parts, no_parts, with_heads, of_status, Untouched, LawOfUntouched, unless_denied, may_do, is_numbered, one_numbered, is_joined, of_change, in_front, of_base, stays_tried, of_settings, of_text, of_person, is_run, is_in_front, next_priority}
use Rattle.gate_state.specs.declared.reply.Why.TheVariants as why
use Rattle.gate_queue.proofs.Changes.{against_same}
use Rattle.gate_queue.proofs.Choosing.{by_bool, by_option, either_way}
use Rattle.gate_queue.proofs.Desks.{released_desk, Effect, same_effect, kept_effect, spoken_effect, opened_effect, pushed_same}
use Rattle.gate_queue.proofs.Lanes.{joined_later, Same, enqueued_same, tried_same, taken_out_same, none_loses, taken_running, restarted_same}
use Rattle.gate_queue.proofs.Meaning.{means}
use Rattle.gate_queue.proofs.News.{same_found, untouched_by, IsNewsOf, news_untouched, ending_news, staged_news, told_news, back_news, tick_untouched}

-- NUMBERS that are given aren't given again.
followed_rises : (was now moved : Bool) (size : Option ℕ) (priority : ℤ) (change : ℕ) (queue : Queue) → queue.next ≤ (followed was now moved size priority change queue).next
followed_rises was now moved size priority change queue = grind arith

tried_rises : (was now : Bool) (change : ℕ) (queue : Queue) → queue.next ≤ (tried_by was now change queue).next
tried_rises was now change queue = grind arith

-- A DEED ON A CHANGE: the queue follows the desk
module _ (s : State) (is : IsState s) (n : ℕ) (old : n < s.queue.next) (change : ℕ) (priority : ℤ) (other : (of_change s priority change).batch n ≡ false) where
  abbrev has_it : List Batch → Bool
  has_it batches = one_numbered (loses (all_but change)) batches n

  parts : (has_it (batches_of s.queue) ≡ false) × (is_joined priority change s.queue.staging.waiting n ≡ false)
  parts = or_parts (has_it (batches_of s.queue)) (is_joined priority change s.queue.staging.waiting n) other

  on_lanes : (has_it (lanes.batches_of s.queue.staging) ≡ false) × (has_it (lanes.batches_of s.queue.trying) ≡ false)
  on_lanes =
      or_parts (has_it (lanes.batches_of s.queue.staging)) (has_it (lanes.batches_of s.queue.trying))
      (sym (list_any-append _ (lanes.batches_of s.queue.staging) (lanes.batches_of s.queue.trying)) ∙ parts.0)

  joined : (is_numbered n (last_so (is_fresh_of priority) s.queue.staging.waiting) ≡ false)
      × (is_numbered n (last_so (is_fresh_beside priority change) s.queue.staging.waiting) ≡ false)
  joined = or_parts (is_numbered n (last_so (is_fresh_of priority) s.queue.staging.waiting)) _ parts.1

  out_same : Same n s.queue.staging (taken_out Staging (all_but change) s.queue).staging
  out_same = taken_out_same n Staging (all_but change) s.queue.next old s.queue.staging is.queue.staging.waiting on_lanes.0

  -- What is queued joins no batch of this number.
  followed_same : (was now moved : Bool) (size : Option ℕ) (at : ℤ) → (now ≡ true → at ≡ priority) → Same n s.queue.staging (followed was now moved size at change s.queue).staging
  followed_same false false moved size at same = refl
  followed_same false true moved size at same =
      enqueued_same n s.queue.next old s.queue.staging size at change (ap (λ p. is_numbered n (last_so (is_fresh_of p) s.queue.staging.waiting)) (same refl) ∙ joined.0)
  followed_same true false moved size at same = out_same
  followed_same true true false size at same = refl
  followed_same true true true size at same =
      let out = taken_out Staging (all_but change) s.queue in
      enqueued_same n out.next (omega (arith, old)) out.staging size at change
      (ap (λ p. is_numbered n (last_so (is_fresh_of p) out.staging.waiting)) (same refl) ∙ joined_later priority (all_but change) n s.queue.next s.queue.staging ∙ joined.1)
      ∙ out_same

  -- the other branch is left until then
  record Follows (queue : Queue) : Type 0 where
    staging : Same n s.queue.staging queue.staging
    trying : queue.trying ≡ s.queue.trying
    next : s.queue.next ≤ queue.next

  followed_so : (was now moved : Bool) (size : Option ℕ) (at : ℤ) → (now ≡ true → at ≡ priority) → Follows (followed was now moved size at change s.queue)
  followed_so was now moved size at same = record {
    staging = followed_same was now moved size at same;
    trying = grind arith;
    next = followed_rises was now moved size at change s.queue;
  }

  tried_by_same : (was now : Bool) (queue : Queue) → Follows queue → Same n s.queue.staging (tried_by was now change queue).staging × Same n s.queue.trying (tried_by was now change queue).trying
  tried_by_same false false queue so = (so.staging, rw so.trying refl)
  tried_by_same false true queue so = (so.staging, rw so.trying (tried_same n queue.next (omega (arith, old, so.next)) s.queue.trying change))
  tried_by_same true false queue so =
      (so.staging, rw so.trying (taken_out_same n Trying (all_but change) queue.next (omega (arith, old, so.next)) s.queue.trying is.queue.trying.waiting on_lanes.1))
  tried_by_same true true queue so = (so.staging, rw so.trying refl)

about_untouched : (s : State) (is : IsState s) (change : ℕ) (deed : Deed) → Effect change (next_priority s.desk change deed) s.desk (effect s.desk change deed)
    → Untouched (of_change s (next_priority s.desk change deed) change) s (about s change deed).state
about_untouched s is change deed done =
    let priority = next_priority s.desk change deed in
    let new = effect s.desk change deed in
    let was = approved_on s.desk change in
    let now = approved_on new change in
    let moved = not (int_eq (priority_on s.desk change) (priority_on new change)) in
    untouched_by (of_change s priority change) s (about s change deed).state done.others
    (λ n old other.
    tried_by_same s is n old change priority other (trying_on s.desk change) (trying_on new change) (approval_followed s.desk new change s.queue)
    (followed_so s is n old change priority other was now moved (size_on new) (priority_on new change) done.priced))
    (omega (arith, followed_rises was now moved (size_on new) (priority_on new change) change s.queue, tried_rises (trying_on s.desk change) (trying_on new change) change (approval_followed s.desk new change s.queue)))

-- ROLES
role_untouched : (s : State) (person : List ℕ) (role : RoleOf) → Untouched (of_person person) s (with_desk s (with_role s.desk person role))
role_untouched s person role =
    grind (arith, λ (name : List ℕ). get-insert nat_list_cmp_total s.desk.roles person role name, λ (name : List ℕ). get-remove nat_list_cmp_total s.desk.roles person name, is_eq-slice_cmp)

-- SETTINGS
same_untouched : (may : Parts) (s : State) → Untouched may s s
same_untouched may s = search arith

under_untouched : (s : State) → IsState s → (settings : SettingsView) → Untouched (of_settings s settings) s (under settings s).state
under_untouched s is settings = record {
  people = λ name other. refl;
  changes = λ number other. get-mapped nat_cmp (settled settings) nat_cmp_total s.desk.changes number ∙ grind (arith, other);
  batches = λ n old other.
      same_found n s.queue (resettled new s.queue)
      (restarted_same n out.next (omega (arith, old)) out.staging (taken_running n Staging (approved_on new) s.queue.next s.queue.staging (grind arith))
      ∙ taken_out_same n Staging (approved_on new) s.queue.next old s.queue.staging is.queue.staging.waiting (grind arith))
      (restarted_same n again.next (omega (arith, old)) s.queue.trying (grind arith));
  settings = λ other. cc other;
  next = omega arith;
} where
  new : DeskView
  new = with_new_settings s.desk settings

  out : Queue
  out = taken_out Staging (approved_on new) s.queue

  again : Queue
  again = restarted Staging out

settings_untouched : (s : State) → IsState s → (read : Result SettingsView SettingsFault) → Untouched (of_text s read) s (accepted s read).state
settings_untouched s is (Err fault) = same_untouched no_parts s
settings_untouched s is (Ok settings) =
    by_bool (λ present. Untouched (if present then no_parts else of_settings s settings) s (if present then quiet s else under settings s).state)
    (same_untouched no_parts s) (under_untouched s is settings) (are_present s.desk settings)

-- A STATUS
unstaged : (commit name : List ℕ) (state : StatusState) (s : State) → on_either (has_staged commit) s.queue ≡ false → told commit name state s ≡ quiet s
unstaged commit name state s none = grind arith

module _ (s : State) (commit name : List ℕ) (state : StatusState) where
  abbrev heads : State
  heads = heads_told commit name state s

  after_heads : (may : Parts) (t : State) → Untouched may heads t → Untouched (with_heads s commit may) s t
  after_heads may t same = grind (arith, λ (number : ℕ). get-mapped nat_cmp (told_at commit name (is_good state)) nat_cmp_total s.desk.changes number)

  status_untouched : Untouched (of_status s commit) s (told commit name state heads).state
  status_untouched =
      either_way (λ may. Untouched (with_heads s commit may) s (told commit name state heads).state) (on_either (has_staged commit) s.queue) (in_front s) no_parts
      (λ staged. after_heads (in_front s) _ (news_untouched heads _ (told_news commit name state heads)))
      (λ none. after_heads no_parts _ (subst (λ (o : Outcome). Untouched no_parts heads o.state) (sym (unstaged commit name state heads none)) (same_untouched no_parts heads)))

-- A BASE
base_untouched : (s : State) → IsState s → (base : List ℕ) → Untouched (of_base s) s (rebased base s)
base_untouched s is base = record {
  people = first.people;
  changes = first.changes;
  batches = λ n old other.
      let parts = or_parts (is_in_front s.queue.staging n || is_in_front s.queue.trying n) (one_numbered (loses (stays_tried s)) (lanes.batches_of s.queue.trying) n) other in
      let front = or_parts (is_in_front s.queue.staging n) (is_in_front s.queue.trying n) parts.0 in
      let both = tries n old (lands_with base s.queue.staging) parts.1 in
      same_found n s.queue (rebased base s).queue (both.0 ∙ news.staging.same n old front.0) both.1;
  settings = first.settings;
  next = omega (arith, news.next, rises (lands_with base s.queue.staging));
} where
  back : State
  back = sent_back (Some base) s

  news : IsNewsOf s back
  news = back_news s (Some base)

  first : Untouched (in_front s) s back
  first = news_untouched s back news

  rises : (lands : Bool) → back.queue.next ≤ (tries_left lands back.desk back.queue).next
  rises lands = grind arith

  -- a try that was and that the running batch hasn't is one still
  still : (change : ℕ) → stays_tried s change ≡ true → trying_on back.desk change ≡ true
  still change stays =
      let parts = and_parts (trying_on s.desk change) (not (is_run change s.queue.staging)) stays in
      let left = released_desk (λ c. is_run c s.queue.staging) s.queue.staging (λ c other. other) (Some base) s.desk in
      ap (λ (o : Option Change). option_map_or (λ (c : Change). c.trying) o false) (left.changes change (not-true (is_run change s.queue.staging) parts.1)) ∙ parts.0

  tries : (n : ℕ) → n < s.queue.next → (lands : Bool) → one_numbered (loses (stays_tried s)) (lanes.batches_of s.queue.trying) n ≡ false
      → Same n back.queue.staging (tries_left lands back.desk back.queue).staging × Same n s.queue.trying (tries_left lands back.desk back.queue).trying
  tries n old false other = (refl, refl)
  tries n old true other =
      (refl, taken_out_same n Trying (trying_on back.desk) back.queue.next (omega (arith, old, news.next)) s.queue.trying is.queue.trying.waiting (none_loses n (stays_tried s) (trying_on back.desk) still (lanes.batches_of s.queue.trying) other))

-- EACH ACT
deed_effect : (desk : DeskView) (change : ℕ) (deed : Deed) → Effect change (next_priority desk change deed) desk (effect desk change deed)
deed_effect desk change (Said person (Known command)) = spoken_effect desk change person command
deed_effect desk change (Said person Unknown) = same_effect change desk
deed_effect desk change (Happened (Opened author head)) = opened_effect change desk author head
deed_effect desk change (Happened (Pushed head)) = kept_effect change desk (pushed head) (pushed_same head)
deed_effect desk change (Happened Closed) = kept_effect change desk closed (λ c. refl)
deed_effect desk change (Happened (Labeled label)) = kept_effect change desk (labeled desk.settings label) (λ c. against_same (λ x. x.priority) (λ x. refl) _ desk.settings (with_label label c))
deed_effect desk change (Happened (Unlabeled label)) = kept_effect change desk (without_label label) (λ c. refl)
deed_effect desk change (Happened (Review person head approves)) =
    kept_effect change desk (reviewed desk.settings person approves) (λ c. against_same (λ x. x.priority) (λ x. refl) _ desk.settings (with_review person approves c))

done_untouched : (s : State) → IsState s → (act : Act) → Untouched (may_do s act) s (done s act).state
done_untouched s is (On change deed) = about_untouched s is change deed (deed_effect s.desk change deed)
done_untouched s is (Other (Role person role)) = role_untouched s person role
done_untouched s is (Other (Settings text)) = settings_untouched s is (settings_of text)
done_untouched s is (Other (Base commit)) = base_untouched s is commit
done_untouched s is (Other (Staged batch commit)) = news_untouched s _ (staged_news s (ordered_on batch s.queue) s.desk.clock commit)
done_untouched s is (Other (Conflict batch)) = news_untouched s _ (ending_news s (ordered_on batch s.queue) (told_as (ordered_on batch s.queue) why.Conflict))
done_untouched s is (Other (Status commit name state)) = status_untouched s commit name state
done_untouched s is (Other (Refused batch)) = news_untouched s _ (back_news s None)
done_untouched s is (Other (Tick now)) = tick_untouched now s

-- A `retry` may change what the command that it repeats may.
acted_untouched : (s : State) → IsState s → (act : Act) → Untouched (may_do s act) s (acted s act).state
acted_untouched s is act = means (λ a. Untouched (may_do s act) s (done s a).state) (look s.desk) act (done_untouched s is act) repeats where
  by : (change : ℕ) (person : List ℕ) (last : Option Repeat) → Untouched (may_do s (On change (Said person (Known Retry)))) s (done s (On change (Said person (Known (repeated last))))).state
  by change person None = done_untouched s is (On change (Said person (Known Retry)))
  by change person (Some repeat.Approve) = done_untouched s is (On change (Said person (Known Approve)))
  by change person (Some (repeat.ApproveFor names)) = done_untouched s is (On change (Said person (Known (ApproveFor names))))
  by change person (Some repeat.Try) = done_untouched s is (On change (Said person (Known Try)))

  repeats : (change : ℕ) (person : List ℕ) → act ≡ On change (Said person (Known Retry))
      → Untouched (may_do s act) s (done s (On change (Said person (Known (repeated (last_command (look s.desk) change)))))).state
  repeats change person at = rw at (by change person (last_command (look s.desk) change))

pub untouched_law : LawOfUntouched
untouched_law s act is =
    by_option (λ rule. Untouched (unless_denied rule (may_do s act)) s (denied rule s (acted s act).state)) (acted_untouched s is act) (λ rule. same_untouched no_parts s) (denial s act)
