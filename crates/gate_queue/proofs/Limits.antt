-- What a desk keeps, every act keeps.
use Rattle.std.proofs.Common.{◌≡◌, ℕ, Bool, true, List, [], ◌∷◌, Option, Some, None, IfSome, is_some, sym, subst, arith}
use Rattle.std.proofs.lemmas.Bool.Decides.{nat_tests}
use Rattle.std.specs.Cmp.{nat_cmp_total}
use Rattle.std.specs.FinMap as finite
use Rattle.std.specs.FinMap.{get-empty}
use Rattle.std.specs.List.{IsDistinct}
use Rattle.std.specs.Ordering.{nat_cmp}
use Rattle.std.specs.Str.{bytes_eq}
use Rattle.gate_text.specs.Finite.{get-mapped}
use Rattle.gate_queue.specs.Vocabulary.{SettingsView, Command, Ping, Approve, ApproveFor, Withdraw, Priority, Try, TryCancel, DelegateAuthor, DelegateTo, DelegateNone, Retry, Known, Unknown, Look, first_failing, is_open_phase, DeskView, with_told, empty_desk, with_role, with_base, with_clock, without_approval, look, Change, RoleOf, On, Opened, Pushed, Closed, Labeled, Unlabeled, Review, Deed, Said, Happened}
use Rattle.gate_rules.specs.Rules.{begins_with_rules, approval_rules}
use Rattle.gate_rules.specs.View.{told_at}
use Rattle.gate_rules.specs.declared.change.Repeat.TheVariants as repeat
use Rattle.gate_state.specs.State.{IsMoment, IsChange, IsDesk}
use Rattle.gate_state.specs.Acts.{DeedKeepsLimits}
use Rattle.gate_queue.specs.Machine.{broken, effect, altered, lone_altered, all_altered, with_landing, released, with_new_settings, approved_by, with_try, without_try, with_priority, with_delegates, with_author_as_delegate, without_delegates, pushed, closed, labeled, without_label, reviewed, settled}
use Rattle.gate_queue.proofs.Changes.{altered_look, opened_at}

-- one name
one_name : (name : List ℕ) → IsDistinct bytes_eq (name ∷ [])
unfolding IsDistinct
one_name name = (tt, tt)

-- ONE CHANGE, under these settings and on this base
module _ (settings : Option SettingsView) (base : Option (List ℕ)) where
  abbrev Is : Change → Type 0
  Is = IsChange settings base

  pub ended_keeps : (change : Change) → Is change → Is (without_approval change)
  ended_keeps change is = grind arith

  pub untried_keeps : (change : Change) → Is change → Is (without_try change)
  untried_keeps change is = grind arith

  -- a change that is to land, under settings and on a base; and one that no longer is, or has landed
  pub marked_keeps : (is_some settings ≡ true) × (is_some base ≡ true) → (change : Change) → Is change → Is (with_landing true change)
  marked_keeps both change is = grind arith

  pub released_keeps : (on : Option (List ℕ)) (commit : List ℕ) (change : Change) → Is change → Is (released on commit change)
  released_keeps on commit change is = grind arith

-- ALL CHANGES of a desk
pub altered_keeps : (desk : DeskView) (n : ℕ) (alter : Change → Change) → IsDesk (look desk)
    → ((change : Change) → finite.get desk.changes n ≡ Some change → IsChange desk.settings desk.base change → IsChange desk.settings desk.base (alter change)) → IsDesk (look (altered desk n alter))
altered_keeps desk n alter is so = subst IsDesk (sym (altered_look desk n alter)) (record { changes = λ c. grind (arith, nat_tests, is.changes c, so); clock = is.clock })

-- the one of a batch that has no other
pub lone_keeps : (alter : Change → Change) (desk : DeskView) (one : Option ℕ) → ((change : Change) → IsChange desk.settings desk.base change → IsChange desk.settings desk.base (alter change))
    → IsDesk (look desk) → IsDesk (look (lone_altered alter desk one))
lone_keeps alter desk None keeps is = is
lone_keeps alter desk (Some n) keeps is = altered_keeps desk n alter is (λ change here was. keeps change was)

-- many of them
pub all_keep : (alter : Change → Change) (changes : List ℕ) (desk : DeskView)
    → ((change : Change) → IsChange desk.settings desk.base change → IsChange desk.settings desk.base (alter change))
    → IsDesk (look desk) → IsDesk (look (all_altered alter desk changes))
all_keep alter [] desk so is = is
all_keep alter (n ∷ changes) desk so is =
    all_keep alter changes (altered desk n alter)
    (subst (λ (l : Look). (change : Change) → IsChange l.settings l.base change → IsChange l.settings l.base (alter change)) (sym (altered_look desk n alter)) so)
    (altered_keeps desk n alter is (λ change here was. so change was))

opening_keeps : (desk : DeskView) (n : ℕ) (author head : List ℕ) → IsDesk (look desk) → IsDesk (look (effect desk n (Happened (Opened author head))))
opening_keeps desk n author head is = record { changes = λ c. grind (arith, opened_at desk n author head c, is.changes c); clock = is.clock }

pub settings_keep : (desk : DeskView) (settings : SettingsView) → IsDesk (look desk) → IsDesk (look (with_new_settings desk settings))
settings_keep desk settings is = record { changes = λ c. grind (arith, get-mapped nat_cmp (settled settings) nat_cmp_total desk.changes c, is.changes c); clock = is.clock }

pub told_keeps : (desk : DeskView) (head name : List ℕ) (success : Bool) → IsDesk (look desk) → IsDesk (look (with_told head name success desk))
told_keeps desk head name success is = record { changes = λ c. grind (arith, get-mapped nat_cmp (told_at head name success) nat_cmp_total desk.changes c, is.changes c); clock = is.clock }

pub base_keeps : (desk : DeskView) (base : List ℕ) → IsDesk (look desk) → IsDesk (look (with_base desk base))
base_keeps desk base is = record { changes = λ c. grind (arith, is.changes c); clock = is.clock }

pub clock_keeps : (desk : DeskView) (now : ℕ) → IsMoment now → IsDesk (look desk) → IsDesk (look (with_clock desk now))
clock_keeps desk now limit is = record { changes = is.changes; clock = limit }

pub role_keeps : (desk : DeskView) (person : List ℕ) (role : RoleOf) → IsDesk (look desk) → IsDesk (look (with_role desk person role))
role_keeps desk person role is = record { changes = is.changes; clock = is.clock }

-- an approval that no rule denies is of an open change, under settings and on a base
approvable : (desk : DeskView) (person : List ℕ) (n : ℕ) (command : Command)
    → first_failing (begins_with_rules (look desk) person n command (approval_rules (look desk) n)) ≡ None
    → (change : Change) → finite.get desk.changes n ≡ Some change
    → (is_open_phase change.phase ≡ true) × ((is_some desk.settings ≡ true) × (is_some desk.base ≡ true))
approvable desk person n command holds change here = grind arith

-- and so is a try
tryable : (desk : DeskView) (person : List ℕ) (n : ℕ) → broken (look desk) (On n (Said person (Known Try))) ≡ None → (change : Change) → finite.get desk.changes n ≡ Some change
    → (is_open_phase change.phase ≡ true) × (is_some desk.settings ≡ true) × (is_some desk.base ≡ true)
tryable desk person n holds change here = grind arith

-- ONE ACT
command_keeps : (desk : DeskView) (person : List ℕ) (n : ℕ) (command : Command) → DeedKeepsLimits (Said person (Known command)) → IsDesk (look desk)
    → broken (look desk) (On n (Said person (Known command))) ≡ None → IsDesk (look (effect desk n (Said person (Known command))))
command_keeps desk person n Approve limits is holds = altered_keeps desk n (approved_by (person ∷ []) repeat.Approve) is (λ change here was.
    let may = approvable desk person n Approve holds change here in
    record { priority = was.priority; opened = λ some. may.0; ready = λ some. may.1; approvers = (omega arith, one_name person); tried = was.tried; last = tt })
command_keeps desk person n (ApproveFor names) limits is holds = altered_keeps desk n (approved_by names (repeat.ApproveFor names)) is (λ change here was.
    let may = approvable desk person n (ApproveFor names) holds change here in
    record { priority = was.priority; opened = λ some. may.0; ready = λ some. may.1; approvers = limits; tried = was.tried; last = limits })
command_keeps desk person n Withdraw limits is holds = altered_keeps desk n without_approval is (λ change here was. grind arith)
command_keeps desk person n (Priority priority) limits is holds = altered_keeps desk n (with_priority priority) is (λ change here was. grind (arith, limits))
command_keeps desk person n DelegateAuthor limits is holds = altered_keeps desk n with_author_as_delegate is (λ change here was. grind arith)
command_keeps desk person n (DelegateTo names) limits is holds = altered_keeps desk n (with_delegates names) is (λ change here was. grind arith)
command_keeps desk person n DelegateNone limits is holds = altered_keeps desk n without_delegates is (λ change here was. grind arith)
command_keeps desk person n Try limits is holds = altered_keeps desk n with_try is (λ change here was. grind (arith, tryable desk person n holds change here))
command_keeps desk person n TryCancel limits is holds = altered_keeps desk n without_try is (λ change here was. grind arith)
command_keeps desk person n Ping limits is holds = is
command_keeps desk person n Retry limits is holds = is

pub effect_keeps : (desk : DeskView) (n : ℕ) (deed : Deed) → DeedKeepsLimits deed → IsDesk (look desk) → broken (look desk) (On n deed) ≡ None → IsDesk (look (effect desk n deed))
effect_keeps desk n (Said person (Known command)) limits is holds = command_keeps desk person n command limits is holds
effect_keeps desk n (Said person Unknown) limits is holds = is
effect_keeps desk n (Happened (Opened author head)) limits is holds = opening_keeps desk n author head is
effect_keeps desk n (Happened (Pushed head)) limits is holds = altered_keeps desk n (pushed head) is (λ change here was. grind arith)
effect_keeps desk n (Happened Closed) limits is holds = altered_keeps desk n closed is (λ change here was. grind arith)
effect_keeps desk n (Happened (Labeled label)) limits is holds = altered_keeps desk n (labeled desk.settings label) is (λ change here was. grind arith)
effect_keeps desk n (Happened (Unlabeled label)) limits is holds = altered_keeps desk n (without_label label) is (λ change here was. grind arith)
effect_keeps desk n (Happened (Review person head approves)) limits is holds = altered_keeps desk n (reviewed desk.settings person approves) is (λ change here was. grind arith)

pub empty_is_desk : IsDesk (look empty_desk)
empty_is_desk = record { changes = λ c. subst (λ (o : Option Change). IfSome o (IsChange None None)) (sym (get-empty nat_cmp c)) tt; clock = omega arith }
