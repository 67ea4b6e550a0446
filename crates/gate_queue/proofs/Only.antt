-- What each deed on a change leaves of the desk: all other changes, and what is final in one that is landing.
use Rattle.std.proofs.Common.{◌≡◌, ℕ, Bool, true, false, List, [], ◌∷◌, Option, Some, None, is_some, refl, arith}
use Rattle.std.specs.FinMap as finite
use Rattle.gate_queue.specs.Vocabulary.{SettingsView, Command, Approve, ApproveFor, Withdraw, Priority, Try, TryCancel, DelegateAuthor, DelegateTo, DelegateNone, SpokenOf, Known, first_failing, DeskView, without_approval, look, Change, Rule, On, Opened, Said, Happened}
use Rattle.gate_rules.specs.Rules.{unless_landing, is_landing as is_landing_on}
use Rattle.gate_rules.specs.declared.change.Repeat.TheVariants as repeat
use Rattle.gate_queue.specs.Machine.{broken, effect, altered, approved_by, with_try, without_try, with_priority, with_delegates, with_author_as_delegate, without_delegates, pushed, unless_against}
use Rattle.gate_queue.proofs.Changes.{altered_here, altered_elsewhere, opened_here, opened_elsewhere}
use Rattle.gate_queue.proofs.Keeping.{OnlyAt}

-- DEEDS ON A CHANGE leave all others, and leave final what is landing.
abbrev Final : (Change → Change) → Change → Type 0
Final alter change = change.landing ≡ true → (is_some (alter change).approved ≡ true → is_some change.approved ≡ true) × ((alter change).priority ≡ change.priority)

altered_only : (desk : DeskView) (n : ℕ) (alter : Change → Change) → ((change : Change) → (alter change).landing ≡ change.landing)
    → ((change : Change) → finite.get desk.changes n ≡ Some change → Final alter change) → OnlyAt n desk (altered desk n alter)
altered_only desk n alter lands_as final = record {
  settings = grind arith;
  clock = grind arith;
  others = altered_elsewhere desk n alter;
  landing = grind (arith, altered_here desk n alter, lands_as);
  final = λ so. grind (arith, altered_here desk n alter, final);
}

-- one that approves nothing, and leaves the priority
pub fewer_only : (desk : DeskView) (n : ℕ) (alter : Change → Change) → ((change : Change) → (alter change).landing ≡ change.landing)
    → ((change : Change) → is_some (alter change).approved ≡ true → is_some change.approved ≡ true) → ((change : Change) → (alter change).priority ≡ change.priority)
    → OnlyAt n desk (altered desk n alter)
fewer_only desk n alter lands_as fewer same = altered_only desk n alter lands_as (λ change here so. (fewer change, same change))

-- one that is denied if the change is landing
free_only : (desk : DeskView) (n : ℕ) (alter : Change → Change) → ((change : Change) → (alter change).landing ≡ change.landing) → is_landing_on (look desk) n ≡ false
    → OnlyAt n desk (altered desk n alter)
free_only desk n alter lands_as free =
    altered_only desk n alter lands_as (λ change here so. grind arith)

same_only : (desk : DeskView) (n : ℕ) → OnlyAt n desk desk
same_only desk n = grind arith

pub opened_only : (desk : DeskView) (n : ℕ) (author head : List ℕ) → OnlyAt n desk (effect desk n (Happened (Opened author head)))
opened_only desk n author head = record {
  settings = refl;
  clock = refl;
  others = opened_elsewhere desk n author head;
  landing = grind (arith, opened_here desk n author head);
  final = λ so. grind (arith, opened_here desk n author head);
}

-- the rule that a change isn't landing
free_by : (desk : DeskView) (person : List ℕ) (n : ℕ) (command : Command) (others : List (Option Rule)) → first_failing (unless_landing (look desk) person n command others) ≡ None
    → is_landing_on (look desk) n ≡ false
free_by desk person n command others holds = grind arith

pub line_only : (desk : DeskView) (n : ℕ) (person : List ℕ) (spoken : SpokenOf) → broken (look desk) (On n (Said person spoken)) ≡ None → OnlyAt n desk (effect desk n (Said person spoken))
line_only desk n person (Known Approve) holds = free_only desk n (approved_by (person ∷ []) repeat.Approve) (λ change. refl) (free_by desk person n Approve _ holds)
line_only desk n person (Known (ApproveFor names)) holds = free_only desk n (approved_by names (repeat.ApproveFor names)) (λ change. refl) (free_by desk person n (ApproveFor names) _ holds)
line_only desk n person (Known Withdraw) holds = free_only desk n without_approval (λ change. refl) (free_by desk person n Withdraw _ holds)
line_only desk n person (Known (Priority priority)) holds = free_only desk n (with_priority priority) (λ change. refl) (free_by desk person n (Priority priority) _ holds)
line_only desk n person (Known DelegateAuthor) holds = fewer_only desk n with_author_as_delegate (λ change. refl) (λ change some. some) (λ change. refl)
line_only desk n person (Known (DelegateTo names)) holds = fewer_only desk n (with_delegates names) (λ change. refl) (λ change some. some) (λ change. refl)
line_only desk n person (Known DelegateNone) holds = fewer_only desk n without_delegates (λ change. refl) (λ change some. some) (λ change. refl)
line_only desk n person (Known Try) holds = fewer_only desk n with_try (λ change. refl) (λ change some. some) (λ change. refl)
line_only desk n person (Known TryCancel) holds = fewer_only desk n without_try (λ change. refl) (λ change some. some) (λ change. refl)
line_only desk n person spoken holds = same_only desk n

pub pushed_only : (desk : DeskView) (n : ℕ) (head : List ℕ) → OnlyAt n desk (altered desk n (pushed head))
pushed_only desk n head = fewer_only desk n (pushed head) (λ change. grind arith) (λ change some. grind arith) (λ change. grind arith)

-- one that may end the approval by the settings
pub against_only : (desk : DeskView) (n : ℕ) (against : SettingsView → Change → Bool) (first : Change → Change) → ((change : Change) → (first change).landing ≡ change.landing)
    → ((change : Change) → (first change).approved ≡ change.approved) → ((change : Change) → (first change).priority ≡ change.priority)
    → (settings : Option SettingsView) → OnlyAt n desk (altered desk n (λ change. unless_against against settings (first change)))
against_only desk n against first lands_as approved_as priced_as settings =
    fewer_only desk n (λ change. unless_against against settings (first change))
    (λ change. grind (arith, lands_as change)) (λ change some. grind (arith, approved_as change)) (λ change. grind (arith, priced_as change))
