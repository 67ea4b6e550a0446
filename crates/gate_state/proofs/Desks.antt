-- What the tests of a desk and its changes decide.
use Rattle.std.proofs.Common.{◌≡◌, ◌≤◌, ◌≤ℤ◌, ℕ, ℤ, pos, neg_ℤ, eqb, Bool, true, not, ◌&&◌, ◌||◌, List, length, Option, Some, None, is_some, IfSome, refl, arith}
use Rattle.std.proofs.lemmas.Bool.Decides.{Decides-and, Decides-like, nat_tests}
use Rattle.std.proofs.lemmas.Int.{ints}
use Rattle.std.specs.Bool.{Decides}
use Rattle.std.specs.Prelude.{nat_le, int_lt}
use Rattle.std.specs.Str.{bytes_eq}
use Rattle.gate_text.specs.Limits.{IsPriority, AreNames}
use Rattle.gate_text.specs.Settings.{SettingsView}
use Rattle.gate_rules.specs.Rules.{is_open_phase}
use Rattle.gate_rules.specs.View.{DeskView, look}
use Rattle.gate_rules.specs.declared.change.Change.{Change}
use Rattle.gate_rules.specs.declared.change.Repeat.{Repeat}
use Rattle.gate_rules.specs.declared.change.Repeat.TheVariants.{Approve, ApproveFor, Try}
use Rattle.gate_state.specs.Checks.{fits_priority, fit_names, fits_approval, fits_repeat, fits_try, fits_change, fits_desk, is_ready}
use Rattle.gate_state.specs.State.{IsChange, IsDesk, RepeatKeepsLimits}
use Rattle.gate_state.proofs.Deciding.{Decides-distinct, Decides-itself}
use Rattle.gate_text.specs.Values.{Decides-values}

pub Decides-le : (a b : ℕ) → Decides (nat_le a b) (a ≤ b)
Decides-le a b = (λ is. grind (arith, nat_tests), λ is. grind (arith, nat_tests))

-- A CHANGE
Decides-names : (names : List (List ℕ)) → Decides (fit_names names) (AreNames names)
Decides-names names = Decides-and (not (eqb (length names) 0)) _ (λ is. grind (arith, nat_tests), λ is. grind (arith, nat_tests)) (Decides-distinct bytes_eq names)

Decides-repeat : (last : Option Repeat) → Decides (fits_repeat last) (RepeatKeepsLimits last)
Decides-repeat None = (λ _. tt, λ _. refl)
Decides-repeat (Some Approve) = (λ _. tt, λ _. refl)
Decides-repeat (Some (ApproveFor names)) = Decides-names names
Decides-repeat (Some Try) = (λ _. tt, λ _. refl)

not_under : (a b : ℤ) → Decides (not (int_lt a b)) (b ≤ℤ a)
not_under a b = (λ is. grind (arith, ints), λ is. grind (arith, ints))

Decides-priority : (priority : ℤ) → Decides (fits_priority priority) (IsPriority priority)
Decides-priority priority = Decides-and _ _ (not_under priority (neg_ℤ (pos 9999))) (not_under (pos 9999) priority)

module _ (settings : Option SettingsView) (base : Option (List ℕ)) (change : Change) where
  abbrev ready : Bool
  ready = is_some settings && is_some base

  abbrev is_open : Bool
  is_open = is_open_phase change.phase

  record Approval (approved : Option (List (List ℕ))) : Type 0 where
    opened : is_some approved ≡ true → is_open ≡ true
    prepared : (is_some approved || change.landing) ≡ true → (is_some settings ≡ true) × (is_some base ≡ true)
    approvers : IfSome approved AreNames

  Decides-approval : (approved : Option (List (List ℕ))) → Decides (fits_approval ready change approved) (Approval approved)
  Decides-approval None = (λ is. record { opened = λ some. cc some; prepared = λ lands. grind arith; approvers = tt }, λ is. grind (arith, is.prepared))
  Decides-approval (Some names) =
      Decides-like _ (λ is. record { opened = λ _. is.0.0; prepared = λ _. is.0.1; approvers = is.1 }) (λ is. ((is.opened refl, is.prepared refl), is.approvers))
      (Decides-and _ _ (Decides-and _ _ (Decides-itself is_open) (Decides-and _ _ (Decides-itself (is_some settings)) (Decides-itself (is_some base)))) (Decides-names names))

  Decides-try : Decides (fits_try ready change) (change.trying ≡ true → (is_open ≡ true) × (is_some settings ≡ true) × (is_some base ≡ true))
  Decides-try = (λ is trying. grind arith, λ is. grind arith)

  Decides-change : Decides (fits_change ready change) (IsChange settings base change)
  Decides-change =
      Decides-like _
      (λ is. record { priority = is.0.0.0; opened = is.0.0.1.opened; ready = is.0.0.1.prepared; approvers = is.0.0.1.approvers; tried = is.0.1; last = is.1 })
      (λ is. (((is.priority, record { opened = is.opened; prepared = is.ready; approvers = is.approvers }), is.tried), is.last))
      (Decides-and _ _ (Decides-and _ _ (Decides-and _ _ (Decides-priority change.priority) (Decides-approval change.approved)) Decides-try) (Decides-repeat change.last))

-- THE DESK
pub Decides-desk : (desk : DeskView) → Decides (fits_desk desk) (IsDesk (look desk))
Decides-desk desk =
    Decides-like _ (λ is. record { clock = is.0; changes = is.1 }) (λ is. (is.clock, is.changes))
    (Decides-and _ _ (Decides-le _ _) (Decides-values (fits_change (is_ready desk)) (IsChange desk.settings desk.base) (Decides-change desk.settings desk.base) desk.changes))
