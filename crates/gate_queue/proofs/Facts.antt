-- What the history says of a change after one more fact: the change as it was said before, altered.
use Rattle.std.proofs.Common.{◌≡◌, ℕ, Bool, true, false, List, ◌∷◌, Option, Some, None, Result, Ok, refl, sym, ◌∙◌, ap, arith}
use Rattle.std.proofs.lemmas.Slice.Eq.{bytes_eq-Decides}
use Rattle.std.specs.Option.{option_map, option_or}
use Rattle.std.specs.Result.{result_ok}
use Rattle.gate_queue.specs.Vocabulary.{SettingsView, settings_of, is_open_phase, Other, Opened, Pushed, Closed, Labeled, Unlabeled, Review, Happened, Settings, Status, StatusState}
use Rattle.gate_rules.specs.View.{told_at}
use Rattle.gate_queue.specs.History.{Event, did, author_back, head_back, phase_back, landed_back, settings_back, labels_back, reviews_back, standing_back, change_back}
use Rattle.gate_queue.specs.Machine.{is_good, closed, pushed, labeled, without_label, reviewed, opened, settled}
use Rattle.gate_queue.proofs.After.{Rest, rest_back, untouched, change_after, silent, ended, stays, standing_fit, unless_unfit, elsewhere}
use Rattle.gate_queue.proofs.Fitness.{still_fit, opened_so}
use Rattle.gate_queue.proofs.Unseen.{Unseen, blank_landing}

module _ (events : List Event) (c : ℕ) where
  -- a change that is closed was open, so it hasn't landed
  pub closed_next : landed_back events c ≡ false → option_map closed (change_back events c) ≡ change_after events c (rest_back events c) (Some (Happened Closed))
  closed_next here = let approvers = ended events c (Happened Closed) refl refl in grind arith

  pub labeled_next : (label : List ℕ) → option_map (labeled (settings_back events) label) (change_back events c) ≡ change_after events c (rest_back events c) (Some (Happened (Labeled label)))
  labeled_next label =
      let approvers = silent events c (Happened (Labeled label)) refl in
      let fit = standing_fit events c in
      grind arith

  pub reviewed_next : (person head : List ℕ) (approves : Bool)
      → option_map (reviewed (settings_back events) person approves) (change_back events c) ≡ change_after events c (rest_back events c) (Some (Happened (Review person head approves)))
  reviewed_next person head approves =
      let approvers = silent events c (Happened (Review person head approves)) refl in
      let fit = standing_fit events c in
      grind arith

  pub unlabeled_next : (label : List ℕ) → option_map (without_label label) (change_back events c) ≡ change_after events c (rest_back events c) (Some (Happened (Unlabeled label)))
  unlabeled_next label =
      let fit = still_fit (settings_back events) (phase_back events c) (labels_back events c) (reviews_back events c) label in
      let approvers = stays events c (Happened (Unlabeled label)) refl refl fit in
      grind arith

  pub pushed_next : (head : List ℕ) → option_map (pushed head) (change_back events c) ≡ change_after events c (rest_back events c) (Some (Happened (Pushed head)))
  pushed_next head =
      let same = (bytes_eq-Decides (head_back events c) head).0 in
      let approvers = silent events c (Happened (Pushed head)) refl in
      let fit = standing_fit events c in
      grind arith

  -- A change that was never opened has nothing but what a new one has, and one that is opened again wasn't open.
  module _ (author head : List ℕ) (unseen : Unseen events c) (shut : is_open_phase (phase_back events c) ≡ false) (here : landed_back events c ≡ false) where
    pub opened_next : Some (opened author head (change_back events c)) ≡ change_after events c (rest_back events c) (Some (Happened (Opened author head)))
    opened_next =
        let opened = λ (standing : standing_back events c ≡ true). opened_so (settings_back events) (phase_back events c) (labels_back events c) (reviews_back events c) (standing_fit events c standing) in
        let approvers = ended events c (Happened (Opened author head)) refl refl in
        let landing = λ (none : author_back events c ≡ None). blank_landing events c (unseen none) in
        grind (arith, unseen)

-- new settings
module _ (events : List Event) (c : ℕ) (text : List ℕ) (settings : SettingsView) (read : settings_of text ≡ Ok settings) where
  pub taken_settings : settings_back (did (Other (Settings text)) ∷ events) ≡ Some settings
  taken_settings = ap (λ (r : Result SettingsView _). option_or (result_ok r) (settings_back events)) read

  abbrev under : Option SettingsView → Rest
  under other = record (rest_back events c) { settings = other }

  pub settled_next : option_map (settled settings) (change_back events c) ≡ change_back (did (Other (Settings text)) ∷ events) c
  settled_next =
      let taken = taken_settings in
      let approvers = unless_unfit events c (under (Some settings)) in
      let fit = standing_fit events c in
      grind arith

  pub unsettled_next : settings_back events ≡ Some settings → change_back events c ≡ change_back (did (Other (Settings text)) ∷ events) c
  unsettled_next same = sym (elsewhere events c (Other (Settings text)) refl (λ i. under ((taken_settings ∙ sym same) i)))

-- a status of the head
pub status_next : (events : List Event) (c : ℕ) (commit name : List ℕ) (state : StatusState)
    → option_map (told_at commit name (is_good state)) (change_back events c) ≡ change_back (did (Other (Status commit name state)) ∷ events) c
status_next events c commit name state = let approvers = untouched events c in grind arith
