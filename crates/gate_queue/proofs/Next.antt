-- What the history says of a change after one more command on it: the change as it was said before, altered.
use Rattle.std.proofs.Common.{◌≡◌, ℕ, ℤ, true, false, List, [], ◌∷◌, Some, refl, arith}
use Rattle.std.specs.Option.{option_map}
use Rattle.gate_queue.specs.Vocabulary.{Approve, ApproveFor, Withdraw, Priority, Try, TryCancel, DelegateAuthor, DelegateTo, DelegateNone, Known, without_approval, Said}
use Rattle.gate_rules.specs.declared.change.Repeat.TheVariants as repeat
use Rattle.gate_queue.specs.History.{Event, landed_back, fit_back, change_back}
use Rattle.gate_queue.specs.Machine.{approved_by, with_try, without_try, with_priority, with_delegates, with_author_as_delegate, without_delegates}
use Rattle.gate_queue.proofs.After.{rest_back, change_after, ended, stays}

module _ (events : List Event) (c : ℕ) (person : List ℕ) where
  pub priority_next : (priority : ℤ)
      → option_map (with_priority priority) (change_back events c) ≡ change_after events c (rest_back events c) (Some (Said person (Known (Priority priority))))
  priority_next priority = let approvers = stays events c (Said person (Known (Priority priority))) refl refl (λ fit. fit) in grind arith

  pub author_next : option_map with_author_as_delegate (change_back events c) ≡ change_after events c (rest_back events c) (Some (Said person (Known DelegateAuthor)))
  author_next = let approvers = stays events c (Said person (Known DelegateAuthor)) refl refl (λ fit. fit) in grind arith

  pub names_next : (names : List (List ℕ))
      → option_map (with_delegates names) (change_back events c) ≡ change_after events c (rest_back events c) (Some (Said person (Known (DelegateTo names))))
  names_next names = let approvers = stays events c (Said person (Known (DelegateTo names))) refl refl (λ fit. fit) in grind arith

  pub none_next : option_map without_delegates (change_back events c) ≡ change_after events c (rest_back events c) (Some (Said person (Known DelegateNone)))
  none_next = let approvers = stays events c (Said person (Known DelegateNone)) refl refl (λ fit. fit) in grind arith

  pub withdraw_next : option_map without_approval (change_back events c) ≡ change_after events c (rest_back events c) (Some (Said person (Known Withdraw)))
  withdraw_next = let approvers = ended events c (Said person (Known Withdraw)) refl refl in grind arith

  -- what has landed isn't tried, and a `try` acts only on an open change
  pub try_next : landed_back events c ≡ false → option_map with_try (change_back events c) ≡ change_after events c (rest_back events c) (Some (Said person (Known Try)))
  try_next here = let approvers = stays events c (Said person (Known Try)) refl refl (λ fit. fit) in grind arith

  pub try_cancel_next : option_map without_try (change_back events c) ≡ change_after events c (rest_back events c) (Some (Said person (Known TryCancel)))
  try_cancel_next = let approvers = stays events c (Said person (Known TryCancel)) refl refl (λ fit. fit) in grind arith

  -- `r+` and `r=`, on a change that is fit
  pub approve_next : fit_back events c ≡ true
      → option_map (approved_by (person ∷ []) repeat.Approve) (change_back events c) ≡ change_after events c (rest_back events c) (Some (Said person (Known Approve)))
  approve_next fit = grind arith

  pub approve_for_next : (names : List (List ℕ)) → fit_back events c ≡ true
      → option_map (approved_by names (repeat.ApproveFor names)) (change_back events c) ≡ change_after events c (rest_back events c) (Some (Said person (Known (ApproveFor names))))
  approve_for_next names fit = grind arith
