-- What the history says of a change after one more event: by the act that the event did to the change, if it did one, and by
-- whether the event ends its approval, or its try.
use Rattle.std.proofs.Common.{◌≡◌, ℕ, ℤ, pos, Bool, true, false, cond, not, ◌&&◌, ◌||◌, List, [], ◌∷◌, Option, Some, None, is_some, eqb, refl, sym, ◌∙◌, ap, arith}
use Rattle.std.specs.FinSet as set
use Rattle.std.specs.Option.{option_and_then, option_map, option_map_or, option_or, unwrap_or}
use Rattle.gate_queue.specs.Vocabulary.{SettingsView, Texts, is_fit, is_open_phase, Change, Phase, Repeat, without_approval, Act, On, Deed, Order}
use Rattle.gate_state.specs.Acts.{on}
use Rattle.gate_queue.specs.History.{Event, did, gave, Mark, head_back, status_said, told_back, last_of, said_by, said_on, author_said, author_back, head_said, moves_head, phase_said, phase_by, landing_back, landed_back, priority_said, repeat_said, marked, label_said, labels_back, review_said, reviews_back, delegation_said, delegated, delegates_back, settings_back, fit_back, approval_said, ends_it, order_ends, standing_back, approvers_back, try_said, ends_its_try, order_ends_try, tried_back, change_of, change_back}
use Rattle.gate_queue.specs.Machine.{without_try}

-- STANDING AND FIT: a change that is standing is fit
pub standing_fit : (events : List Event) (change : ℕ) → standing_back events change ≡ true → fit_back events change ≡ true
standing_fit [] change is = cc is
standing_fit (event ∷ events) change is = grind arith

-- a change that was opened, altered as the history has it
pub altered_as : (alter : Change → Change) (was is : List ℕ → Change) (author : Option (List ℕ)) → ((a : List ℕ) → author ≡ Some a → alter (was a) ≡ is a)
    → option_map alter (option_map was author) ≡ option_map is author
altered_as alter was is None so = refl
altered_as alter was is (Some a) so = ap Some (so a refl)

-- AFTER ONE MORE EVENT: what the history says then of other things than the change, as far as that touches it
pub record Rest : Type 0 where
  pub settings : Option SettingsView
  pub landed : Bool
  pub landing : Bool
  -- and what the event says of a status of the head
  pub told : Option Mark

abbrev pub rest_back : List Event → ℕ → Rest
rest_back events c = record { settings = settings_back events; landed = landed_back events c; landing = landing_back events c; told = None }

abbrev pub rest_after : Event → List Event → ℕ → Rest
rest_after event events c = record {
  settings = settings_back (event ∷ events);
  landed = landed_back (event ∷ events) c;
  landing = landing_back (event ∷ events) c;
  told = said_by (status_said (head_back events c)) event events;
}

module _ (events : List Event) (c : ℕ) (rest : Rest) (done : Option Deed) where
  abbrev moves_after : Bool
  moves_after = option_map_or (moves_head c events) done false

  abbrev pub author_after : Option (List ℕ)
  author_after = option_or (option_and_then author_said done) (author_back events c)

  abbrev pub phase_after : Phase
  phase_after = phase_by rest.landed (option_or (option_and_then phase_said done) (last_of (said_on c phase_said) events))

  abbrev pub priority_after : ℤ
  priority_after = unwrap_or (option_or (option_and_then priority_said done) (last_of (said_on c priority_said) events)) (pos 0)

  abbrev pub labels_after : Texts
  labels_after = marked (option_and_then label_said done) (labels_back events c)

  abbrev reviews_after : Texts
  reviews_after = cond moves_after set.empty (marked (option_and_then review_said done) (reviews_back events c))

  abbrev passed_after : Texts
  passed_after = cond (is_open_phase phase_after) (cond moves_after set.empty (marked rest.told (told_back events c))) set.empty

  abbrev pub delegates_after : Texts
  delegates_after = delegated (author_back events c) (option_and_then delegation_said done) (delegates_back events c)

  abbrev pub repeat_after : Option Repeat
  repeat_after = option_or (option_and_then repeat_said done) (last_of (said_on c repeat_said) events)

  abbrev pub fit_after : Bool
  fit_after = is_fit rest.settings phase_after labels_after reviews_after

-- if it ends the approval and the try, or doesn't
module _ (events : List Event) (c : ℕ) (rest : Rest) (done : Option Deed) (ending ending_try : Bool) where
  abbrev fit_now : Bool
  fit_now = fit_after events c rest done

  abbrev standing_by : Bool
  standing_by = (is_some (option_and_then approval_said done) && fit_now) || ((not ending && fit_now) && standing_back events c)

  abbrev approvers_by : Option (List (List ℕ))
  approvers_by = cond standing_by (option_or (option_and_then approval_said done) (last_of (said_on c approval_said) events)) None

  abbrev trying_by : Bool
  trying_by = (option_map_or try_said done false || (not ending_try && tried_back events c)) && not rest.landed

  abbrev change_of_by : List ℕ → Change
  change_of_by author = record {
    author = author;
    head = unwrap_or (option_or (option_and_then head_said done) (last_of (said_on c head_said) events)) [];
    phase = phase_after events c rest done;
    priority = priority_after events c rest done;
    labels = labels_after events c rest done;
    reviews = reviews_after events c rest done;
    passed = passed_after events c rest done;
    delegates = delegates_after events c rest done;
    approved = approvers_by;
    trying = trying_by;
    landing = rest.landing;
    last = repeat_after events c rest done;
  }

  abbrev change_by : Option Change
  change_by = option_map change_of_by (author_after events c rest done)

-- an act ends them by what it is
module _ (events : List Event) (c : ℕ) (rest : Rest) (done : Option Deed) where
  abbrev ending_by : Bool
  ending_by = option_map_or (ends_it c events) done false

  abbrev ending_try_by : Bool
  ending_try_by = option_map_or (ends_its_try c events) done false

  abbrev pub approvers_after : Option (List (List ℕ))
  approvers_after = approvers_by events c rest done ending_by ending_try_by

  abbrev pub change_of_after : List ℕ → Change
  change_of_after = change_of_by events c rest done ending_by ending_try_by

  abbrev pub change_after : Option Change
  change_after = change_by events c rest done ending_by ending_try_by

module _ (events : List Event) (c : ℕ) where
  -- AN EVENT THAT DID NOTHING TO THE CHANGE: an act elsewhere, and an order that ends no approval and no try of it
  pub untouched : approvers_after events c (rest_back events c) None ≡ approvers_back events c
  untouched = let fit = standing_fit events c in grind arith

  pub unaltered : change_after events c (rest_back events c) None ≡ change_back events c
  unaltered = λ i. option_map (λ author. record (change_of events c author) { approved = untouched i }) (author_back events c)

  pub elsewhere : (act : Act) → on c act ≡ None → rest_after (did act) events c ≡ rest_back events c → change_back (did act ∷ events) c ≡ change_back events c
  elsewhere act none same = (λ i. change_after events c (same i) (none i)) ∙ unaltered

  pub order_elsewhere : (order : Order) → order_ends c order ≡ false → order_ends_try c order ≡ false → rest_after (gave order) events c ≡ rest_back events c
      → change_back (gave order ∷ events) c ≡ change_back events c
  order_elsewhere order goes tries same = (λ i. change_by events c (same i) None (goes i) (tries i)) ∙ unaltered

  -- and one that ends its approval, or its try
  pub order_ended : (order : Order) → order_ends c order ≡ true → order_ends_try c order ≡ false → rest_after (gave order) events c ≡ rest_back events c
      → change_back (gave order ∷ events) c ≡ option_map without_approval (change_back events c)
  order_ended order ending tries same = (λ i. change_by events c (same i) None (ending i) (tries i)) ∙ sym (altered_as without_approval (change_of events c) _ (author_back events c) (λ author is. refl))

  pub order_ended_try : (order : Order) → order_ends_try c order ≡ true → order_ends c order ≡ false → rest_after (gave order) events c ≡ rest_back events c
      → change_back (gave order ∷ events) c ≡ option_map without_try (change_back events c)
  order_ended_try order ending goes same = (λ i. change_by events c (same i) None (goes i) (ending i)) ∙ (let approvers = untouched in grind arith)

  -- new settings, or one that has landed: the approval goes on if the change is fit then
  pub unless_unfit : (rest : Rest) → approvers_after events c rest None ≡ cond (fit_after events c rest None) (approvers_back events c) None
  unless_unfit rest = grind arith

  -- A DEED ON THE CHANGE
  pub altered_here : (alter : Change → Change) (deed : Deed) → author_after events c (rest_back events c) (Some deed) ≡ author_back events c
      → ((author : List ℕ) → author_back events c ≡ Some author → alter (change_of events c author) ≡ change_of_after events c (rest_back events c) (Some deed) author)
      → option_map alter (change_back events c) ≡ change_after events c (rest_back events c) (Some deed)
  altered_here alter deed author so =
      altered_as alter (change_of events c) (change_of_after events c (rest_back events c) (Some deed)) (author_back events c) so
      ∙ ap (option_map (change_of_after events c (rest_back events c) (Some deed))) (sym author)

  -- one that approves nothing
  pub silent : (deed : Deed) → approval_said deed ≡ None
      → approvers_after events c (rest_back events c) (Some deed) ≡ cond (not (ends_it c events deed) && fit_after events c (rest_back events c) (Some deed)) (approvers_back events c) None
  silent deed none = grind arith

  -- and ends the approval
  pub ended : (deed : Deed) → approval_said deed ≡ None → ends_it c events deed ≡ true → approvers_after events c (rest_back events c) (Some deed) ≡ None
  ended deed none ending = let approvers = silent deed none in grind arith

  -- or ends nothing, and leaves the change fit if it was
  pub stays : (deed : Deed) → approval_said deed ≡ None → ends_it c events deed ≡ false
      → (fit_back events c ≡ true → fit_after events c (rest_back events c) (Some deed) ≡ true)
      → approvers_after events c (rest_back events c) (Some deed) ≡ approvers_back events c
  stays deed none goes fit = let approvers = silent deed none in let standing = standing_fit events c in grind arith

  -- a line that says nothing which is kept
  pub quiet_line : (deed : Deed) → author_after events c (rest_back events c) (Some deed) ≡ author_back events c
      → ((author : List ℕ) → change_of_after events c (rest_back events c) (Some deed) author ≡ record (change_of events c author) { approved = approvers_after events c (rest_back events c) (Some deed) })
      → approvers_after events c (rest_back events c) (Some deed) ≡ approvers_back events c
      → option_map (λ change. change) (change_back events c) ≡ change_after events c (rest_back events c) (Some deed)
  quiet_line deed author so approvers =
      altered_here (λ change. change) deed author (λ a is. (λ i. record (change_of events c a) { approved = (sym approvers) i }) ∙ sym (so a))

  -- BY THE NUMBER: a deed on one change, seen from this one
  pub by_number : (n : ℕ) (deed : Deed) (after : Option Change → Option Change)
      → (eqb c n ≡ true → after (change_back events c) ≡ change_after events c (rest_back events c) (Some deed))
      → (b : Bool) → eqb c n ≡ b → cond b (after (change_back events c)) (change_back events c) ≡ change_back (did (On n deed) ∷ events) c
  by_number n deed after here true is = here is ∙ (λ i. change_after events c (rest_back events c) (cond ((sym is) i) (Some deed) None))
  by_number n deed after here false is = sym (elsewhere (On n deed) (ap (λ (b : Bool). cond b (Some deed) None) is) refl)
