-- A change that was never opened has nothing: no act on it is done but the one that opens it.
use Rattle.std.proofs.Common.{◌≡◌, ◌⊎◌, ℕ, pos, Bool, true, false, cond, not, ◌&&◌, List, [], ◌∷◌, Some, None, is_some, eqb, refl, sym, ◌∙◌, ap, inl, inr, subst, arith}
use Rattle.std.specs.FinSet as set
use Rattle.std.specs.List.{list_any}
use Rattle.gate_queue.specs.Vocabulary.{Command, Retry, Known, Look, is_known, UnknownChange, Act, On, Other, Opened, Deed, Said, Happened, Order}
use Rattle.gate_rules.specs.declared.change.Phase.TheVariants as phase
use Rattle.gate_queue.specs.History.{Event, did, gave, last_of, said_on, done_to, author_said, author_back, stage_naming, batches_back, landing_with, landing_back, has_landed, landed_back, phase_said, phase_by, phase_back, priority_back, labels_back, delegates_back, repeat_back, tried_back, trying_back, look_back}
use Rattle.gate_queue.specs.Machine.{broken}
use Rattle.gate_queue.proofs.After.{rest_back, author_after}
use Rattle.gate_queue.proofs.Changes.{same_number}
use Rattle.gate_queue.proofs.Fitness.{passed}
use Rattle.gate_queue.proofs.Choosing.{by_bool}

pub record Blank (events : List Event) (c : ℕ) : Type 0 where
  pub unsaid : last_of (said_on c phase_said) events ≡ None
  pub unstaged : batches_back events c ≡ []
  pub priority : priority_back events c ≡ pos 0
  pub labels : labels_back events c ≡ set.empty
  pub delegates : delegates_back events c ≡ set.empty
  pub last : repeat_back events c ≡ None
  pub untried : tried_back events c ≡ false

-- so it isn't open, hasn't landed, isn't landing, and isn't tried
module _ (events : List Event) (c : ℕ) (blank : Blank events c) where
  pub blank_landed : landed_back events c ≡ false
  blank_landed = ap (λ (ns : List ℕ). list_any (has_landed events) ns) blank.unstaged

  pub blank_landing : landing_back events c ≡ false
  blank_landing = ap (λ (ns : List ℕ). list_any (λ n. is_some (landing_with events n)) ns) blank.unstaged

  pub blank_trying : trying_back events c ≡ false
  blank_trying = ap (λ (b : Bool). b && not (landed_back events c)) blank.untried

  pub blank_phase : phase_back events c ≡ phase.Closed
  blank_phase = λ i. phase_by (blank_landed i) (blank.unsaid i)

abbrev pub Unseen : List Event → ℕ → Type 0
Unseen events c = author_back events c ≡ None → Blank events c

pub nothing_unseen : (c : ℕ) → Unseen [] c
nothing_unseen c none = record { unsaid = refl; unstaged = refl; priority = refl; labels = refl; delegates = refl; last = refl; untried = refl }

-- THE FIRST RULE of a deed on a change: that the change is known, but for the one that opens it
abbrev KnownOrOpened : Look → ℕ → Deed → Type 0
KnownOrOpened s n deed = (is_known s n ≡ true) ⊎ ((author : List ℕ) × (author_said deed ≡ Some author))

known_by : (s : Look) (n : ℕ) (command : Command) (person : List ℕ) → broken s (On n (Said person (Known command))) ≡ None → is_known s n ≡ true
known_by s n Retry person holds = (passed (is_known s n) UnknownChange _ holds).0
known_by s n command person holds = (passed (is_known s n) UnknownChange _ holds).0

known_first : (s : Look) (n : ℕ) (deed : Deed) → broken s (On n deed) ≡ None → KnownOrOpened s n deed
known_first s n (Said person (Known command)) holds = inl (known_by s n command person holds)
known_first s n (Happened (Opened author head)) holds = inr (author, refl)
known_first s n deed holds = inl (passed (is_known s n) UnknownChange _ holds).0

-- what an event leaves that did nothing to the change, and doesn't stage it
left_unseen : (events : List Event) (event : Event) (c : ℕ) → done_to c event ≡ None → stage_naming c event ≡ None → Unseen events c → Unseen (event ∷ events) c
left_unseen events event c other unnamed unseen none =
    let blank = unseen (sym (λ i. author_after events c (rest_back events c) (other i)) ∙ none) in
    grind arith

pub order_unseen : (events : List Event) (order : Order) (c : ℕ) → stage_naming c (gave order) ≡ None → Unseen events c → Unseen (gave order ∷ events) c
order_unseen events order c unnamed unseen = left_unseen events (gave order) c refl unnamed unseen

pub still_unseen : (events : List Event) (act : Act) → broken (look_back events) act ≡ None → (c : ℕ) → Unseen events c → Unseen (did act ∷ events) c
still_unseen events (Other fact) holds c unseen = left_unseen events (did (Other fact)) c refl refl unseen
still_unseen events (On n deed) holds c unseen =
    by_bool (λ b. eqb c n ≡ b → Unseen (did (On n deed) ∷ events) c) opening
    (λ other. left_unseen events (did (On n deed)) c (ap (λ (b : Bool). cond b (Some deed) None) other) refl unseen) (eqb c n) refl where
      first : eqb c n ≡ true → KnownOrOpened (look_back events) c deed
      first here = known_first (look_back events) c deed (subst (λ m. broken (look_back events) (On m deed) ≡ None) (sym (same_number c n here)) holds)

      opening : eqb c n ≡ true → author_back (did (On n deed) ∷ events) c ≡ None → Blank (did (On n deed) ∷ events) c
      opening here none = elim (first here) [
        | inl known ↦ absurd (grind arith)
        | inr (author, opens) ↦ absurd (grind arith)
      ]
