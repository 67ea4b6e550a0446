-- CONNECTIONS that an acceptor gives, one after the other, and what is known of them.
use Rattle.std.specs.Prelude.{◌≡◌, ℕ, ⊤, List, [], ◌∷◌, ◌++◌, Option, Some, None}

-- One connection: what its reader had left and its writer had taken when it was accepted, and when it was ended, as far as that is
-- known.
pub record Connection : Type 0 where
  pub unread : Option (List ℕ)
  pub blank : Option (List ℕ)
  pub left : Option (List ℕ)
  pub written : Option (List ℕ)

-- The first of the connections that wait is accepted: it gives what was known of it, and nothing is written on it yet.
abbrev pub ComesFirst : Option (List (List ℕ)) → Option (List (List ℕ)) → Option (List ℕ) → Option (List ℕ) → Type 0
ComesFirst None after unread blank = ⊤
ComesFirst (Some inputs) after unread blank =
    (input : List ℕ) × (others : List (List ℕ)) × (inputs ≡ input ∷ others) × (after ≡ Some others) × (unread ≡ Some input) × (blank ≡ Some [])

-- One more text comes behind the others: what was written on a connection, or what it had still to give.
abbrev pub AddsText : Option (List (List ℕ)) → Option (List (List ℕ)) → Option (List ℕ) → Type 0
AddsText None after known = ⊤
AddsText (Some texts) after known = (text : List ℕ) × (known ≡ Some text) × (after ≡ Some (texts ++ text ∷ []))

-- These connections were accepted, and ended, in their order: first for what waits before and after them, then for a text of each.
abbrev pub AreAcceptedInTurn : List Connection → Option (List (List ℕ)) → Option (List (List ℕ)) → Type 0
AreAcceptedInTurn [] before after = after ≡ before
AreAcceptedInTurn (connection ∷ connections) before after =
    (between : Option (List (List ℕ))) × ComesFirst before between connection.unread connection.blank × AreAcceptedInTurn connections between after

abbrev pub AreEndedInTurn : (Connection → Option (List ℕ)) → List Connection → Option (List (List ℕ)) → Option (List (List ℕ)) → Type 0
AreEndedInTurn text [] before after = after ≡ before
AreEndedInTurn text (connection ∷ connections) before after =
    (between : Option (List (List ℕ))) × AddsText before between (text connection) × AreEndedInTurn text connections between after
