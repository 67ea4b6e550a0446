-- The places of changes in batches: what the tests of a lane decide.
use Rattle.std.proofs.Common.{◌≡◌, ◌≤◌, ℕ, ◌+◌, ℤ, Bool, true, not, ◌||◌, List, [], ◌∷◌, is_some, if◌then◌else◌, refl, arith}
use Rattle.std.proofs.lemmas.Bool.Decides.{Decides-and, Decides-like}
use Rattle.std.proofs.lemmas.List.Sums.{sum_by-cons}
use Rattle.std.specs.Bool.{Decides}
use Rattle.std.specs.Cmp.{nat_cmp_total}
use Rattle.std.specs.FinMap as finite
use Rattle.std.specs.FinMap.{nat_cmp-IsAntisymmetric}
use Rattle.std.specs.List.{list_all}
use Rattle.gate_rules.specs.View.{DeskView}
use Rattle.gate_state.specs.Checks.{is_in, is_inside, none_inside, are_apart, belongs, belongs_to, belong_to, landing_changes, is_held, fit_places}
use Rattle.gate_state.specs.Counts.{occurs, held_by, inside, held, in_landing, of_any_priority}
use Rattle.gate_state.specs.Lanes.{batches_of}
use Rattle.gate_state.specs.Lemmas.Counts.{held_is}
use Rattle.gate_state.specs.State.{Marks, marks_on, is_not}
use Rattle.gate_state.specs.declared.batch.Batch.{Batch}
use Rattle.gate_state.specs.declared.batch.Branch.{Branch}
use Rattle.gate_state.specs.declared.lane.Lane.{Lane}
use Rattle.gate_state.proofs.Deciding.{Decides-some_has, Decides-different, Decides-each, Decides-keys}

inside-cons : (test : ℤ → Bool) (c : ℕ) (batch : Batch) (batches : List Batch) → inside test c (batch ∷ batches) ≡ held_by test c batch + inside test c batches
inside-cons test c batch batches = sum_by-cons (held_by test c) batch batches

-- IN A BATCH, in some batch
module _ (c : ℕ) where
  Decides-in : (changes : List ℕ) → Decides (is_in c changes) (1 ≤ occurs c changes)
  Decides-in changes = Decides-some_has (λ (n : ℕ). n) c changes

  Decides-inside : (batches : List Batch) → Decides (is_inside c batches) (1 ≤ inside of_any_priority c batches)
  Decides-inside [] = (λ is. cc, λ some. absurd (omega arith))
  Decides-inside (batch ∷ batches) = (
    λ is. grind (arith, inside-cons of_any_priority c batch batches, Decides-in batch.changes, Decides-inside batches),
    λ some. grind (arith, inside-cons of_any_priority c batch batches, Decides-in batch.changes, Decides-inside batches),
  )

-- IN ONE AT MOST
Decides-none_inside : (changes : List ℕ) (batches : List Batch) → Decides (none_inside changes batches) ((c : ℕ) → 1 ≤ occurs c changes → inside of_any_priority c batches ≡ 0)
Decides-none_inside changes batches =
    Decides-like _ (λ is c some. grind (arith, is c some, Decides-inside c batches)) (λ none c some. grind (arith, none c some, Decides-inside c batches))
    (Decides-each (λ (n : ℕ). n) (λ c. not (is_inside c batches)) changes)

Decides-apart : (batches : List Batch) → Decides (are_apart batches) ((c : ℕ) → inside of_any_priority c batches ≤ 1)
Decides-apart [] = (λ _ c. omega arith, λ _. refl)
Decides-apart (batch ∷ batches) =
    Decides-like _ (λ is c. grind (arith, sum c, is.0.0 c, is.0.1 c, is.1 c)) (λ at_most. ((λ c. grind (arith, sum c, at_most c), λ c some. grind (arith, sum c, at_most c)), λ c. grind (arith, sum c, at_most c)))
    (Decides-and _ _ (Decides-and _ _ (Decides-different (λ (n : ℕ). n) batch.changes) (Decides-none_inside batch.changes batches)) (Decides-apart batches)) where
      sum : (c : ℕ) → inside of_any_priority c (batch ∷ batches) ≡ occurs c batch.changes + inside of_any_priority c batches
      sum c = inside-cons of_any_priority c batch batches

-- WHERE IT BELONGS, under its priority
module _ (marks : Marks) where
  record BelongsIn (batches : List Batch) (c : ℕ) : Type 0 where
    wanted : 1 ≤ inside of_any_priority c batches → belongs marks c ≡ true
    priority : inside (is_not (marks.priority c)) c batches ≡ 0

  Decides-belong : (batches : List Batch) → Decides (list_all (belong_to marks) batches) ((c : ℕ) → BelongsIn batches c)
  Decides-belong [] = (λ _ c. record { wanted = λ some. absurd (omega arith); priority = refl }, λ _. refl)
  Decides-belong (batch ∷ batches) =
      Decides-like _
      (λ is c. record { wanted = λ some. grind (arith, all c, is.0 c, (is.1 c).wanted); priority = grind (arith, others c, is.0 c, (is.1 c).priority) })
      (λ belong. (
        λ c some. grind (arith, all c, others c, (belong c).wanted, (belong c).priority),
        λ c. record { wanted = λ some. grind (arith, all c, (belong c).wanted); priority = grind (arith, others c, (belong c).priority) },
      ))
      (Decides-and _ _ (Decides-each (λ (n : ℕ). n) (belongs_to marks batch.priority) batch.changes) (Decides-belong batches)) where
        all : (c : ℕ) → inside of_any_priority c (batch ∷ batches) ≡ occurs c batch.changes + inside of_any_priority c batches
        all c = inside-cons of_any_priority c batch batches

        others : (c : ℕ) → inside (is_not (marks.priority c)) c (batch ∷ batches) ≡ (if is_not (marks.priority c) batch.priority then occurs c batch.changes else 0) + inside (is_not (marks.priority c)) c batches
        others c = inside-cons (is_not (marks.priority c)) c batch batches

-- LANDING
landing_is : (c : ℕ) (lane : Lane) → in_landing of_any_priority c lane ≡ occurs c (landing_changes lane.running)
landing_is c lane = grind arith

landing_within : (c : ℕ) (lane : Lane) → in_landing of_any_priority c lane ≤ held of_any_priority c lane
landing_within c lane = grind (arith, held_is of_any_priority c lane)

-- THE PLACES of a branch: what belongs to it is on the desk
pub record ArePlaces (marks : Marks) (lane : Lane) : Type 0 where
  pub places : (change : ℕ) → held of_any_priority change lane ≡ (if marks.wanted change || marks.landing change then 1 else 0)
  pub priorities : (change : ℕ) → held (is_not (marks.priority change)) change lane ≡ 0
  pub landing : (change : ℕ) → in_landing of_any_priority change lane ≡ (if marks.landing change then 1 else 0)

on_desk : (on : Branch) (desk : DeskView) (c : ℕ) → belongs (marks_on on desk) c ≡ true → is_some (finite.get desk.changes c) ≡ true
on_desk on desk c is = grind arith

module _ (on : Branch) (desk : DeskView) (lane : Lane) where
  abbrev marks : Marks
  marks = marks_on on desk

  abbrev landing : List ℕ
  landing = landing_changes lane.running

  -- the parts of the tests
  record Parts : Type 0 where
    once : (c : ℕ) → held of_any_priority c lane ≤ 1
    belong : (c : ℕ) → BelongsIn marks (batches_of lane) c
    lands : (c : ℕ) → 1 ≤ occurs c landing → marks.landing c ≡ true
    known : (c : ℕ) → is_some (finite.get desk.changes c) ≡ true → is_held marks lane c ≡ true

  Decides-parts : Decides (fit_places marks lane (finite.entries desk.changes)) Parts
  Decides-parts =
      Decides-like _ (λ is. record { once = is.0.0.0; belong = is.0.0.1; lands = is.0.1; known = is.1 }) (λ parts. (((parts.once, parts.belong), parts.lands), parts.known))
      (Decides-and _ _ (Decides-and _ _ (Decides-and _ _ (Decides-apart (batches_of lane)) (Decides-belong marks (batches_of lane))) (Decides-each (λ (n : ℕ). n) marks.landing landing))
      (Decides-keys nat_cmp_total nat_cmp-IsAntisymmetric (is_held marks lane) desk.changes))

  places_from : Parts → ArePlaces marks lane
  places_from parts = record {
    places = λ c. grind (arith, parts.known c, on_desk on desk c, Decides-inside c (batches_of lane), parts.once c, (parts.belong c).wanted);
    priorities = λ c. (parts.belong c).priority;
    landing = λ c. grind (arith, parts.known c, on_desk on desk c, Decides-in c landing, parts.lands c, parts.once c, landing_is c lane, landing_within c lane);
  }

  parts_from : ArePlaces marks lane → Parts
  parts_from are = record {
    once = λ c. grind (arith, are.places c);
    belong = λ c. record { wanted = λ some. grind (arith, are.places c); priority = are.priorities c };
    lands = λ c some. grind (arith, are.landing c, landing_is c lane);
    known = λ c found. grind (arith, are.places c, are.landing c, landing_is c lane, Decides-inside c (batches_of lane), Decides-in c landing);
  }

  pub Decides-places : Decides (fit_places marks lane (finite.entries desk.changes)) (ArePlaces marks lane)
  Decides-places = (λ is. places_from (Decides-parts.0 is), λ are. Decides-parts.1 (parts_from are))
