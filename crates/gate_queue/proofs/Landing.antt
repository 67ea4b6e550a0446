-- What the history says of landing and landed batches and changes, after one more event.
use Rattle.std.proofs.Common.{◌≡◌, ◌+◌, ℕ, eqb, Bool, true, false, ◌&&◌, ◌||◌, if◌then◌else◌, List, [], ◌∷◌, Option, Some, None, is_some, refl, sym, ◌∙◌, ap, arith}
use Rattle.std.proofs.lemmas.Bool.Decides.{nat_tests, Decides-eqb}
use Rattle.std.proofs.lemmas.List.Sums.{sum_by-cons}
use Rattle.std.specs.Bool.{then_some, ⊤}
use Rattle.std.specs.FinMap as finite
use Rattle.std.specs.List.{cons_option, count_by, filter_map, list_any}
use Rattle.std.specs.Option.{option_flatten, option_or}
use Rattle.std.specs.Str.{bytes_eq}
use Rattle.std.proofs.lemmas.Bool.{or_left, or_right}
use Rattle.gate_queue.specs.Vocabulary.{DeskView, Other, Base, Refused, Head, Order, Stage, Land, Batch, Branch}
use Rattle.gate_queue.specs.History.{Event, did, gave, last_of, names_change, batches_back, commit_of, landing_of, landing_said, landing_with, are_same, has_landed, landing_back, landed_back, is_order, is_stage_of, is_land_of, stages, landings}
use Rattle.gate_queue.specs.Machine.{head_on}
use Rattle.gate_state.specs.declared.batch.Stage.TheVariants as stage
use Rattle.gate_queue.proofs.After.{rest_back, rest_after}
use Rattle.gate_queue.proofs.Keeping.{lands}

-- LISTS AND TESTS
pub list_any_or : {X : Type 0} (one other : X → Bool) (xs : List X) → list_any (λ x. one x || other x) xs ≡ (list_any one xs || list_any other xs)
list_any_or one other [] = refl
list_any_or one other (x ∷ xs) = grind (arith, list_any_or one other xs)

pub list_any_never : {X : Type 0} (xs : List X) → list_any (λ (x : X). false) xs ≡ false
list_any_never [] = refl
list_any_never (x ∷ xs) = list_any_never xs

pub list_any_same : {X : Type 0} (one other : X → Bool) → ((x : X) → one x ≡ other x) → (xs : List X) → list_any one xs ≡ list_any other xs
list_any_same one other same xs = λ i. list_any (λ x. same x i) xs

-- one more in front, for which the test fails
pub list_any_skip : (test : ℕ → Bool) (b : Bool) (n : ℕ) (ns : List ℕ) → test n ≡ false → list_any test (cons_option (then_some b n) ns) ≡ list_any test ns
list_any_skip test b n ns fails = grind arith

-- THE RUNNING BATCH and the commit that it is landing with
pub none_lands : (number : ℕ) (running : Option Batch) → lands running ≡ false → landing_of number running ≡ None
none_lands number running not_so = grind arith

-- Only the running batch lands, and the history has it so.
abbrev pub Lands : List Event → Option Batch → Type 0
Lands events running = (number : ℕ) → landing_with events number ≡ landing_of number running

-- The running batch is one of those of a change exactly if it has the change.
abbrev pub Members : List Event → Option Batch → Type 0
Members events None = ⊤
Members events (Some batch) = (c : ℕ) → list_any (λ number. eqb number batch.number) (batches_back events c) ≡ list_any (eqb c) batch.changes

-- A NUMBER THAT WAS NEVER TO LAND
pub counted : (test : Order → Bool) (event : Event) (events : List Event) → count_by (is_order test) (event ∷ events) ≡ (if is_order test event then 1 else 0) + count_by (is_order test) events
counted test event events = sum_by-cons (λ e. if is_order test e then 1 else 0) event events

pub never_landing : (number : ℕ) (events : List Event) → landings number events ≡ 0 → (landing_with events number ≡ None) × (has_landed events number ≡ false)
never_landing number [] none = (refl, refl)
never_landing number (did (Other fact) ∷ events) none =
    let rest = never_landing number events none in
    let lands = rest.0 in
    let landed = rest.1 in
    (grind arith, grind arith)
never_landing number (gave (Land batch base commit) ∷ events) none =
    let one = counted (is_land_of number) (gave (Land batch base commit)) events in
    let other : eqb number batch ≡ false = grind (arith, nat_tests) in
    let rest = never_landing number events (grind (arith, nat_tests)) in
    (ap (λ (b : Bool). option_flatten (option_or (then_some b (Some commit)) (last_of (landing_said number) events))) other ∙ rest.0, rest.1)
never_landing number (event ∷ events) none = never_landing number events none

-- AN ORDER TO STAGE a number that was never to land leaves what is landing and has landed.
pub stage_rest : (events : List Event) (number : ℕ) (branch : Branch) (base : List ℕ) (heads : List Head) (c : ℕ) → landings number events ≡ 0
    → rest_after (gave (Stage number branch base heads)) events c ≡ rest_back events c
stage_rest events number branch base heads c none =
    let never = never_landing number events none in
    λ i. record (rest_back events c) {
      landed = list_any_skip (has_landed events) (names_change c heads) number (batches_back events c) never.1 i;
      landing = list_any_skip (λ n. is_some (landing_with events n)) (names_change c heads) number (batches_back events c) (ap is_some never.0) i;
    }

-- and a number that was never staged is none of a change
pub never_named : (number c : ℕ) (events : List Event) → stages number events ≡ 0 → list_any (λ n. eqb n number) (batches_back events c) ≡ false
never_named number c [] none = refl
never_named number c (gave (Stage batch branch base heads) ∷ events) none =
    let one = counted (is_stage_of number) (gave (Stage batch branch base heads)) events in
    let other : eqb batch number ≡ false = grind (arith, nat_tests) in
    list_any_skip (λ n. eqb n number) (names_change c heads) batch (batches_back events c) other ∙ never_named number c events (grind (arith, nat_tests))
never_named number c (event ∷ events) none = never_named number c events none

-- so that it is one exactly of those that are staged
pub staged_named : (number c : ℕ) (events : List Event) (branch : Branch) (base : List ℕ) (heads : List Head) → stages number events ≡ 0
    → list_any (λ n. eqb n number) (batches_back (gave (Stage number branch base heads) ∷ events) c) ≡ names_change c heads
staged_named number c events branch base heads none =
    let itself = (Decides-eqb number number).1 refl in
    let never = never_named number c events none in
    grind arith

-- the heads of known changes name them all, and no other
pub named_heads : (desk : DeskView) (c : ℕ) (changes : List ℕ) → ((n : ℕ) → list_any (eqb n) changes ≡ true → is_some (finite.get desk.changes n) ≡ true)
    → names_change c (filter_map (head_on desk) changes) ≡ list_any (eqb c) changes
named_heads desk c [] known = refl
named_heads desk c (first ∷ changes) known =
    let rest = named_heads desk c changes (λ n there. known n (or_right (eqb n first) (list_any (eqb n) changes) there)) in
    let there = known first (or_left _ _ ((Decides-eqb first first).1 refl)) in
    grind arith

-- AN ORDER TO LAND the running batch, when none is landing
pub land_rest : (events : List Event) (batch : Batch) (base commit : List ℕ) (c : ℕ) → Lands events None → Members events (Some batch)
    → rest_after (gave (Land batch.number base commit)) events c ≡ record (rest_back events c) { landing = list_any (eqb c) batch.changes }
land_rest events batch base commit c none members =
    λ i. record (rest_back events c) { landing = (list_any_same _ (λ n. eqb n batch.number) (λ n. test n (eqb n batch.number)) (batches_back events c) ∙ members c) i } where
      test : (n : ℕ) (b : Bool) → is_some (option_flatten (option_or (then_some b (Some commit)) (last_of (landing_said n) events))) ≡ b
      test n b = grind (arith, none n)

-- none is landing
pub not_landing_back : (events : List Event) (c : ℕ) → Lands events None → landing_back events c ≡ false
not_landing_back events c none = list_any_same _ (λ n. false) (λ n. ap is_some (none n)) (batches_back events c) ∙ list_any_never (batches_back events c)

-- the running batch is landing
pub landing_members : (events : List Event) (batch : Batch) (commit : List ℕ) (c : ℕ) → batch.stage ≡ stage.Landing commit → Lands events (Some batch) → Members events (Some batch)
    → landing_back events c ≡ list_any (eqb c) batch.changes
landing_members events batch commit c at all members =
    list_any_same _ (λ n. eqb n batch.number) (λ n. ap is_some (all n) ∙ test (eqb n batch.number)) (batches_back events c) ∙ members c where
      test : (b : Bool) → is_some (if b then commit_of batch.stage else None) ≡ b
      test b = grind (arith, at)

-- A NEW BASE
-- ends all landing
pub base_ends : (events : List Event) (base : List ℕ) → Lands (did (Other (Base base)) ∷ events) None
base_ends events base number = refl

-- on which nothing lands if nothing was landing
pub base_rest : (events : List Event) (base : List ℕ) (c : ℕ) → Lands events None → rest_after (did (Other (Base base))) events c ≡ rest_back events c
base_rest events base c none = λ i. record (rest_back events c) { landed = still i; landing = (not_landing_back (did (Other (Base base)) ∷ events) c (base_ends events base) ∙ sym (not_landing_back events c none)) i } where
  still : landed_back (did (Other (Base base)) ∷ events) c ≡ landed_back events c
  still = list_any_same _ (has_landed events) (λ n. ap (λ (o : Option (List ℕ)). are_same (Some base) o || has_landed events n) (none n)) (batches_back events c)

-- and the batch that was landing has landed if the base is its commit
pub base_landed : (events : List Event) (base : List ℕ) (batch : Batch) (commit : List ℕ) (c : ℕ) → batch.stage ≡ stage.Landing commit → Lands events (Some batch) → Members events (Some batch)
    → landed_back (did (Other (Base base)) ∷ events) c ≡ ((bytes_eq base commit && list_any (eqb c) batch.changes) || landed_back events c)
base_landed events base batch commit c at all members =
    list_any_same _ (λ n. (bytes_eq base commit && eqb n batch.number) || has_landed events n) (λ n. ap (λ (b : Bool). b || has_landed events n) (ap (are_same (Some base)) (all n) ∙ test (eqb n batch.number))) (batches_back events c)
    ∙ list_any_or (λ n. bytes_eq base commit && eqb n batch.number) (has_landed events) (batches_back events c)
    ∙ ap (λ (b : Bool). b || landed_back events c) (named (bytes_eq base commit)) where
      test : (b : Bool) → are_same (Some base) (if b then commit_of batch.stage else None) ≡ (bytes_eq base commit && b)
      test b = grind (arith, at)

      named : (b : Bool) → list_any (λ n. b && eqb n batch.number) (batches_back events c) ≡ (b && list_any (eqb c) batch.changes)
      named true = members c
      named false = list_any_never (batches_back events c)

-- A REFUSAL of the batch that is landing ends all landing, and lands nothing.
pub refused_ends : (events : List Event) (batch : Batch) → Lands events (Some batch) → Lands (did (Other (Refused batch.number)) ∷ events) None
refused_ends events batch all number = grind (arith, all number)
