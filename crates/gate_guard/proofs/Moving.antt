-- Each move that a host makes is right, by where the facts of the history come from.
use Rattle.std.proofs.Common.{◌≡◌, ◌≢◌, ℕ, ◌≤◌, true, false, eqb, List, [], ◌∷◌, ◌++◌, Option, None, refl, sym, ◌∙◌, ap, subst, inl, inr, append_assoc, unwrap_or, arith}
use Rattle.std.proofs.lemmas.Bool.Decides.{Decides-eqb}
use Rattle.std.specs.Bool.{then_some}
use Rattle.std.specs.List.{All, Contains}
use Rattle.std.specs.Option.{option_or}
use Rattle.gate_deliveries.specs.declared.delivery.Event.{Event as Telling}
use Rattle.gate_deliveries.specs.declared.delivery.Event.TheVariants as telling
use Rattle.gate_guard.specs.Knowing.{events_after, known_after}
use Rattle.gate_guard.specs.Moves.{HasSucceeded, IsRightMove, LawOfMoves, MovesRightly}
use Rattle.gate_guard.specs.World.{Checking, IsMergeFor, TellsTruly, KeepsPremise, Merging, Step, commits_of, told_in, moved, told, pushed}
use Rattle.gate_queue.specs.History.{Event, IsReadyToLand, Legal, did, gave, heads_back, heads_said, is_order, is_stage_of, last_of, stages}
use Rattle.gate_queue.specs.Machine.{empty_state}
use Rattle.gate_queue.specs.Vocabulary.{Branch, Head, Land, Notice, Other, Stage, Staged, Staging, Status, Success}
use Rattle.gate_queue.specs.Words.{LawOfTests, Succeeded, WasTested}
use Rattle.gate_store.specs.Headline.{LawOfTelling}
use Rattle.gate_guard.proofs.Learning.{IsTraced, traced_next}
use Rattle.gate_guard.proofs.Lists.{EachOf, contains_at, contains_cases, contains_none, count_rest, each_at, each_behind, each_found, first_fails}
use Rattle.gate_guard.proofs.Tracing.{CameOf, Traced}

-- WORDS OF THE HISTORY
pub same_number : (number : ℕ) → eqb number number ≡ true
same_number number = (Decides-eqb number number).1 refl

-- a batch that is ordered to be staged once has these heads
silent_unless : (number : ℕ) (event : Event) (before : List Event) → is_order (is_stage_of number) event ≡ false → heads_said number event before ≡ None
silent_unless number (gave (Stage batch branch base heads)) before fails = ap (λ b. then_some b heads) fails
silent_unless number (gave (Land batch base commit)) before fails = grind arith
silent_unless number (gave (Notice change why)) before fails = refl
silent_unless number (did act) before fails = refl

pub heads_so : (number : ℕ) (branch : Branch) (base : List ℕ) (heads : List Head) (events : List Event) → stages number events ≤ 1 → Contains events (gave (Stage number branch base heads)) → heads_back events number ≡ heads
heads_so number branch base heads [] once among = absurd (contains_none _ among)
heads_so number branch base heads (event ∷ events) once among = elim (contains_cases event (gave (Stage number branch base heads)) events among) [
  | inl same ↦
      ap (λ (first : Event). heads_back (first ∷ events) number) same
      ∙ ap (λ b. unwrap_or (option_or (then_some b heads) (last_of (heads_said number) events)) []) (same_number number)
  | inr behind ↦
      let fails = first_fails (is_order (is_stage_of number)) event (gave (Stage number branch base heads)) events once behind (same_number number) in
      ap (λ (said : Option (List Head)). unwrap_or (option_or said (last_of (heads_said number) events)) []) (silent_unless number event events fails)
      ∙ heads_so number branch base heads events (count_rest (is_order (is_stage_of number)) event events 1 once) behind
]

-- THE PREMISE, of what is told alone
abbrev pub TrueThen : Merging → Checking → Telling → List Telling → Type 0
TrueThen joins says event earlier = TellsTruly joins says earlier event

pub all_true : (joins : Merging) (says : Checking) (first : List ℕ) (steps : List Step) → KeepsPremise joins says first steps → EachOf (TrueThen joins says) (told_in steps)
all_true joins says first [] keeps = tt
all_true joins says first (told event ∷ before) (this, rest) = (this, all_true joins says first before rest)
all_true joins says first (moved batch from to ∷ before) (this, rest) = all_true joins says first before rest
all_true joins says first (pushed to ∷ before) (this, rest) = all_true joins says first before rest

module _ (law : LawOfTelling) (tests : LawOfTests) (empty : Legal [] (empty_state 1)) (joins : Merging) (says : Checking) where
  pub all_traced : (all : List Telling) → EachOf (TrueThen joins says) all → IsTraced all (known_after all)
  all_traced [] each = record { legal = empty; traced = tt }
  all_traced (event ∷ earlier) (this, rest) = traced_next law joins says earlier event (all_traced earlier rest) this

  -- WHEN THE ORDER TO LAND CAME
  module _ (until : List Telling) (all : EachOf (TrueThen joins says) until) (batch : ℕ) (from to : List ℕ) (once : stages batch (events_after until) ≤ 1)
      (tested : WasTested (events_after until) batch from to) where
    abbrev events : List Event
    events = events_after until

    abbrev ordered : Event
    ordered = gave (Stage batch Staging from tested.heads)

    abbrev staged : Event
    staged = did (Other (Staged batch to))

    abbrev older : List Event
    older = tested.between ++ ordered ∷ tested.before

    cut : events ≡ tested.after ++ staged ∷ older
    cut = tested.ordered ∙ ap (λ (part : List Event). part ++ ordered ∷ tested.before) tested.staged ∙ append_assoc tested.after (staged ∷ tested.between) (ordered ∷ tested.before)

    traced : EachOf (Traced until) (tested.after ++ staged ∷ older)
    traced = subst (EachOf (Traced until)) cut (all_traced until all).traced

    pub some : tested.heads ≢ []
    some = each_at (Traced until) tested.later tested.before ordered (subst (EachOf (Traced until)) tested.ordered (all_traced until all).traced)

    -- the merge that was told, and was asked for
    merge : CameOf until (Staged batch to) older
    merge = each_at (Traced until) tested.after older staged traced

    merge_true : IsMergeFor joins older batch to
    merge_true =
        let was = merge.was in
        subst (λ (then_events : List Event). IsMergeFor joins then_events batch to) merge.at
        (each_at (TrueThen joins says) was.later was.earlier (telling.Other (Staged batch to)) (subst (EachOf (TrueThen joins says)) was.cut all))

    pub merged : joins from (commits_of tested.heads) to ≡ true
    merged = merge_true Staging from tested.heads (contains_at tested.between ordered tested.before)

    pub heads_are : heads_back events batch ≡ tested.heads
    heads_are = heads_so batch Staging from tested.heads events once (subst (λ (these : List Event). Contains these ordered) (sym tested.ordered) (contains_at tested.later ordered tested.before))

    -- A status behind the staging was told after it.
    told_after : (name : List ℕ) (between : List Event) → CameOf until (Status to name Success) (between ++ staged ∷ older) → HasSucceeded says until batch to name
    told_after name between came =
        let was = came.was in
        let this = telling.Other (Status to name Success) in
        let then_true = each_behind (TrueThen joins says) (was.later ++ this ∷ []) was.earlier
        (subst (EachOf (TrueThen joins says)) (was.cut ∙ sym (append_assoc was.later (this ∷ []) was.earlier)) all) in
        let made = each_at (Traced was.earlier) between older staged (subst (EachOf (Traced was.earlier)) came.at (all_traced was.earlier then_true).traced) in
        let success = each_at (TrueThen joins says) was.later was.earlier this (subst (EachOf (TrueThen joins says)) was.cut all) in
        record { success = was; staged = made.was; said = success batch made.was }

    pub checked : All (HasSucceeded says until batch to) tested.settings.status
    checked k name below = said (tested.succeeded k name below) where
      said : {status : List ℕ} → Succeeded tested.after to status → HasSucceeded says until batch to status
      said {status} success =
          let reported = did (Other (Status to status Success)) in
          let at : tested.after ++ staged ∷ older ≡ success.later ++ reported ∷ (success.before ++ staged ∷ older) =
          ap (λ (part : List Event). part ++ staged ∷ older) success.success ∙ append_assoc success.later (reported ∷ success.before) (staged ∷ older) in
          told_after status success.before (each_at (Traced until) success.later (success.before ++ staged ∷ older) reported (subst (EachOf (Traced until)) at traced))

  right_move : (all : List Telling) (batch : ℕ) (from to : List ℕ) → EachOf (TrueThen joins says) all → Contains (events_after all) (gave (Land batch from to)) → IsRightMove joins says all batch from to
  right_move all batch from to each among =
      let (before, (came, based)) = each_found (Traced all) (events_after all) (gave (Land batch from to)) among (all_traced all each).traced in
      let then_true = each_behind (TrueThen joins says) came.later came.until (subst (EachOf (TrueThen joins says)) came.cut each) in
      let tested = tests (events_after came.until) batch from to came.right.tested in
      record {
        later = came.later;
        until = came.until;
        at = came.cut;
        name = came.name;
        earlier = came.earlier;
        last = came.last;
        new = came.new;
        ordered = came.ordered;
        some = some came.until then_true batch from to came.once tested;
        merged = merged came.until then_true batch from to came.once tested;
        ready = subst (All (IsReadyToLand (events_after came.until) batch)) (heads_are came.until then_true batch from to came.once tested) came.right.ready;
        tested = tested;
        checked = checked came.until then_true batch from to came.once tested;
      }

  moves_so : (first : List ℕ) (steps : List Step) → KeepsPremise joins says first steps → MovesRightly joins says first steps
  moves_so first [] keeps = tt
  moves_so first (told event ∷ before) (this, rest) = moves_so first before rest
  moves_so first (moved batch from to ∷ before) ((among, at), rest) = (right_move (told_in before) batch from to (all_true joins says first before rest) among, at, moves_so first before rest)
  moves_so first (pushed to ∷ before) (this, rest) = moves_so first before rest

pub moves_law : LawOfTelling → LawOfTests → Legal [] (empty_state 1) → LawOfMoves
moves_law law tests empty joins says first steps keeps = moves_so law tests empty joins says first steps keeps
