-- Where the bot stands after more was told, that the acts of that may come, and that numbers which are left in the end were left before.
use Rattle.std.proofs.Common.{◌≡◌, ◌≤◌, ◌+◌, ℕ, nat_lt, Bool, true, false, ◌||◌, cond, List, [], ◌∷◌, ◌++◌, Option, Some, None, refl, sym, ◌∙◌, ap, append_assoc, arith}
use Rattle.std.proofs.lemmas.Bool.Decides.{nat_tests}
use Rattle.std.proofs.lemmas.List.Elements.{All-head, All-tail}
use Rattle.std.specs.List.{All}
use Rattle.gate_text.specs.Limits.{KeepsLimits}
use Rattle.gate_text.specs.Reading.{comment_says}
use Rattle.gate_deliveries.proofs.ActLimits.{all_keep, one_keeps}
use Rattle.gate_deliveries.specs.Acts.{EventKeepsLimits, acts_of_event}
use Rattle.gate_deliveries.specs.declared.delivery.Event.{Event as Telling}
use Rattle.gate_deliveries.specs.declared.delivery.Event.TheVariants as telling
use Rattle.gate_guard.specs.Knowing.{unless_full}
use Rattle.gate_guard.specs.World.{Checking, KeepsPremise, Merging, Step, TellsTruly, main_after, moved, pushed, told, told_in}
use Rattle.gate_guard_progress.specs.Standing.{LawOfAnyTelling, LawOfStanding, acts_after, acts_told, any_check, any_merge, state_after, tell}
use Rattle.gate_queue.proofs.Growing.{queue_grows}
use Rattle.gate_queue.proofs.States.{empty_is_state, still_states}
use Rattle.gate_queue.specs.Machine.{acted, after, denial, meaning, unless_denied}
use Rattle.gate_queue.specs.Progress.{CanCome, after_all}
use Rattle.gate_queue.specs.Vocabulary.{Act, Fact, Happened, On, Other, Rule, State, Success, look}
use Rattle.gate_state.specs.Acts.{ActKeepsLimits, FactKeepsLimits}
use Rattle.gate_state.specs.Room.{is_full}
use Rattle.gate_state.specs.State.{IsState}
use Rattle.gate_state.specs.declared.act.Fact.TheVariants as fact
use Rattle.gate_store.proofs.Telling.{after_all-append}
use Rattle.gate_store.specs.Run.{acts_meet_full}

-- WHERE IT STANDS
pub state_told : (before : List Step) (tellings : List Telling) → state_after (tell tellings before) ≡ after_all (state_after before) (acts_after before tellings)
state_told before [] = refl
state_told before (telling ∷ later) =
    let s = state_after before in
    let these = unless_full s (acts_of_event telling) in
    state_told (told telling ∷ before) later ∙ sym (after_all-append s these (acts_told (after_all s these) later))

pub main_told : (first : List ℕ) (before : List Step) (tellings : List Telling) → main_after first (tell tellings before) ≡ main_after first before
main_told first before [] = refl
main_told first before (telling ∷ later) = main_told first (told telling ∷ before) later

-- the acts of two lists
pub acts_told-append : (s : State) (these those : List Telling) → acts_told s (these ++ those) ≡ acts_told s these ++ acts_told (after_all s (acts_told s these)) those
acts_told-append s [] those = refl
acts_told-append s (telling ∷ later) those =
    let acts = unless_full s (acts_of_event telling) in
    let t = after_all s acts in
    let rest = acts_told t later in
    ap (λ (more : List Act). acts ++ more) (acts_told-append t later those)
    ∙ sym (append_assoc acts rest (acts_told (after_all t rest) those))
    ∙ ap (λ (u : State). (acts ++ rest) ++ acts_told u those) (sym (after_all-append s acts rest))

-- NUMBERS that are left later were left before.
after_grows : (s : State) (act : Act) → s.queue.next ≤ (after s act).queue.next
after_grows s act = by (denial s act) where
  by : (rule : Option Rule) → s.queue.next ≤ (unless_denied rule s (acted s act).state).queue.next
  by None = (queue_grows s (meaning (look s.desk) act)).next
  by (Some rule) = omega arith

all_grow : (s : State) (acts : List Act) → s.queue.next ≤ (after_all s acts).queue.next
all_grow s [] = omega arith
all_grow s (act ∷ acts) = let one = after_grows s act in let rest = all_grow (after s act) acts in omega arith

room_before : (s t : State) → s.queue.next ≤ t.queue.next → is_full t.queue ≡ false → is_full s.queue ≡ false
room_before s t grows room = grind (arith, nat_tests)

pub told_room : (before : List Step) (tellings : List Telling) → is_full (state_after (tell tellings before)).queue ≡ false → is_full (state_after before).queue ≡ false
told_room before tellings room =
    let s = state_after before in
    let acts = acts_after before tellings in
    room_before s (after_all s acts) (all_grow s acts) (sym (ap (λ (t : State). is_full t.queue) (state_told before tellings)) ∙ room)

-- ONE ACT, if numbers are left
pub one_act : (s : State) (act : Act) → is_full s.queue ≡ false → unless_full s (act ∷ []) ≡ act ∷ []
one_act s act room = ap (λ (full : Bool). cond (full || false) [] (act ∷ [])) room

-- WHAT IS TRUE in the end was true before.
module _ (joins : Merging) (says : Checking) (first : List ℕ) where
  pub keeps_before : (before : List Step) (tellings : List Telling) → KeepsPremise joins says first (tell tellings before) → KeepsPremise joins says first before
  keeps_before before [] keeps = keeps
  keeps_before before (telling ∷ later) keeps = (keeps_before (told telling ∷ before) later keeps).1

-- ACTS MAY COME that keep their limits and meet no full gate.
pub neither : (a b : Bool) → (a || b) ≡ false → (a ≡ false) × (b ≡ false)
neither false b none = (refl, none)
neither true b none = cc none

room_for : (n : ℕ) → nat_lt 9_000_000_000_000_000 (n + 4) ≡ false → n + 4 ≤ 9_000_000_000_000_000
room_for n room = grind (arith, nat_tests)

acts_can_come : (s : State) (acts : List Act) → All ActKeepsLimits acts → acts_meet_full s acts ≡ false → CanCome s acts
acts_can_come s [] keep room = tt
acts_can_come s (act ∷ acts) keep room =
    let rooms = neither (is_full s.queue) (acts_meet_full (after s act) acts) room in
    (room_for s.queue.next rooms.0, All-head ActKeepsLimits act acts keep, acts_can_come (after s act) acts (All-tail ActKeepsLimits act acts keep) rooms.1)

unless_full_can_come : (s : State) (acts : List Act) → All ActKeepsLimits acts → CanCome s (unless_full s acts)
unless_full_can_come s acts keep = by (acts_meet_full s acts) refl where
  by : (full : Bool) → acts_meet_full s acts ≡ full → CanCome s (cond full [] acts)
  by true room = tt
  by false room = acts_can_come s acts keep room

both_can_come : (s : State) (acts others : List Act) → CanCome s acts → CanCome (after_all s acts) others → CanCome s (acts ++ others)
both_can_come s [] others can rest = rest
both_can_come s (act ∷ acts) others (room, limits, can) rest = (room, limits, both_can_come (after s act) acts others can rest)

-- BY THE LIMITS of what comments say, and of the clock
module _ (limits : (text : List ℕ) → All KeepsLimits (comment_says text)) (joins : Merging) (says : Checking) where
  fact_keeps : (earlier : List Telling) (this : Fact) → TellsTruly joins says earlier (telling.Other this) → FactKeepsLimits this
  fact_keeps earlier (fact.Tick now) so = so
  fact_keeps earlier this so = tt

  event_keeps : (earlier : List Telling) (event : Telling) → TellsTruly joins says earlier event → All ActKeepsLimits (acts_of_event event)
  event_keeps earlier (telling.Comment change person text) so = all_keep change person (comment_says text) (limits text)
  event_keeps earlier (telling.On change changed) so = one_keeps (On change (Happened changed)) tt
  event_keeps earlier (telling.Other this) so = one_keeps (Other this) (fact_keeps earlier this so)

  one_can_come : (before : List Step) (telling : Telling) → TellsTruly joins says (told_in before) telling
      → CanCome (state_after before) (unless_full (state_after before) (acts_of_event telling))
  one_can_come before telling so = unless_full_can_come (state_after before) (acts_of_event telling) (event_keeps (told_in before) telling so)

  module _ (first : List ℕ) where
    pub told_can_come : (before : List Step) (tellings : List Telling) → KeepsPremise joins says first (tell tellings before) → CanCome (state_after before) (acts_after before tellings)
    told_can_come before [] keeps = tt
    told_can_come before (telling ∷ later) keeps =
        let s = state_after before in
        let these = unless_full s (acts_of_event telling) in
        let true_so = (keeps_before joins says first (told telling ∷ before) later keeps).0 in
        both_can_come s these (acts_told (after_all s these) later) (one_can_come before telling true_so) (told_can_come (told telling ∷ before) later keeps)

    pub is_state : (steps : List Step) → KeepsPremise joins says first steps → IsState (state_after steps)
    is_state [] keeps = empty_is_state 1 (omega arith) (omega arith)
    is_state (told telling ∷ before) (this, rest) =
        still_states (state_after before) (unless_full (state_after before) (acts_of_event telling)) (is_state before rest) (one_can_come before telling this)
    is_state (moved batch from to ∷ before) (this, rest) = is_state before rest
    is_state (pushed to ∷ before) (this, rest) = is_state before rest

pub standing_law : ((text : List ℕ) → All KeepsLimits (comment_says text)) → LawOfStanding
standing_law limits first before tellings = record {
  state = state_told before tellings;
  main = main_told first before tellings;
  can_come = λ joins says keeps.
      (is_state limits joins says first before (keeps_before joins says first before tellings keeps), told_can_come limits joins says first before tellings keeps);
}

-- IF NOTHING IS SUPPOSED
true_fact : (earlier : List Telling) (this : Fact) → FactKeepsLimits this → TellsTruly any_merge any_check earlier (telling.Other this)
true_fact earlier (fact.Tick now) keeps = keeps
true_fact earlier (fact.Staged batch commit) keeps = λ branch base heads among. refl
true_fact earlier (fact.Status commit name Success) keeps = λ batch was. refl
true_fact earlier this keeps = tt

true_so : (earlier : List Telling) (event : Telling) → EventKeepsLimits event → TellsTruly any_merge any_check earlier event
true_so earlier (telling.Other this) keeps = true_fact earlier this keeps
true_so earlier event keeps = tt

pub any_telling_law : LawOfAnyTelling
any_telling_law first before [] keeps limits = keeps
any_telling_law first before (telling ∷ later) keeps limits =
    any_telling_law first (told telling ∷ before) later (true_so (told_in before) telling (All-head EventKeepsLimits telling later limits), keeps) (All-tail EventKeepsLimits telling later limits)
