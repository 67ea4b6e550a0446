-- A change keeps its priority over every act that is no deed on it.
use Rattle.std.proofs.Common.{◌≡◌, ℕ, pos, eqb, ◌||◌, Bool, true, false, List, Option, Some, None, Result, Ok, Err, refl, sym, ◌∙◌, ap, arith}
use Rattle.std.proofs.Math.Bool.{beq}
use Rattle.std.proofs.lemmas.Bool.{and_parts}
use Rattle.std.proofs.lemmas.Bool.Decides.{nat_tests}
use Rattle.std.specs.Cmp.{nat_cmp_total, signed_Decides}
use Rattle.std.specs.Option.{option_map_or}
use Rattle.std.specs.Ordering.{int_eq, nat_cmp}
use Rattle.gate_text.specs.Finite.{get-mapped}
use Rattle.gate_rules.specs.View.{told_at}
use Rattle.gate_queue.specs.Vocabulary.{SettingsView, SettingsFault, settings_of, DeskView, Look, Change, with_clock, Act, On, Other, Fact, Role, Settings, Base, Staged, Conflict, Status, Refused, Tick, StatusState, Batch, Branch, Staging, Trying, StageOf, Why, State}
use Rattle.gate_state.specs.State.{IsState, approved_on, priority_on}
use Rattle.gate_state.specs.declared.batch.Stage.TheVariants.{Landing}
use Rattle.gate_progress.specs.Halving.{leaves_alone}
use Rattle.gate_queue.specs.Machine.{accepted, after, acted, all_but, are_present, denial, done, ending, given_up, heads_told, is_good, lone_on, ordered_on, quiet, released, released_on, settled, to_land, told_as, under, unless_denied, with_desk, with_landing}
use Rattle.gate_queue.specs.Progress.{keeps_place}
use Rattle.gate_queue.specs.MayChange.{may_do, unless_denied as may_unless_denied}
use Rattle.gate_queue.proofs.Changes.{all_look, lone_same}
use Rattle.gate_queue.proofs.Choosing.{by_option, either_way}
use Rattle.gate_queue.proofs.States.{released_twice}
use Rattle.gate_queue.proofs.Told.{EachStep, told_so, timed_out_both_so}
use Rattle.gate_queue.proofs.Untouched.{untouched_law}
use Rattle.gate_state.specs.declared.reply.Why.TheVariants as why

module _ (change : ℕ) where
  abbrev Priced : DeskView → DeskView → Type 0
  Priced new old = priority_on new change ≡ priority_on old change

  -- NEW SETTINGS
  accepted_priced : (s : State) (read : Result SettingsView SettingsFault) → Priced (accepted s read).state.desk s.desk
  accepted_priced s (Err fault) = refl
  accepted_priced s (Ok settings) =
      either_way (λ o. Priced o.state.desk s.desk) (are_present s.desk settings) (quiet s) (under settings s) (λ present. refl)
      (λ new. let at = get-mapped nat_cmp (settled settings) nat_cmp_total s.desk.changes change in grind arith)

  -- A BATCH ENDS, is to land, or goes back
  given_up_priced : (branch : Branch) (c : Change) → (given_up branch c).priority ≡ c.priority
  given_up_priced Staging c = refl
  given_up_priced Trying c = refl

  ending_priced : (branch : Branch) (why : Why) (s : State) → Priced (ending branch why s).state.desk s.desk
  ending_priced branch why s =
      lone_same (given_up branch) s.desk (lone_on branch s) (λ (c : Change). c.priority) (pos 0) (given_up_priced branch) change

  released_priced : (base : Option (List ℕ)) (desk : DeskView) (running : Option Batch) → Priced (released_on base desk running) desk
  released_priced base desk None = refl
  released_priced base desk (Some batch) = at batch.stage where
    at : (stage : StageOf) → Priced (released_on base desk (Some (record batch { stage = stage }))) desk
    at (Landing commit) =
        let there = ap (λ (l : Look). l.change change) (all_look (released base commit) (released_twice base commit) batch.changes desk)
        in grind arith
    at other = refl

  landing_priced : (batch : Batch) (s : State) → Priced (to_land batch s).state.desk s.desk
  landing_priced batch s =
      let there = ap (λ (l : Look). l.change change) (all_look (with_landing true) (λ c. refl) batch.changes s.desk) in grind arith

  heads_priced : (commit name : List ℕ) (said : StatusState) (s : State) → Priced (heads_told commit name said s).desk s.desk
  heads_priced commit name said s =
      let at = get-mapped nat_cmp (told_at commit name (is_good said)) nat_cmp_total s.desk.changes change in grind arith

  -- each step of a status and of a tick
  pub pricing : EachStep (λ few s o. Priced o.state.desk s.desk)
  pricing = record {
    nothing = λ few s. refl;
    both = λ s first next one other. other ∙ one;
    report = λ branch name report s required next rest. rest;
    fail = λ branch cause s ends stays. ending_priced branch (told_as branch cause) s;
    pass = λ s stays. ending_priced Trying why.TryPassed s;
    land = λ s batch runs passes. landing_priced batch s;
  }

  fact_priced : (s : State) (fact : Fact) → Priced (done s (Other fact)).state.desk s.desk
  fact_priced s (Role person role) = refl
  fact_priced s (Settings text) = accepted_priced s (settings_of text)
  fact_priced s (Base commit) = released_priced (Some commit) s.desk s.queue.staging.running
  fact_priced s (Staged batch commit) = refl
  fact_priced s (Conflict batch) = ending_priced (ordered_on batch s.queue) (told_as (ordered_on batch s.queue) why.Conflict) s
  fact_priced s (Status commit name said) =
      told_so pricing commit name said (heads_told commit name said s) ∙ heads_priced commit name said s
  fact_priced s (Refused batch) = released_priced None s.desk s.queue.staging.running
  fact_priced s (Tick now) = timed_out_both_so pricing now (with_desk s (with_clock s.desk now))

  pub after_priced : (s : State) (act : Act) → IsState s → leaves_alone change s act ≡ true → Priced (after s act).desk s.desk
  after_priced s (Other fact) is left =
      by_option (λ rule. Priced (unless_denied rule s (acted s (Other fact)).state).desk s.desk) (fact_priced s fact) (λ rule. refl)
      (denial s (Other fact))
  after_priced s (On other deed) is left = by (eqb change other) refl where
    by : (here : Bool) → eqb change other ≡ here → Priced (after s (On other deed)).desk s.desk
    by false elsewhere =
        let same = by_option (λ rule. (may_unless_denied rule (may_do s (On other deed))).change change ≡ false)
        (grind (arith, nat_tests, elsewhere)) (λ rule. refl) (denial s (On other deed)) in
        ap (λ (o : Option Change). option_map_or (λ (c : Change). c.priority) o (pos 0))
        ((untouched_law s (On other deed) is).changes change same)
    by true at =
        let t = after s (On other deed) in
        let it : all_but change other ≡ false = grind (arith, nat_tests, at) in
        let keeps = and_parts (beq (approved_on s.desk change) (approved_on t.desk change))
        (int_eq (priority_on s.desk change) (priority_on t.desk change)) (ap (λ (b : Bool). b || keeps_place s change t) (sym it) ∙ left) in
        sym ((signed_Decides (priority_on s.desk change) (priority_on t.desk change)).0 keeps.1)
