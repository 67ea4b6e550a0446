-- A change stays approved until it lands, if no batch that fails has it alone.
use Rattle.std.proofs.Common.{◌≡◌, ℕ, eqb, Bool, true, false, not, ◌||◌, List, [], ◌∷◌, Option, Some, None, Result, is_some, refl, sym, ◌∙◌, ap, subst, arith}
use Rattle.std.proofs.lemmas.Bool.Decides.{nat_tests, Decides-eqb}
use Rattle.std.specs.Cmp.{nat_cmp_total}
use Rattle.std.proofs.Math.Bool.{beq}
use Rattle.std.specs.FinMap as finite
use Rattle.std.specs.List.{list_any}
use Rattle.std.specs.Option.{option_map_or}
use Rattle.std.specs.Ordering.{nat_cmp}
use Rattle.gate_text.specs.Finite.{get-mapped}
use Rattle.gate_rules.specs.Rules.{is_landed, is_landed_phase}
use Rattle.gate_rules.specs.View.{look, told_at}
use Rattle.gate_queue.specs.Vocabulary.{Known, Said, last_command, SettingsView, SettingsFault, settings_of, Rule, Deed, DeskView, Look, Change, with_clock, without_approval, is_required, Act, On, Other, Fact, Role, Settings, Base, Staged, Conflict, Status, Refused, Tick, StatusState, Success, Pending, Batch, Branch, Staging, Trying, Report, StageOf, Why, State}
use Rattle.gate_state.specs.Queue as specs
use Rattle.gate_state.specs.Queue.{lane_of}
use Rattle.gate_state.specs.State.{IsState, approved_on}
use Rattle.gate_state.specs.declared.batch.Report.TheVariants as report
use Rattle.gate_state.specs.declared.batch.Stage.TheVariants.{Landing}
use Rattle.gate_state.specs.declared.reply.Why.TheVariants as why
use Rattle.gate_queue.specs.History.{is_bad}
use Rattle.gate_progress.specs.Halving.{is_against, is_in, is_spared_by}
use Rattle.gate_queue.specs.Progress.{fails}
use Rattle.gate_queue.specs.Machine.{about, after, acted, broken, effect, all_altered, altered, denial, done, ending, failing, goes_on, has_overdue, has_ordered, has_passed, has_running, has_staged, heads_told, if_passed, is_good, lone, lone_altered, meaning, missing, on_both, passing, quiet, released, released_at, released_on, repeated, timed_out, told_as, told_of, told_on, unless_denied, with_desk, with_landing, with_queue, without_try}
use Rattle.gate_queue.specs.MayChange.{may_do, of_text, unless_denied as may_unless_denied}
use Rattle.gate_queue.proofs.Changes.{altered_here, altered_look, lone_at, opened_here}
use Rattle.gate_queue.proofs.Choosing.{by_option, either_way}
use Rattle.gate_queue.proofs.Meaning.{meaning_allowed, means}
use Rattle.gate_queue.proofs.Untouched.{untouched_law}
use Rattle.gate_queue.proofs.Wording.{none_both}

-- STANDING: approved, or landed
abbrev stands : Change → Bool
stands c = is_some c.approved || is_landed_phase c.phase

module _ (change : ℕ) where
  abbrev pub Stands : DeskView → Type 0
  Stands desk = option_map_or stands (finite.get desk.changes change) false ≡ true

  pub stands_is : (desk : DeskView) → option_map_or stands (finite.get desk.changes change) false ≡ (approved_on desk change || is_landed (look desk) change)
  stands_is desk = grind arith

  -- ALTERATIONS that leave each change that stands
  module _ (alter : Change → Change) (leaves : (c : Change) → stands c ≡ true → stands (alter c) ≡ true) where
    altered_stands : (desk : DeskView) (number : ℕ) → Stands desk → Stands (altered desk number alter)
    altered_stands desk number is = let at = ap (λ (l : Look). l.change change) (altered_look desk number alter) in grind (arith, leaves)

    all_stand : (desk : DeskView) (changes : List ℕ) → Stands desk → Stands (all_altered alter desk changes)
    all_stand desk [] is = is
    all_stand desk (first ∷ changes) is = all_stand (altered desk first alter) changes (altered_stands desk first is)

    lone_stands : (desk : DeskView) (one : Option ℕ) → Stands desk → Stands (lone_altered alter desk one)
    lone_stands desk one is = by_option (λ one. Stands (lone_altered alter desk one)) is (λ number. altered_stands desk number is) one

  -- A BATCH ENDS: if it is on `Staging`, it hasn't the change alone.
  abbrev pub is_its_lone : Option Batch → Bool
  is_its_lone running = option_map_or (λ one. eqb change one) (lone running) false

  abbrev pub is_alone : Branch → State → Bool
  is_alone Staging s = is_its_lone s.queue.staging.running
  is_alone Trying s = false

  ending_stands : (branch : Branch) (why : Why) (s : State) → is_alone branch s ≡ false → Stands s.desk → Stands (ending branch why s).state.desk
  ending_stands Staging why s may is = let at = lone_at without_approval s.desk (lone s.queue.staging.running) change in grind arith
  ending_stands Trying why s may is = lone_stands without_try (λ c so. so) s.desk (lone s.queue.trying.running) is

  -- A STATUS
  passed_stands : (branch : Branch) (s : State) (running : Option Batch) → Stands s.desk → Stands (if_passed branch s running).state.desk
  passed_stands branch s None is = is
  passed_stands branch s (Some batch) is =
      either_way (λ o. Stands o.state.desk) (has_passed s.desk.settings batch.stage) (passing branch batch s) (quiet s) (λ passes. by branch) (λ fails. is) where
        by : (b : Branch) → Stands (passing b batch s).state.desk
        by Staging = all_stand (with_landing true) (λ c so. so) s.desk batch.changes is
        by Trying = ending_stands Trying why.TryPassed s refl is

  told_stands : (commit name : List ℕ) (said : StatusState) (branch : Branch) (s : State) → (is_bad said ≡ true → has_staged commit (lane_of branch s.queue) ≡ true → is_alone branch s ≡ false)
      → Stands s.desk → Stands (told_on commit name said branch s).state.desk
  told_stands commit name said branch s may is =
      either_way (λ o. Stands o.state.desk) (has_staged commit (lane_of branch s.queue)) (told_of branch name said s) (quiet s) (λ there. by said (λ bad. may bad there)) (λ elsewhere. is) where
        goes : (r : Report) → Stands (goes_on branch name r s).state.desk
        goes r = let next = with_queue s (specs.reported branch name r s.queue) in passed_stands branch next (lane_of branch next.queue).running is

        by : (state : StatusState) → (is_bad state ≡ true → is_alone branch s ≡ false) → Stands (told_of branch name state s).state.desk
        by Success may = goes report.Success
        by Pending may = goes report.Pending
        by bad may = ending_stands branch (told_as branch (why.Failed name)) s (may refl) is

  heads_stand : (commit name : List ℕ) (said : StatusState) (s : State) → Stands s.desk → Stands (heads_told commit name said s).desk
  heads_stand commit name said s is = let at = get-mapped nat_cmp (told_at commit name (is_good said)) nat_cmp_total s.desk.changes change in grind arith

  -- WHAT RUNS GOES BACK
  back_stands : (base : Option (List ℕ)) (desk : DeskView) (running : Option Batch) → Stands desk → Stands (released_on base desk running)
  back_stands base desk None is = is
  back_stands base desk (Some batch) is = at batch.stage where
    at : (stage : StageOf) → Stands (released_at base desk batch.changes stage)
    at (Landing commit) = all_stand (released base commit) (λ c so. grind arith) desk batch.changes is
    at other = is

  -- ANY ACT that is no deed on it, and no settings
  timed_out_stands : (now : ℕ) (branch : Branch) (s : State) → (has_overdue now s.desk.settings (lane_of branch s.queue) ≡ true → is_alone branch s ≡ false) → Stands s.desk
      → Stands (timed_out now branch s).state.desk
  timed_out_stands now branch s may is =
      either_way (λ o. Stands o.state.desk) (has_overdue now s.desk.settings (lane_of branch s.queue)) (failing branch why.TimedOut s) (quiet s)
      (λ overdue. ending_stands branch (told_as branch why.TimedOut) s (may overdue) is) (λ timely. is)

  -- an act that doesn't touch it
  untouched_stands : (s : State) (act : Act) → IsState s → (may_do s act).change change ≡ false → Stands s.desk → Stands (after s act).desk
  untouched_stands s act state beside is =
      let left = by_option (λ rule. (may_unless_denied rule (may_do s act)).change change ≡ false) beside (λ rule. refl) (denial s act) in
      ap (λ (o : Option Change). option_map_or stands o false) ((untouched_law s act state).changes change left) ∙ is

  text_spares : (s : State) (read : Result SettingsView SettingsFault) → not (is_against s.desk change read) ≡ true → (of_text s read).change change ≡ false
  text_spares s read spared = grind (arith, spared)

  fact_stands : (s : State) (fact : Fact) → IsState s → is_spared_by change s (Other fact) ≡ true → (fails s (Other fact) ≡ true → is_alone Staging s ≡ false) → denial s (Other fact) ≡ None → Stands s.desk
      → Stands (done s (Other fact)).state.desk
  fact_stands s (Role person role) state spared may allowed is = is
  fact_stands s (Settings text) state spared may allowed is =
      subst (λ (rule : Option Rule). Stands (unless_denied rule s (acted s (Other (Settings text))).state).desk) allowed (untouched_stands s (Other (Settings text)) state (text_spares s (settings_of text) spared) is)
  fact_stands s (Base commit) state spared may allowed is = back_stands (Some commit) s.desk s.queue.staging.running is
  fact_stands s (Staged batch commit) state spared may allowed is = is
  fact_stands s (Conflict batch) state spared may allowed is =
      either_way (λ branch. Stands (failing branch why.Conflict s).state.desk) (has_ordered batch s.queue.staging) Staging Trying
      (λ there. ending_stands Staging why.Conflict s (may there) is) (λ elsewhere. ending_stands Trying why.TryFailed s refl is)
  fact_stands s (Status commit name said) state spared may allowed is =
      let t = heads_told commit name said s in
      let one = told_on commit name said in
      either_way (λ o. Stands o.state.desk) (is_required s.desk.settings name) (on_both one t) (quiet t)
      (λ required. told_stands commit name said Trying (one Staging t).state (λ bad there. refl)
      (told_stands commit name said Staging t (λ bad there. may (grind (arith, required, bad, there))) (heads_stand commit name said s is)))
      (λ other. heads_stand commit name said s is)
  fact_stands s (Refused batch) state spared may allowed is = back_stands None s.desk s.queue.staging.running is
  fact_stands s (Tick now) state spared may allowed is =
      let t = with_desk s (with_clock s.desk now) in
      timed_out_stands now Trying (timed_out now Staging t).state (λ overdue. refl) (timed_out_stands now Staging t (λ overdue. may (grind (arith, overdue, allowed))) is)

  -- A deed that leaves its approval: on what has landed it leaves that, too.
  deed_stands : (s : State) (deed : Deed) → broken (look s.desk) (On change deed) ≡ None → beq (approved_on s.desk change) (approved_on (about s change deed).state.desk change) ≡ true → Stands s.desk → Stands (effect s.desk change deed)
  deed_stands s deed allowed left is = grind (arith, λ (alter : Change → Change). altered_here s.desk change alter, λ (author head : List ℕ). opened_here s.desk change author head, left, allowed)

  -- as it is meant
  itself_stands : (s : State) (deed : Deed) → beq (approved_on s.desk change) (approved_on (after s (On change deed)).desk change) ≡ true → Stands s.desk → Stands (after s (On change deed)).desk
  itself_stands s deed left is =
      by_option (λ rule. denial s act ≡ rule → lets (unless_denied rule s (acted s act).state)) meant (λ rule denied left. is) (denial s act) refl left where
        act : Act
        act = On change deed

        -- what leaves the approval leaves what stands
        lets : State → Type 0
        lets t = beq (approved_on s.desk change) (approved_on t.desk change) ≡ true → Stands t.desk

        allows : Act → Type 0
        allows a = broken (look s.desk) a ≡ None → lets (done s a).state

        meant : denial s act ≡ None → lets (acted s act).state
        meant allowed =
            means allows (look s.desk) act (λ holds so. deed_stands s deed holds so is)
            (λ n person at. let same : change ≡ n = cc at in
            subst (λ c. allows (On c (Said person (Known (repeated (last_command (look s.desk) n)))))) same (λ holds so. deed_stands s (Said person (Known (repeated (last_command (look s.desk) n)))) holds so is))
            (none_both (missing s (meaning (look s.desk) act)) (broken (look s.desk) (meaning (look s.desk) act)) (meaning_allowed s act allowed)).1

  pub after_stands : (s : State) (act : Act) → IsState s → is_spared_by change s act ≡ true → (fails s act ≡ true → is_alone Staging s ≡ false) → Stands s.desk → Stands (after s act).desk
  after_stands s (On other deed) state spared may is = by (eqb change other) refl where
    by : (here : Bool) → eqb change other ≡ here → Stands (after s (On other deed)).desk
    by false elsewhere = untouched_stands s (On other deed) state (grind (arith, nat_tests, elsewhere)) is
    by true at = let same : change ≡ other = (Decides-eqb change other).0 at in
        subst (λ n. Stands (after s (On n deed)).desk) same (itself_stands s deed (subst (λ n. beq (approved_on s.desk change) (approved_on (after s (On n deed)).desk change) ≡ true) (sym same) (grind (arith, nat_tests, spared, at))) is)
  after_stands s (Other fact) state spared may is =
      by_option (λ rule. denial s (Other fact) ≡ rule → Stands (unless_denied rule s (acted s (Other fact)).state).desk) (λ allowed. fact_stands s fact state spared may allowed is) (λ rule denied. is)
      (denial s (Other fact)) refl

  -- WHO IS TO BLAME: a batch that has another change hasn't this one alone.
  module _ (blamed : ℕ) (differs : eqb blamed change ≡ false) where
    others_lone : (batch : Batch) (changes : List ℕ) → list_any (eqb blamed) changes ≡ true → is_its_lone (Some (record batch { changes = changes })) ≡ false
    others_lone batch [] there = refl
    others_lone batch (first ∷ []) there = grind (arith, nat_tests, there, differs)
    others_lone batch (first ∷ second ∷ changes) there = grind (arith, nat_tests)

    pub blamed_beside : (s : State) → has_running (is_in blamed) s.queue.staging ≡ true → is_alone Staging s ≡ false
    blamed_beside s =
        by_option (λ running. option_map_or (is_in blamed) running false ≡ true → is_its_lone running ≡ false) (λ there. refl) (λ batch there. others_lone batch batch.changes there) s.queue.staging.running
