-- The batch that runs on `Staging` lasts over all that lets it run.
use Rattle.std.proofs.Common.{◌≡◌, ◌&&◌, ◌||◌, not, ℕ, ℤ, Bool, true, false, if◌then◌else◌, List, [], ◌∷◌, Option, Some, None, Result, Ok, Err, refl, sym, ◌∙◌, ap, subst, arith}
use Rattle.std.proofs.lemmas.Bool.Decides.{nat_tests}
use Rattle.std.proofs.Math.Bool.{beq}
use Rattle.std.specs.Cmp.Lexicographic.{slice_cmp}
use Rattle.std.specs.FinMap.{FinMap}
use Rattle.std.specs.Option.{option_map, option_map_or}
use Rattle.std.specs.Ordering.{int_eq, nat_cmp}
use Rattle.gate_queue.specs.Vocabulary.{SettingsView, SettingsFault, Rule, look, is_required, settings_of, Act, On, Other, Deed, NoSuchBatch, SameAsBase, Said, Known, last_command, Why, Role, Settings, Base, Staged as StagedFact, Conflict, Status, Refused, Tick, StatusState, Success, Pending, Batch, Branch, Staging, Trying, Report, StageOf, Lane, Queue, State, Outcome, with_clock}
use Rattle.gate_state.specs.Lanes as lanes
use Rattle.gate_state.specs.Lanes.{is_landing, loses}
use Rattle.gate_state.specs.Queue as specs
use Rattle.gate_state.specs.State.{approved_on, priority_on, trying_on}
use Rattle.gate_state.specs.declared.reply.Why.TheVariants as why
use Rattle.gate_state.specs.declared.batch.Report.TheVariants as report
use Rattle.gate_queue.specs.Machine.{accepted, acted, after, all_but, approval_followed, are_present, denial, done, effect, ending, failing, followed, goes_on, has_ordered, has_overdue, has_passed, has_staged, heads_told, if_passed, is_staged_with, on_both, passing, quiet, repeated, size_on, timed_out, told, told_of, told_on, under, unless_denied, with_desk, with_queue}
use Rattle.gate_queue.specs.MayChange.{is_run}
use Rattle.gate_queue.specs.History.{is_bad}
use Rattle.gate_queue.specs.Progress.{LawOfWaiting, has_any_landing, heard, keeps_place, leave_settings, lets_run, passes_with, with_said}
use Rattle.gate_queue.proofs.Choosing.{by_option, either_way}
use Rattle.gate_queue.proofs.Keeping.{tried_by_staging}
use Rattle.gate_queue.proofs.Meaning.{means}

-- the last reports of a batch, by name
abbrev pub Reports : Type 0
Reports = FinMap (slice_cmp nat_cmp) Report

-- this batch runs, and the base is as before
pub record Runs (base : Option (List ℕ)) (batch : Batch) (s : State) : Type 0 where
  pub running : s.queue.staging.running ≡ Some batch
  pub base_is : s.desk.base ≡ base

-- WHAT IS DONE TO TRIES leaves the other branch and the base.
pub record Leaves (s : State) (o : Outcome) : Type 0 where
  pub staging : o.state.queue.staging ≡ s.queue.staging
  pub base : o.state.desk.base ≡ s.desk.base

quiet_leaves : (s : State) → Leaves s (quiet s)
quiet_leaves s = record { staging = refl; base = refl }

ending_leaves : (why : Why) (s : State) → Leaves s (ending Trying why s)
ending_leaves why s = record { staging = refl; base = grind arith }

passed_leaves : (s t : State) → Leaves s (quiet t) → (running : Option Batch) → Leaves s (if_passed Trying t running)
passed_leaves s t same None = same
passed_leaves s t same (Some batch) =
    either_way (Leaves s) (has_passed t.desk.settings batch.stage) (passing Trying batch t) (quiet t)
    (λ passes. let ends = ending_leaves why.TryPassed t in record { staging = ends.staging ∙ same.staging; base = ends.base ∙ same.base }) (λ fails. same)

pub told_leaves : (commit name : List ℕ) (said : StatusState) (s : State) → Leaves s (told_on commit name said Trying s)
told_leaves commit name said s =
    either_way (Leaves s) (has_staged commit s.queue.trying) (told_of Trying name said s) (quiet s) (λ there. of said) (λ elsewhere. quiet_leaves s) where
      goes : (r : Report) → Leaves s (goes_on Trying name r s)
      goes r =
          let after = with_queue s (specs.reported Trying name r s.queue) in
          passed_leaves s after (record { staging = refl; base = refl }) after.queue.trying.running

      of : (state : StatusState) → Leaves s (told_of Trying name state s)
      of Success = goes report.Success
      of Pending = goes report.Pending
      of bad = ending_leaves why.TryFailed s

pub timed_out_leaves : (now : ℕ) (s : State) → Leaves s (timed_out now Trying s)
timed_out_leaves now s =
    either_way (Leaves s) (has_overdue now s.desk.settings s.queue.trying) (failing Trying why.TimedOut s) (quiet s) (λ overdue. ending_leaves why.TryFailed s) (λ timely. quiet_leaves s)

left_runs : (base : Option (List ℕ)) (batch : Batch) (s : State) (o : Outcome) → Leaves s o → Runs base batch s → Runs base batch o.state
left_runs base batch s o left is = record { running = ap (λ (l : Lane). l.running) left.staging ∙ is.running; base_is = left.base ∙ is.base_is }

-- what is to land, what has no part in the deed, and what is left as it is
followed_runs : (was now same : Bool) (size : Option ℕ) (priority : ℤ) (change : ℕ) (queue : Queue) (batch : Batch) → queue.staging.running ≡ Some batch
    → (is_landing batch.stage || not (loses (all_but change) batch) || (beq was now && same)) ≡ true → (followed was now (not same) size priority change queue).staging.running ≡ Some batch
followed_runs was now same size priority change queue batch runs left = grind (arith, runs, left)

-- THE ACTS, one kind after the other
module _ (s : State) (batch : Batch) (runs : s.queue.staging.running ≡ Some batch) where
  abbrev Same : Batch → State → Type 0
  Same = Runs s.desk.base

  same : Same batch s
  same = record { running = runs; base_is = refl }

  -- the stage may be another
  abbrev at : StageOf → Batch
  at stage = record batch { stage = stage }

  -- a denied act changes nothing
  either : (act : Act) (it : Batch) → (denial s act ≡ None → Same it (acted s act).state) → ((rule : Rule) → denial s act ≡ Some rule → Same it s) → Same it (after s act)
  either act it done denied = by_option (λ rule. denial s act ≡ rule → Same it (unless_denied rule s (acted s act).state)) done denied (denial s act) refl

  denied_runs : (act : Act) (rule : Rule) → denial s act ≡ Some rule → Same batch (after s act)
  denied_runs act rule is = subst (λ (d : Option Rule). Same batch (unless_denied d s (acted s act).state)) (sym is) same

  -- A DEED lets it run if it lands, if the change isn't in it, or if the change keeps its place.
  parts : (n : ℕ) (left : Bool) → (has_any_landing s || not (is_run n s.queue.staging) || left) ≡ (is_landing batch.stage || not (loses (all_but n) batch) || left)
  parts n left = rw runs refl

  deed_runs : (n : ℕ) (deed : Deed) → (has_any_landing s || not (is_run n s.queue.staging) || keeps_place s n (done s (On n deed)).state) ≡ true → Same batch (done s (On n deed)).state
  deed_runs n deed left =
      let new = effect s.desk n deed in
      record {
        running = ap (λ (l : Lane). l.running) (tried_by_staging (trying_on s.desk n) (trying_on new n) n (approval_followed s.desk new n s.queue))
            ∙ followed_runs (approved_on s.desk n) (approved_on new n) (int_eq (priority_on s.desk n) (priority_on new n)) (size_on new) (priority_on new n) n s.queue batch runs
            (sym (parts n (keeps_place s n (done s (On n deed)).state)) ∙ left);
        base_is = grind arith;
      }

  meant_runs : (n : ℕ) (deed : Deed) → lets_run s (On n deed) ≡ true → denial s (On n deed) ≡ None → Same batch (acted s (On n deed)).state
  meant_runs n deed left allowed =
      means (λ act. (has_any_landing s || not (is_run n s.queue.staging) || keeps_place s n (done s act).state) ≡ true → Same batch (done s act).state) (look s.desk) (On n deed) (deed_runs n deed)
      (λ other person its. let there : n ≡ other = cc its in
      subst (λ (c : ℕ). (has_any_landing s || not (is_run c s.queue.staging) || keeps_place s c (done s (On other (repeats other person))).state) ≡ true → Same batch (done s (On other (repeats other person))).state) (sym there)
      (deed_runs other (repeats other person)))
      (subst (λ (d : Option Rule). (has_any_landing s || not (is_run n s.queue.staging) || keeps_place s n (unless_denied d s (acted s (On n deed)).state)) ≡ true) allowed left) where
        repeats : ℕ → List ℕ → Deed
        repeats other person = Said person (Known (repeated (last_command (look s.desk) other)))

  -- SETTINGS that are known do nothing, and new ones leave what lands.
  settings_runs : (read : Result SettingsView SettingsFault) → (has_any_landing s || leave_settings s.desk read) ≡ true → Same batch (accepted s read).state
  settings_runs (Err fault) left = same
  settings_runs (Ok settings) left =
      either_way (λ (o : Outcome). Same batch o.state) (are_present s.desk settings) (quiet s) (under settings s) (λ known. same)
      (λ new. let lands : is_landing batch.stage ≡ true = grind (arith, runs, left, new) in record { running = grind (arith, runs, lands); base_is = refl })

  -- NEWS of another batch goes to the other branch, or is denied.
  staged_runs : (number : ℕ) (commit : List ℕ) → lets_run s (Other (StagedFact number commit)) ≡ true → denial s (Other (StagedFact number commit)) ≡ None → Same batch (done s (Other (StagedFact number commit))).state
  staged_runs number commit left allowed =
      let none : has_ordered number s.queue.staging ≡ false = grind (arith, left, allowed) in
      subst (λ (b : Bool). Same batch (with_queue s (specs.staged (if b then Staging else Trying) s.desk.clock commit s.queue))) (sym none) (record { running = runs; base_is = refl })

  conflict_runs : (number : ℕ) → lets_run s (Other (Conflict number)) ≡ true → Same batch (done s (Other (Conflict number))).state
  conflict_runs number left =
      let none : has_ordered number s.queue.staging ≡ false = grind (arith, left) in
      subst (λ (b : Bool). Same batch (failing (if b then Staging else Trying) why.Conflict s).state) (sym none)
      (left_runs s.desk.base batch s (failing Trying why.Conflict s) (ending_leaves why.TryFailed s) same)

  -- A TICK lets it run if it isn't overdue.
  tick_runs : (now : ℕ) → has_overdue now s.desk.settings s.queue.staging ≡ false → Same batch (done s (Other (Tick now))).state
  tick_runs now timely = record {
    running = ap (λ (running : Option Batch). (lanes.started_beside now running (on_both (timed_out now) t).state.queue.staging.waiting).running) ended.running;
    base_is = ended.base_is;
  } where
    t : State
    t = with_desk s (with_clock s.desk now)

    first : timed_out now Staging t ≡ quiet t
    first = ap (λ (b : Bool). if b then failing Staging why.TimedOut t else quiet t) timely

    ended : Same batch (on_both (timed_out now) t).state
    ended =
        subst (λ (o : Outcome). Same batch (timed_out now Trying o.state).state) (sym first)
        (left_runs s.desk.base batch t (timed_out now Trying t) (timed_out_leaves now t) (record { running = runs; base_is = refl }))

  -- A STATUS: of its commit or of another, of a name that is required or isn't
  module _ (commit name : List ℕ) (said : StatusState) (left : lets_run s (Other (Status commit name said)) ≡ true) (fails : has_passed s.desk.settings (heard s (Other (Status commit name said)) batch.stage) ≡ false) where
    abbrev now : Batch
    now = at (heard s (Other (Status commit name said)) batch.stage)

    abbrev t : State
    t = heads_told commit name said s

    abbrev one : Branch → State → Outcome
    one = told_on commit name said

    both : (it : Batch) → Same it (one Staging t).state → Same it (on_both one t).state
    both it first = left_runs s.desk.base it (one Staging t).state (one Trying (one Staging t).state) (told_leaves commit name said (one Staging t).state) first

    goes : (r : Report) → has_passed s.desk.settings (lanes.with_report name r batch.stage) ≡ false → Same (at (lanes.with_report name r batch.stage)) (goes_on Staging name r t).state
    goes r waits =
        let after = with_queue t (specs.reported Staging name r t.queue) in
        let told_so : after.queue.staging.running ≡ Some (lanes.reported_on name r batch) = ap (option_map (lanes.reported_on name r)) runs in
        subst (λ (o : Outcome). Same (lanes.reported_on name r batch) o.state)
        (sym (ap (if_passed Staging after) told_so ∙ ap (λ (b : Bool). if b then passing Staging (lanes.reported_on name r batch) after else quiet after) waits))
        (record { running = told_so; base_is = refl })

    of : (state : StatusState) → is_bad state ≡ false → has_passed s.desk.settings (with_said name state batch.stage) ≡ false → Same (at (with_said name state batch.stage)) (told_of Staging name state t).state
    of Success good waits = goes report.Success waits
    of Pending good waits = goes report.Pending waits
    of bad good waits = cc good

    there : (b : Bool) → is_staged_with commit batch.stage ≡ b → has_staged commit s.queue.staging ≡ b
    there b at = rw runs at

    by : (its needed : Bool) → is_staged_with commit batch.stage ≡ its → is_required s.desk.settings name ≡ needed → not (is_bad said && needed && its) ≡ true
        → has_passed s.desk.settings (if its && needed then with_said name said batch.stage else batch.stage) ≡ false
        → Same (at (if its && needed then with_said name said batch.stage else batch.stage)) (told commit name said t).state
    by true true its need fine waits =
        let good : is_bad said ≡ false = grind (arith, fine) in
        subst (λ (b : Bool). Same (at (with_said name said batch.stage)) (if b then on_both one t else quiet t).state) (sym need)
        (both (at (with_said name said batch.stage)) (subst (λ (b : Bool). Same (at (with_said name said batch.stage)) (if b then told_of Staging name said t else quiet t).state) (sym (there true its)) (of said good waits)))
    by false true its need fine waits =
        subst (λ (b : Bool). Same batch (if b then on_both one t else quiet t).state) (sym need)
        (both batch (subst (λ (b : Bool). Same batch (if b then told_of Staging name said t else quiet t).state) (sym (there false its)) (record { running = runs; base_is = refl })))
    by its false other need fine waits = subst (λ (b : Bool). Same (at (if its && false then with_said name said batch.stage else batch.stage)) (if b then on_both one t else quiet t).state) (sym need) (none its) where
      none : (b : Bool) → Same (at (if b && false then with_said name said batch.stage else batch.stage)) t
      none true = record { running = runs; base_is = refl }
      none false = record { running = runs; base_is = refl }

    status_runs : Same now (done s (Other (Status commit name said))).state
    status_runs = by (is_staged_with commit batch.stage) (is_required s.desk.settings name) refl refl (let its = there (is_staged_with commit batch.stage) refl in rw (sym its) left) fails

    -- one of its commit is denied by no rule
    unheard : (rule : Rule) → denial s (Other (Status commit name said)) ≡ Some rule → Same now s
    unheard rule denied = so (is_staged_with commit batch.stage) refl where
      so : (its : Bool) → is_staged_with commit batch.stage ≡ its → Same (at (if its && is_required s.desk.settings name then with_said name said batch.stage else batch.stage)) s
      so true its =
          let staged = there true its in
          let allowed : denial s (Other (Status commit name said)) ≡ None = grind (arith, staged) in
          cc (sym allowed ∙ denied)
      so false its = same

pub once_runs : (s : State) (batch : Batch) (act : Act) → s.queue.staging.running ≡ Some batch → lets_run s act ≡ true → passes_with s act ≡ false → Runs s.desk.base (record batch { stage = heard s act batch.stage }) (after s act)
once_runs s batch (On n deed) runs left waits = either s batch runs (On n deed) batch (meant_runs s batch runs n deed left) (λ rule denied. same s batch runs)
once_runs s batch (Other (Role person role)) runs left waits = record { running = runs; base_is = refl }
once_runs s batch (Other (Settings text)) runs left waits =
    either s batch runs (Other (Settings text)) batch (λ allowed. settings_runs s batch runs (settings_of text) left) (λ rule denied. same s batch runs)
once_runs s batch (Other (Base commit)) runs left waits = denied_runs s batch runs (Other (Base commit)) SameAsBase (grind (arith, left))
once_runs s batch (Other (StagedFact number commit)) runs left waits =
    either s batch runs (Other (StagedFact number commit)) batch (staged_runs s batch runs number commit left) (λ rule denied. same s batch runs)
once_runs s batch (Other (Conflict number)) runs left waits =
    either s batch runs (Other (Conflict number)) batch (λ allowed. conflict_runs s batch runs number left) (λ rule denied. same s batch runs)
once_runs s batch (Other (Refused number)) runs left waits = denied_runs s batch runs (Other (Refused number)) NoSuchBatch (grind (arith, left))
once_runs s batch (Other (Tick now)) runs left waits =
    either s batch runs (Other (Tick now)) batch (λ allowed. tick_runs s batch runs now (grind (arith, nat_tests, left, allowed))) (λ rule denied. same s batch runs)
once_runs s batch (Other (Status commit name said)) runs left waits =
    let fails = sym (ap (λ (running : Option Batch). option_map_or (λ (b : Batch). has_passed s.desk.settings (heard s (Other (Status commit name said)) b.stage)) running false) runs) ∙ waits in
    either s batch runs (Other (Status commit name said)) (record batch { stage = heard s (Other (Status commit name said)) batch.stage })
    (λ allowed. status_runs s batch runs commit name said left fails) (unheard s batch runs commit name said left fails)

pub waiting_law : LawOfWaiting
waiting_law s batch [] runs lasts = (runs, refl)
waiting_law s batch (act ∷ acts) runs lasts =
    let next = once_runs s batch act runs (grind (arith, lasts)) (grind (arith, lasts)) in
    let rest = waiting_law (after s act) (record batch { stage = heard s act batch.stage }) acts next.running (grind (arith, lasts)) in
    (rest.0, rest.1 ∙ next.base_is)
