-- What a status and a tick do to the batches that run is made of few steps: what holds of each step holds of all.
use Rattle.std.proofs.Common.{◌≡◌, ◌+◌, ℕ, true, false, List, Option, Some, None, refl, ◌∙◌, ap, arith}
use Rattle.gate_queue.specs.Vocabulary.{SettingsView, Look, is_required, StatusState, Success, Pending, Batch, Branch, Staging, Trying, Report, Why, State, Outcome}
use Rattle.gate_queue.specs.History.{ends_why}
use Rattle.gate_queue.specs.Machine.{quiet, then_next, with_queue, failing, has_passed, has_staged, has_overdue, with_landing, to_land, if_passed, goes_on, told_of, told, timed_out, ending, passing, on_both, told_on, given_up, lone_on}
use Rattle.gate_state.specs.Queue as specs
use Rattle.gate_state.specs.Queue.{lane_of}
use Rattle.gate_state.specs.declared.batch.Report.TheVariants as report
use Rattle.gate_state.specs.declared.reply.Why.TheVariants as why
use Rattle.gate_queue.proofs.Changes.{all_look, lone_rest}
use Rattle.gate_queue.proofs.Choosing.{either_way}
use Rattle.gate_queue.proofs.Keeping.{lands}

-- WHAT HOLDS OF EACH STEP: R of a state and of what the step makes of it, if the step uses up to `few` numbers of batches. No batch
-- fails that is landing, and each report is of a required name.
pub record EachStep (R : ℕ → State → Outcome → Type 0) : Type 0 where
  pub nothing : (few : ℕ) (s : State) → R few s (quiet s)
  pub both : {few more : ℕ} (s : State) (first : Outcome) (next : State → Outcome) → R few s first → R more first.state (next first.state) → R (few + more) s (then_next first next)
  pub report : (branch : Branch) (name : List ℕ) (report : Report) (s : State) → is_required s.desk.settings name ≡ true → (next : Outcome)
      → R 2 (with_queue s (specs.reported branch name report s.queue)) next → R 2 s next
  pub fail : (branch : Branch) (cause : Why) (s : State) → ends_why cause ≡ true → lands (lane_of branch s.queue).running ≡ false → R 2 s (failing branch cause s)
  pub pass : (s : State) → lands s.queue.trying.running ≡ false → R 2 s (ending Trying why.TryPassed s)
  pub land : (s : State) (batch : Batch) → s.queue.staging.running ≡ Some batch → has_passed s.desk.settings batch.stage ≡ true → R 2 s (to_land batch s)

-- the settings stay
ending_settings : (branch : Branch) (cause : Why) (s : State) → (ending branch cause s).state.desk.settings ≡ s.desk.settings
ending_settings branch cause s = (lone_rest (given_up branch) s.desk (lone_on branch s)).0

landing_settings : (batch : Batch) (s : State) → (to_land batch s).state.desk.settings ≡ s.desk.settings
landing_settings batch s = ap (λ (l : Look). l.settings) (all_look (with_landing true) (λ change. refl) batch.changes s.desk)

told_settings : (commit name : List ℕ) (said : StatusState) (branch : Branch) (s : State) → (told_on commit name said branch s).state.desk.settings ≡ s.desk.settings
told_settings commit name said branch s = grind (arith, ending_settings, landing_settings)

module _ {R : ℕ → State → Outcome → Type 0} (steps : EachStep R) where
  if_passed_so : (branch : Branch) (s : State) (running : Option Batch) → (lane_of branch s.queue).running ≡ running → R 2 s (if_passed branch s running)
  if_passed_so branch s None runs = steps.nothing 2 s
  if_passed_so branch s (Some batch) runs =
      either_way (R 2 s) (has_passed s.desk.settings batch.stage) (passing branch batch s) (quiet s) (passes branch runs) (λ fails. steps.nothing 2 s) where
        passes : (b : Branch) → (lane_of b s.queue).running ≡ Some batch → has_passed s.desk.settings batch.stage ≡ true → R 2 s (passing b batch s)
        passes Staging runs so = steps.land s batch runs so
        passes Trying runs so = steps.pass s (grind arith)

  told_of_so : (branch : Branch) (name : List ℕ) (said : StatusState) (s : State) → is_required s.desk.settings name ≡ true → lands (lane_of branch s.queue).running ≡ false
      → R 2 s (told_of branch name said s)
  told_of_so branch name said s required stays = by said where
    goes : (r : Report) → R 2 s (goes_on branch name r s)
    goes r =
        let after = with_queue s (specs.reported branch name r s.queue) in
        steps.report branch name r s required (goes_on branch name r s) (if_passed_so branch after (lane_of branch after.queue).running refl)

    by : (state : StatusState) → R 2 s (told_of branch name state s)
    by Success = goes report.Success
    by Pending = goes report.Pending
    by bad = steps.fail branch (why.Failed name) s refl stays

  told_on_so : (commit name : List ℕ) (said : StatusState) (branch : Branch) (s : State) → is_required s.desk.settings name ≡ true → R 2 s (told_on commit name said branch s)
  told_on_so commit name said branch s required =
      either_way (R 2 s) (has_staged commit (lane_of branch s.queue)) (told_of branch name said s) (quiet s)
      (λ there. told_of_so branch name said s required (grind arith)) (λ elsewhere. steps.nothing 2 s)

  pub told_so : (commit name : List ℕ) (said : StatusState) (s : State) → R 4 s (told commit name said s)
  told_so commit name said s =
      let one = told_on commit name said in
      either_way (R 4 s) (is_required s.desk.settings name) (on_both one s) (quiet s)
      (λ required.
      let still = ap (λ (o : Option SettingsView). is_required o name) (told_settings commit name said Staging s) ∙ required in
      steps.both s (one Staging s) (one Trying) (told_on_so commit name said Staging s required) (told_on_so commit name said Trying (one Staging s).state still))
      (λ other. steps.nothing 4 s)

  timed_out_so : (now : ℕ) (branch : Branch) (s : State) → R 2 s (timed_out now branch s)
  timed_out_so now branch s =
      either_way (R 2 s) (has_overdue now s.desk.settings (lane_of branch s.queue)) (failing branch why.TimedOut s) (quiet s)
      (λ overdue. steps.fail branch why.TimedOut s refl (grind arith)) (λ timely. steps.nothing 2 s)

  pub timed_out_both_so : (now : ℕ) (s : State) → R 4 s (on_both (timed_out now) s)
  timed_out_both_so now s =
      let first = timed_out now Staging s in
      steps.both s first (timed_out now Trying) (timed_out_so now Staging s) (timed_out_so now Trying first.state)
