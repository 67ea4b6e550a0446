-- The first in service lands, over all that lets it run.
use Rattle.std.proofs.Common.{◌≡◌, ◌&&◌, if◌then◌else◌, ℕ, true, false, List, [], ◌∷◌, Option, Some, refl, sym, ◌∙◌, ap, subst, arith}
use Rattle.std.specs.FinMap as finite
use Rattle.std.specs.Option.{option_map_or}
use Rattle.std.specs.Str.{bytes_eq}
use Rattle.gate_queue.specs.Vocabulary.{Act, Other, Staged as StagedFact, Status, StatusState, Success, Pending, Tick, Batch, Staging, StageOf, DeskView, State, is_required, look}
use Rattle.gate_state.specs.Lanes.{ordered_at, staged_at}
use Rattle.gate_state.specs.State.{IsState}
use Rattle.gate_state.specs.declared.batch.Report.TheVariants as report
use Rattle.gate_state.specs.declared.batch.Stage.TheVariants.{Ordered, Staged, Landing}
use Rattle.gate_queue.specs.Machine.{after, is_base, is_staged_with}
use Rattle.gate_queue.specs.Progress.{after_all, heard, each_of, heard_over, lasts, passes_with, with_said}
use Rattle.gate_progress.specs.Courses.{LawOfCourses}
use Rattle.gate_queue.proofs.Choosing.{by_bool}
use Rattle.gate_queue.proofs.Lasting.{Reports, Runs, waiting_law}
use Rattle.gate_queue.proofs.Progress.{firsts_law, landings_law, passing_law, stagings_law}
use Rattle.gate_queue.proofs.States.{still_states}
use Rattle.gate_progress.proofs.Successes.{successes_law}

-- WHAT IT HEARS is nothing, unless it is tested, and then it is tested on as the same commit.
heard_not : (stage : StageOf) → ((commit : List ℕ) → is_staged_with commit stage ≡ false) → (s : State) (acts : List Act) → heard_over s acts stage ≡ stage
heard_not stage none s [] = refl
heard_not stage none s (act ∷ acts) =
    let one : heard s act stage ≡ stage = grind (arith, none) in
    ap (heard_over (after s act) acts) one ∙ heard_not stage none (after s act) acts

heard_tested : (since : ℕ) (commit : List ℕ) (reports : Reports) (s : State) (acts : List Act) → (later : Reports) × (heard_over s acts (Staged since commit reports) ≡ Staged since commit later)
heard_tested since commit reports s [] = (reports, refl)
heard_tested since commit reports s (act ∷ acts) =
    let one = heard_once since commit reports s act in
    let rest = heard_tested since commit one.0 (after s act) acts in
    (rest.0, ap (heard_over (after s act) acts) one.1 ∙ rest.1) where
      said_once : (since : ℕ) (commit name : List ℕ) (reports : Reports) (said : StatusState) → (later : Reports) × (with_said name said (Staged since commit reports) ≡ Staged since commit later)
      said_once since commit name reports Success = (finite.insert reports name report.Success, refl)
      said_once since commit name reports Pending = (finite.insert reports name report.Pending, refl)
      said_once since commit name reports bad = (reports, refl)

      heard_once : (since : ℕ) (commit : List ℕ) (reports : Reports) (s : State) (act : Act) → (later : Reports) × (heard s act (Staged since commit reports) ≡ Staged since commit later)
      heard_once since commit reports s (Other (Status other name said)) =
          by_bool (λ b. (later : Reports) × ((if b then with_said name said (Staged since commit reports) else Staged since commit reports) ≡ Staged since commit later))
          (said_once since commit name reports said) (reports, refl) (bytes_eq other commit && is_required s.desk.settings name)
      heard_once since commit reports s act = (reports, refl)

-- the batch that runs, after acts over which it lasts
lasted : (s t : State) (batch : Batch) (stage : StageOf) (acts : List Act) (base : List ℕ) → t ≡ after_all s acts → s.queue.staging.running ≡ Some batch → s.desk.base ≡ Some base → each_of lasts s acts ≡ true
    → heard_over s acts batch.stage ≡ stage → Runs (Some base) (record batch { stage = stage }) t
lasted s t batch stage acts base is runs based lasts heard_so =
    let waits = waiting_law s batch acts runs lasts in
    record {
      running = ap (λ (x : State). x.queue.staging.running) is ∙ waits.0 ∙ ap (λ (l : StageOf). Some (record batch { stage = l })) heard_so;
      base_is = ap (λ (x : State). x.desk.base) is ∙ waits.1 ∙ based;
    }

-- a commit that isn't the base
no_base : (s : State) (base commit : List ℕ) → s.desk.base ≡ Some base → bytes_eq base commit ≡ false → is_base (look s.desk) commit ≡ false
no_base s base commit based differs = ap (λ (b : Option (List ℕ)). option_map_or (λ base. bytes_eq base commit) b false) based ∙ differs

pub courses_law : LawOfCourses
courses_law s staging passing landing batch others settings base commit name now first second third is based idle past can_first lasts_first to_staging differs known can_second lasts_second to_passing required succeed can_third lasts_third to_landing =
    let ordered = firsts_law s Staging batch others base now based idle past in
    let waits = lasted (after s (Other (Tick now))) staging (ordered_at now batch) (Ordered now) first base to_staging ordered.1 ordered.2 lasts_first (heard_not (Ordered now) (λ other. refl) (after s (Other (Tick now))) first) in
    let staged = stagings_law staging (ordered_at now batch) now commit waits.running refl (no_base staging base commit waits.base_is differs) in
    let told = heard_tested staging.desk.clock commit finite.empty (after staging (Other (StagedFact batch.number commit))) second in
    let tested =
    lasted (after staging (Other (StagedFact batch.number commit))) passing (staged_at staging.desk.clock commit batch) (Staged staging.desk.clock commit told.0) second base to_passing staged.1
    (ap (λ (d : DeskView). d.base) staged.2 ∙ waits.base_is) lasts_second told.1
    in
    let heard =
    successes_law (after staging (Other (StagedFact batch.number commit))) (staged_at staging.desk.clock commit batch) settings staging.desk.clock commit name second staged.1 refl
    (ap (λ (d : DeskView). d.settings) staged.2 ∙ known) lasts_second required succeed
    in
    let needed = ap (λ (t : State). is_required t.desk.settings name) to_passing ∙ heard.0 in
    let so = ap (λ (t : State). passes_with t (Other (Status commit name Success))) to_passing ∙ heard.1 in
    let passed = passing_law passing (record batch { stage = Staged staging.desk.clock commit told.0 }) staging.desk.clock base commit name told.0 tested.running refl tested.base_is needed so in
    let lands =
    lasted (after passing (Other (Status commit name Success))) landing (record batch { stage = Landing commit }) (Landing commit) third base to_landing passed.1 passed.2 lasts_third
    (heard_not (Landing commit) (λ other. refl) (after passing (Other (Status commit name Success))) third)
    in
    let is_staging = subst IsState (sym to_staging) (still_states s (Other (Tick now) ∷ first) is can_first) in
    let is_passing = subst IsState (sym to_passing) (still_states staging (Other (StagedFact batch.number commit) ∷ second) is_staging can_second) in
    let is_landing = subst IsState (sym to_landing) (still_states passing (Other (Status commit name Success) ∷ third) is_passing can_third) in
    let ended = landings_law landing (record batch { stage = Landing commit }) commit is_landing lands.running refl (no_base landing base commit lands.base_is differs) in
    (ordered.0, staged.0, passed.0, ended.0, ended.1, ended.2)
