-- What passes, in a host's words.
use Rattle.std.proofs.Common.{◌≡◌, ◌&&◌, ℕ, Bool, true, false, if◌then◌else◌, List, [], ◌∷◌, ◌++◌, Option, Some, None, Result, Ok, Err, refl, sym, ◌∙◌, ap, arith}
use Rattle.std.proofs.lemmas.Map.Text.{is_eq-slice_cmp}
use Rattle.std.proofs.lemmas.Slice.Eq.{bytes_eq-Decides}
use Rattle.std.specs.Cmp.Lexicographic.{slice_cmp, nat_list_cmp_total}
use Rattle.std.specs.FinMap as finite
use Rattle.std.specs.FinMap.{get-empty, get-insert}
use Rattle.std.specs.List.{list_all, list_any}
use Rattle.std.specs.Option.{option_map_or, option_or}
use Rattle.std.specs.Ordering.{nat_cmp}
use Rattle.std.specs.Str.{bytes_eq}
use Rattle.gate_queue.specs.Vocabulary.{SettingsView, SettingsFault, Act, On, Other, Deed, Said, Known, Role, Settings, Base, Staged as StagedFact, Conflict, Status, Refused, Tick, StatusState, Success, Pending, Batch, Report, StageOf, State, is_required, last_command, look, settings_of}
use Rattle.gate_state.specs.Lanes.{has_succeeded, is_success}
use Rattle.gate_state.specs.declared.batch.Report.TheVariants as report
use Rattle.gate_state.specs.declared.batch.Stage.TheVariants.{Staged}
use Rattle.gate_state.specs.declared.reply.Why.TheVariants as why
use Rattle.gate_queue.specs.History.{is_bad, state_said}
use Rattle.gate_queue.specs.Machine.{accepted, acted, after, denial, done, heads_told, is_good, ordered_on, repeated, told_as, unless_denied}
use Rattle.gate_queue.specs.Progress.{after_all, each_of, has_any_landing, heard, lasts, leave_settings, lets_run, passes_with, with_said}
use Rattle.gate_progress.specs.Courses.{LawOfSuccesses, last_said, said_in}
use Rattle.gate_queue.proofs.Choosing.{by_option}
use Rattle.gate_queue.proofs.Lasting.{Reports, once_runs}
use Rattle.gate_queue.proofs.Meaning.{means}
use Rattle.gate_queue.proofs.News.{back_news, ending_news, staged_news, tick_untouched, told_news}

-- THE SETTINGS STAY while what runs isn't to land.
module _ (s : State) where
  abbrev Stays : State → Type 0
  Stays t = t.desk.settings ≡ s.desk.settings

  deed_stays : (n : ℕ) (deed : Deed) → Stays (done s (On n deed)).state
  deed_stays n deed = grind arith

  read_stays : (read : Result SettingsView SettingsFault) → leave_settings s.desk read ≡ true → Stays (accepted s read).state
  read_stays (Err fault) left = refl
  read_stays (Ok settings) left = grind (arith, left)

  acted_stays : (act : Act) → lets_run s act ≡ true → has_any_landing s ≡ false → Stays (acted s act).state
  acted_stays (On n deed) left tested =
      means (λ act. Stays (done s act).state) (look s.desk) (On n deed) (deed_stays n deed)
      (λ other person its. deed_stays other (Said person (Known (repeated (last_command (look s.desk) other)))))
  acted_stays (Other (Role person role)) left tested = refl
  acted_stays (Other (Settings text)) left tested = read_stays (settings_of text) (grind (arith, left, tested))
  acted_stays (Other (Base commit)) left tested = (back_news s (Some commit)).desk.settings
  acted_stays (Other (StagedFact number commit)) left tested = (staged_news s (ordered_on number s.queue) s.desk.clock commit).desk.settings
  acted_stays (Other (Conflict number)) left tested = (ending_news s (ordered_on number s.queue) (told_as (ordered_on number s.queue) why.Conflict)).desk.settings
  acted_stays (Other (Status commit name said)) left tested = (told_news commit name said (heads_told commit name said s)).desk.settings
  acted_stays (Other (Refused number)) left tested = (back_news s None).desk.settings
  acted_stays (Other (Tick now)) left tested = (tick_untouched now s).settings refl

  once_stays : (act : Act) → lets_run s act ≡ true → has_any_landing s ≡ false → Stays (after s act)
  once_stays act left tested = by_option (λ rule. Stays (unless_denied rule s (acted s act).state)) (acted_stays act left tested) (λ rule. refl) (denial s act)

-- WHAT WAS SAID LAST decides, and if nothing was, what was so before.
then_said : (last first : Option StatusState) (before between now : Bool) → now ≡ option_map_or is_good last between → between ≡ option_map_or is_good first before
    → now ≡ option_map_or is_good (option_or last first) before
then_said last first before between now later earlier = grind (arith, later, earlier)

-- WHAT IT HEARS of a required name is what was said of it last.
module _ (settings : SettingsView) (since : ℕ) (commit : List ℕ) where
  record Hears (reports : Reports) (stage : StageOf) (said : List ℕ → Option StatusState) : Type 0 where
    later : Reports
    tested : stage ≡ Staged since commit later
    succeeds : (n : List ℕ) → is_required (Some settings) n ≡ true → has_succeeded later n ≡ option_map_or is_good (said n) (has_succeeded reports n)

  module _ (reports : Reports) (other name : List ℕ) where
    abbrev at : StageOf
    at = Staged since commit reports

    -- a report is the last of its name, and leaves those of others
    inserted : (r : Report) (said : StatusState) → is_success r ≡ is_good said → bytes_eq other commit ≡ true → (n : List ℕ)
        → has_succeeded (finite.insert reports name r) n ≡ option_map_or is_good (state_said commit n (Status other name said)) (has_succeeded reports n)
    inserted r said means its n =
        let last = get-insert nat_list_cmp_total reports name r n in
        let named = is_eq-slice_cmp n name in
        let same = (bytes_eq-Decides commit other).1 (sym ((bytes_eq-Decides other commit).0 its)) in
        grind (arith, last, named, same, means)

    -- a status of its commit or of another, of a name that is required or isn't; none that is required has failed
    said_heard : (its needed : Bool) (said : StatusState) → bytes_eq other commit ≡ its → is_required (Some settings) name ≡ needed → (is_bad said && needed && its) ≡ false
        → Hears reports (if its && needed then with_said name said at else at) (λ n. state_said commit n (Status other name said))
    said_heard true true Success its need good = record { later = finite.insert reports name report.Success; tested = refl; succeeds = λ n required. inserted report.Success Success refl its n }
    said_heard true true Pending its need good = record { later = finite.insert reports name report.Pending; tested = refl; succeeds = λ n required. inserted report.Pending Pending refl its n }
    said_heard true true bad its need good = cc good
    said_heard true false said its need good = record {
      later = reports;
      tested = refl;
      succeeds = λ n required. let same = (bytes_eq-Decides n name).0 in grind (arith, same, required, need);
    }
    said_heard false needed said its need good = record {
      later = reports;
      tested = refl;
      succeeds = λ n required.
          let same = (bytes_eq-Decides commit other).0 in
          let back = (bytes_eq-Decides other commit).1 in
          grind (arith, same, back, its);
    }

  once_heard : (s : State) (batch : Batch) (reports : Reports) (act : Act) → s.queue.staging.running ≡ Some batch → batch.stage ≡ Staged since commit reports → s.desk.settings ≡ Some settings
      → lets_run s act ≡ true → Hears reports (heard s act (Staged since commit reports)) (λ n. said_in commit n act)
  once_heard s batch reports (Other (Status other name said)) runs tested known left =
      rw known (said_heard reports other name (bytes_eq other commit) (is_required (Some settings) name) said refl refl (grind (arith, runs, tested, known, left)))
  once_heard s batch reports act runs tested known left = record { later = reports; tested = refl; succeeds = λ n required. refl }

  -- the batch after acts over which it lasts
  record Lasts (reports : Reports) (acts : List Act) (t : State) : Type 0 where
    batch : Batch
    later : Reports
    runs : t.queue.staging.running ≡ Some batch
    tested : batch.stage ≡ Staged since commit later
    known : t.desk.settings ≡ Some settings
    succeeds : (n : List ℕ) → is_required (Some settings) n ≡ true → has_succeeded later n ≡ option_map_or is_good (last_said commit n acts) (has_succeeded reports n)

  all_heard : (s : State) (batch : Batch) (reports : Reports) (acts : List Act) → s.queue.staging.running ≡ Some batch → batch.stage ≡ Staged since commit reports → s.desk.settings ≡ Some settings
      → each_of lasts s acts ≡ true → Lasts reports acts (after_all s acts)
  all_heard s batch reports [] runs tested known left = record { batch = batch; later = reports; runs = runs; tested = tested; known = known; succeeds = λ n required. refl }
  all_heard s batch reports (act ∷ acts) runs tested known left =
      let lets : lets_run s act ≡ true = grind (arith, left) in
      let fails : passes_with s act ≡ false = grind (arith, left) in
      let next = once_runs s batch act runs lets fails in
      let one = once_heard s batch reports act runs tested known lets in
      let stays = once_stays s act lets (grind (arith, runs, tested)) in
      let told = record batch { stage = heard s act batch.stage } in
      let rest = all_heard (after s act) told one.later acts next.running (ap (heard s act) tested ∙ one.tested) (stays ∙ known) (grind (arith, left)) in
      record {
        batch = rest.batch;
        later = rest.later;
        runs = rest.runs;
        tested = rest.tested;
        known = rest.known;
        succeeds = λ n required.
            then_said (last_said commit n acts) (said_in commit n act) (has_succeeded reports n) (has_succeeded one.later n) (has_succeeded rest.later n)
            (rest.succeeds n required) (one.succeeds n required);
      }

-- WITH THE LAST ACT all required names have succeeded.
last_after : (commit n : List ℕ) (acts : List Act) (act : Act) → last_said commit n (acts ++ act ∷ []) ≡ option_or (said_in commit n act) (last_said commit n acts)
last_after commit n [] act = grind arith
last_after commit n (first ∷ acts) act = ap (λ (o : Option StatusState). option_or o (said_in commit n first)) (last_after commit n acts act) ∙ grind arith

all_so : (p q : List ℕ → Bool) (names : List (List ℕ)) → ((n : List ℕ) → list_any (bytes_eq n) names ≡ true → q n ≡ true → p n ≡ true) → list_all q names ≡ true → list_all p names ≡ true
all_so p q [] so all = refl
all_so p q (name ∷ names) so all =
    let same = (bytes_eq-Decides name name).1 refl in
    let here : p name ≡ true = so name (grind (arith, same)) (grind (arith, all)) in
    let rest = all_so p q names (λ n there. so n (grind (arith, there))) (grind (arith, all)) in
    grind (arith, here, rest)

passes_so : (t : State) (batch : Batch) (settings : SettingsView) (since : ℕ) (commit name : List ℕ) (reports : Reports) → t.queue.staging.running ≡ Some batch
    → batch.stage ≡ Staged since commit reports → t.desk.settings ≡ Some settings → is_required (Some settings) name ≡ true
    → list_all (has_succeeded (finite.insert reports name report.Success)) settings.status ≡ true → passes_with t (Other (Status commit name Success)) ≡ true
passes_so t batch settings since commit name reports runs tested known required all =
    let same = (bytes_eq-Decides commit commit).1 refl in
    rw (runs, tested, known, same, required) all

pub successes_law : LawOfSuccesses
successes_law s batch settings since commit name acts runs tested known left required all = by (all_heard settings since commit s batch finite.empty acts runs tested known left) where
  act : Act
  act = Other (Status commit name Success)

  by : Lasts settings since commit finite.empty acts (after_all s acts) → (is_required (after_all s acts).desk.settings name ≡ true) × (passes_with (after_all s acts) act ≡ true)
  by end =
      let reports = finite.insert end.later name report.Success in
      let good : (n : List ℕ) → is_required (Some settings) n ≡ true → has_succeeded reports n ≡ option_map_or is_good (last_said commit n (acts ++ act ∷ [])) false = λ n there.
      let none = ap (λ (r : Option Report). option_map_or is_success r false) (get-empty (slice_cmp nat_cmp) n) in
      let here = inserted settings since commit end.later commit name report.Success Success refl ((bytes_eq-Decides commit commit).1 refl) n in
      then_said (said_in commit n act) (last_said commit n acts) false (has_succeeded end.later n) (has_succeeded reports n) here
      (end.succeeds n there ∙ ap (option_map_or is_good (last_said commit n acts)) none)
      ∙ ap (λ (o : Option StatusState). option_map_or is_good o false) (sym (last_after commit n acts act))
      in (
        ap (λ (o : Option SettingsView). is_required o name) end.known ∙ required,
        passes_so (after_all s acts) end.batch settings since commit name end.later end.runs end.tested end.known required
            (all_so (has_succeeded reports) (λ n. option_map_or is_good (last_said commit n (acts ++ act ∷ [])) false) settings.status (λ n there so. good n there ∙ so) all),
      )
