-- A lane of single changes stays one, whatever may be done to tries. What loses its change is gone, and all else is as it was.
use Rattle.std.proofs.Common.{◌≡◌, ℕ, eqb, Bool, true, false, not, ◌&&◌, cond, if◌then◌else◌, List, [], ◌∷◌, length, take, drop, Option, Some, None, IfSome, refl, sym, ◌∙◌, ap, subst, arith}
use Rattle.std.proofs.lemmas.Bool.Decides.{nat_tests}
use Rattle.std.proofs.lemmas.List.Elements.{All-cons, All-head, All-tail, All-append, All-take, All-drop, All-filter}
use Rattle.std.specs.List.{All, filter, list_all}
use Rattle.gate_state.specs.Lemmas.Counts.{all_stay}
use Rattle.gate_state.specs.Lanes.{placed, try_of, tried, retried, has_changes, has_several, back, back_uses, only, left, loses, is_landing, running_back_uses, taken_out, running_taken, taken_out_uses, restarted, running_restarted, failed, running_failed, failed_uses, started, started_beside, staged, with_report, reported, dropped, split_into}
use Rattle.gate_state.specs.Service.{IsAlone, AreAlone, LawOfSingles}
use Rattle.gate_state.specs.declared.batch.Batch.{Batch}
use Rattle.gate_state.specs.declared.batch.Report.{Report}
use Rattle.gate_state.specs.declared.batch.Stage.{Stage}
use Rattle.gate_state.specs.declared.batch.Stage.TheVariants as stage
use Rattle.gate_state.specs.declared.lane.Lane.{Lane}

abbrev RunsAlone : Batch → Type 0
RunsAlone batch = IsAlone batch × (is_landing batch.stage ≡ false)

-- A BATCH among the waiting ones
placed_alone : (batch : Batch) (waiting : List Batch) → IsAlone batch → All IsAlone waiting → All IsAlone (placed batch waiting)
placed_alone batch waiting one all =
    All-append IsAlone (take _ waiting) (batch ∷ drop _ waiting) (All-take IsAlone _ waiting all) (All-cons IsAlone batch (drop _ waiting) one (All-drop IsAlone _ waiting all))

back_alone : (number : ℕ) (batch : Batch) (waiting : List Batch) → (has_changes batch ≡ true → IsAlone batch) → All IsAlone waiting → All IsAlone (back number batch waiting)
back_alone number batch waiting one all = by (has_changes batch) refl where
  by : (some : Bool) → has_changes batch ≡ some → All IsAlone (cond some (placed (retried number batch) waiting) waiting)
  by true is = placed_alone (retried number batch) waiting (one is) all
  by false is = all

-- THE ONE CHANGE of a batch stays, or it doesn't.
has_one : (batch : Batch) → IsAlone batch → has_changes batch ≡ true
has_one batch one = grind (arith, nat_tests)

all_kept : (stays : ℕ → Bool) (batch : Batch) → loses stays batch ≡ false → only stays batch ≡ batch
all_kept stays batch keeps = ap (λ (changes : List ℕ). record batch { changes = changes }) (all_stay stays batch.changes (by (list_all stays batch.changes) keeps)) where
  by : (all : Bool) → not all ≡ false → all ≡ true
  by true is = refl
  by false is = cc is

none_kept : (stays : ℕ → Bool) (changes : List ℕ) → length changes ≡ 1 → not (list_all stays changes) ≡ true → filter stays changes ≡ []
none_kept stays [] one lost = refl
none_kept stays (change ∷ []) one lost = by (stays change) lost where
  by : (b : Bool) → not (b && true) ≡ true → cond b (change ∷ []) [] ≡ []
  by true is = cc is
  by false is = refl
none_kept stays (change ∷ other ∷ changes) one lost = absurd (omega arith)

-- TAKE OUT: what loses its change is gone
abbrev keeps : (ℕ → Bool) → Batch → Bool
keeps stays batch = not (loses stays batch)

abbrev beside : Option Batch → List Batch → Lane
beside running waiting = record { running = running; waiting = waiting }

abbrev running_kept : (ℕ → Bool) → Option Batch → Option Batch
running_kept stays None = None
running_kept stays (Some batch) = if loses stays batch then None else Some batch

abbrev pub kept : (ℕ → Bool) → Lane → Lane
kept stays lane = beside (running_kept stays lane.running) (filter (keeps stays) lane.waiting)

left_is : (stays : ℕ → Bool) (waiting : List Batch) → All IsAlone waiting → left stays waiting ≡ filter (keeps stays) waiting
left_is stays [] all = refl
left_is stays (first ∷ waiting) all = by (loses stays first) refl (left_is stays waiting (All-tail IsAlone first waiting all)) where
  one : IsAlone first
  one = All-head IsAlone first waiting all

  by : (lost : Bool) → loses stays first ≡ lost → left stays waiting ≡ filter (keeps stays) waiting
      → left stays (first ∷ waiting) ≡ cond (not lost) (first ∷ filter (keeps stays) waiting) (filter (keeps stays) waiting)
  by true is others =
      ap (λ (changes : List ℕ). cond (not (eqb (length changes) 0)) (record first { changes = changes } ∷ left stays waiting) (left stays waiting)) (none_kept stays first.changes one is)
      ∙ others
  by false is others =
      ap (λ (batch : Batch). cond (has_changes batch) (batch ∷ left stays waiting) (left stays waiting)) (all_kept stays first is)
      ∙ ap (λ (some : Bool). cond some (first ∷ left stays waiting) (left stays waiting)) (has_one first one)
      ∙ ap (λ (batches : List Batch). first ∷ batches) others

-- the running batch goes with its change, and no number is used for it
running_is : (stays : ℕ → Bool) (number : ℕ) (batch : Batch) (waiting : List Batch) → RunsAlone batch
    → (running_taken stays number (Some batch) waiting ≡ beside (running_kept stays (Some batch)) waiting)
    × (running_back_uses (loses stays batch) batch (only stays batch) ≡ 0)
running_is stays number batch waiting runs = by (loses stays batch) (is_landing batch.stage) refl runs.1 where
  by : (lost lands : Bool) → loses stays batch ≡ lost → lands ≡ false
      → ((if lost && not lands then beside None (back number (only stays batch) waiting) else beside (Some batch) waiting) ≡ beside (if lost then None else Some batch) waiting)
      × ((if lost && not lands then back_uses (only stays batch) else 0) ≡ 0)
  by lost true is lands = cc lands
  by false false is lands = (refl, refl)
  by true false is lands =
      let gone = none_kept stays batch.changes runs.0 is in (
        ap (λ (changes : List ℕ). beside None (back number (record batch { changes = changes }) waiting)) gone,
        ap (λ (changes : List ℕ). back_uses (record batch { changes = changes })) gone,
      )

taken_out_is : (stays : ℕ → Bool) (number : ℕ) (lane : Lane) → AreAlone lane → taken_out stays number lane ≡ kept stays lane
taken_out_is stays number lane is =
    ap (running_taken stays number lane.running) (left_is stays lane.waiting is.waiting) ∙ by lane.running is.running where
      by : (running : Option Batch) → IfSome running RunsAlone
          → running_taken stays number running (filter (keeps stays) lane.waiting) ≡ beside (running_kept stays running) (filter (keeps stays) lane.waiting)
      by None runs = refl
      by (Some batch) runs = (running_is stays number batch (filter (keeps stays) lane.waiting) runs).0

taken_out_uses_none : (stays : ℕ → Bool) (lane : Lane) → AreAlone lane → taken_out_uses stays lane ≡ 0
taken_out_uses_none stays lane is = by lane.running is.running where
  by : (running : Option Batch) → IfSome running RunsAlone → taken_out_uses stays (beside running lane.waiting) ≡ 0
  by None runs = refl
  by (Some batch) runs = (running_is stays 0 batch lane.waiting runs).1

taken_out_alone : (stays : ℕ → Bool) (number : ℕ) (lane : Lane) → AreAlone lane → AreAlone (taken_out stays number lane)
taken_out_alone stays number lane is =
    subst AreAlone (sym (taken_out_is stays number lane is)) (record {
      waiting = All-filter (keeps stays) IsAlone lane.waiting is.waiting;
      running = by lane.running is.running;
    }) where
      by : (running : Option Batch) → IfSome running RunsAlone → IfSome (running_kept stays running) RunsAlone
      by None runs = tt
      by (Some batch) runs = lost (loses stays batch) where
        lost : (b : Bool) → IfSome (if b then None else Some batch) RunsAlone
        lost true = tt
        lost false = runs

-- FAIL: a batch of one change is dropped
not_several : (batch : Batch) → IsAlone batch → has_several batch ≡ false
not_several batch one = grind (arith, nat_tests)

failed_is : (number : ℕ) (lane : Lane) → AreAlone lane → failed number lane ≡ dropped lane
failed_is number lane is = by lane.running is.running where
  by : (running : Option Batch) → IfSome running RunsAlone → running_failed number running lane.waiting ≡ dropped lane
  by None runs = refl
  by (Some batch) runs =
      ap (λ (several : Bool). record { running = None; waiting = if several then split_into number batch lane.waiting else lane.waiting }) (not_several batch runs.0)

failed_uses_none : (lane : Lane) → AreAlone lane → failed_uses lane ≡ 0
failed_uses_none lane is = by lane.running is.running where
  by : (running : Option Batch) → IfSome running RunsAlone → failed_uses (beside running lane.waiting) ≡ 0
  by None runs = refl
  by (Some batch) runs = ap (λ (several : Bool). if several then 2 else 0) (not_several batch runs.0)

-- ALL ELSE that is done to a lane
tried_alone : (number change : ℕ) (lane : Lane) → AreAlone lane → AreAlone (tried number change lane)
tried_alone number change lane is = record { waiting = placed_alone (try_of number change) lane.waiting refl is.waiting; running = is.running }

dropped_alone : (lane : Lane) → AreAlone lane → AreAlone (dropped lane)
dropped_alone lane is = record { waiting = is.waiting; running = tt }

restarted_alone : (number : ℕ) (lane : Lane) → AreAlone lane → AreAlone (restarted number lane)
restarted_alone number lane is = by lane.running is.running where
  by : (running : Option Batch) → IfSome running RunsAlone → AreAlone (running_restarted number running lane.waiting)
  by None runs = record { waiting = is.waiting; running = tt }
  by (Some batch) runs = goes (not (is_landing batch.stage)) where
    goes : (b : Bool) → AreAlone (cond b (record { running = None; waiting = back number batch lane.waiting }) (record { running = Some batch; waiting = lane.waiting }))
    goes true = record { waiting = back_alone number batch lane.waiting (λ some. runs.0) is.waiting; running = tt }
    goes false = record { waiting = is.waiting; running = runs }

started_alone : (now : ℕ) (lane : Lane) → AreAlone lane → AreAlone (started now lane)
started_alone now lane is = by lane.running lane.waiting is.running is.waiting where
  by : (running : Option Batch) (waiting : List Batch) → IfSome running RunsAlone → All IsAlone waiting → AreAlone (started_beside now running waiting)
  by None [] runs all = record { waiting = all; running = tt }
  by None (first ∷ waiting) runs all = record { waiting = All-tail IsAlone first waiting all; running = (All-head IsAlone first waiting all, refl) }
  by (Some batch) waiting runs all = record { waiting = all; running = runs }

staged_alone : (now : ℕ) (commit : List ℕ) (lane : Lane) → AreAlone lane → AreAlone (staged now commit lane)
staged_alone now commit lane is = by lane.running is.running where
  by : (running : Option Batch) → IfSome running RunsAlone → AreAlone (staged now commit (beside running lane.waiting))
  by None runs = record { waiting = is.waiting; running = tt }
  by (Some batch) runs = record { waiting = is.waiting; running = (runs.0, refl) }

reported_tested : (name : List ℕ) (report : Report) (at : Stage) → is_landing at ≡ false → is_landing (with_report name report at) ≡ false
reported_tested name report stage.Waiting is = refl
reported_tested name report (stage.Ordered since) is = refl
reported_tested name report (stage.Staged since commit reports) is = refl
reported_tested name report (stage.Landing commit) is = is

reported_alone : (name : List ℕ) (report : Report) (lane : Lane) → AreAlone lane → AreAlone (reported name report lane)
reported_alone name report lane is = by lane.running is.running where
  by : (running : Option Batch) → IfSome running RunsAlone → AreAlone (reported name report (beside running lane.waiting))
  by None runs = record { waiting = is.waiting; running = tt }
  by (Some batch) runs = record { waiting = is.waiting; running = (runs.0, reported_tested name report batch.stage runs.1) }

pub singles_law : LawOfSingles
singles_law number lane alone = record {
  enqueue_try = λ change. tried_alone number change lane alone;
  take_out = λ stays. (taken_out_alone stays number lane alone, taken_out_uses_none stays lane alone);
  restart = restarted_alone number lane alone;
  fail = (failed_is number lane alone, failed_uses_none lane alone);
  start = λ now. started_alone now lane alone;
  stage = λ now commit. staged_alone now commit lane alone;
  report = λ name report. reported_alone name report lane alone;
  drop = dropped_alone lane alone;
}
