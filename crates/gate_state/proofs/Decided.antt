-- The tests of a state's parts decide whether it is a state.
use Rattle.std.proofs.Common.{◌≡◌, ◌≤◌, ℕ, eqb, false, not, ◌&&◌, List, length, if◌then◌else◌, refl, ap, arith}
use Rattle.std.proofs.lemmas.Bool.{not-true}
use Rattle.std.proofs.lemmas.Bool.Decides.{Decides-and, Decides-eqb, Decides-like}
use Rattle.std.specs.Bool.{Decides}
use Rattle.std.specs.Cmp.Lexicographic.{nat_list_cmp_total}
use Rattle.std.specs.FinMap.{nat_cmp-IsAntisymmetric, slice_cmp-IsAntisymmetric}
use Rattle.std.specs.List.{list_all}
use Rattle.std.specs.Prelude.{nat_lt}
use Rattle.gate_rules.specs.View.{DeskView, is_required}
use Rattle.gate_state.specs.Checks.{fit_numbers, have_other_numbers, fits_order, is_branch, is_waiting, fits_waiting, fits_underway, fits_running, fits_lane, has_one, are_alone, fits_queue, fits}
use Rattle.gate_state.specs.Counts.{uses}
use Rattle.gate_state.specs.Lanes.{batches_of, goes_before, has_changes, is_landing}
use Rattle.gate_state.specs.Service.{QueueIsInOrder, IsAlone, AreAlone}
use Rattle.gate_state.specs.State.{IsWaiting, IsUnderway, IsRunning, IsBranch, IsQueue, IsState, marks_on}
use Rattle.gate_state.specs.declared.batch.Batch.{Batch}
use Rattle.gate_state.specs.declared.batch.Branch.{Branch}
use Rattle.gate_state.specs.declared.batch.Branch.TheVariants.{Staging, Trying}
use Rattle.gate_state.specs.declared.batch.Stage.{Stage}
use Rattle.gate_state.specs.declared.batch.Stage.TheVariants.{Waiting, Ordered, Staged, Landing}
use Rattle.gate_state.specs.declared.lane.Lane.{Lane}
use Rattle.gate_state.specs.declared.queue.Queue.{Queue}
use Rattle.gate_state.specs.declared.state.State.{State}
use Rattle.gate_state.proofs.Deciding.{Decides-itself, Decides-some, Decides-list_all, Decides-all_pairs, Decides-none, Decides-different, Decides-each, Decides-keys}
use Rattle.gate_state.proofs.Desks.{Decides-le, Decides-desk}
use Rattle.gate_state.proofs.Places.{Decides-places}

-- NUMBERS AND SERVICE
abbrev number_of : Batch → ℕ
number_of batch = batch.number

Decides-numbers : (next : ℕ) (batches : List Batch) → Decides (fit_numbers next batches) ((number : ℕ) → uses number batches ≤ (if nat_lt number next then 1 else 0))
Decides-numbers next batches =
    Decides-like _ (λ is number. grind (arith, is.0 number, is.1 number)) (λ at_most. (λ number some. grind (arith, at_most number), λ number. grind (arith, at_most number)))
    (Decides-and _ _ (Decides-each number_of (λ number. nat_lt number next) batches) (Decides-different number_of batches))

Decides-other_numbers : (ones others : List Batch) → Decides (have_other_numbers ones others) ((number : ℕ) → 1 ≤ uses number ones → uses number others ≡ 0)
Decides-other_numbers ones others =
    Decides-like _ (λ is number some. (Decides-none number_of number others).0 (is number some)) (λ none number some. (Decides-none number_of number others).1 (none number some))
    (Decides-each number_of (λ number. list_all (λ (other : Batch). not (eqb number other.number)) others) ones)

Decides-order : (queue : Queue) → Decides (fits_order queue) (QueueIsInOrder queue)
Decides-order queue =
    Decides-like _
    (λ is. record {
      staging = record { service = is.0.1; numbers = is.0.0.0.0 };
      trying = record { service = is.1; numbers = is.0.0.0.1 };
      apart = λ number. grind (arith, is.0.0.0.0 number, is.0.0.0.1 number, is.0.0.1 number);
    })
    (λ is. ((((is.staging.numbers, is.trying.numbers), λ number some. grind (arith, is.apart number)), is.staging.service), is.trying.service))
    (Decides-and _ _ (Decides-and _ _ (Decides-and _ _ (Decides-and _ _ (Decides-numbers queue.next (batches_of queue.staging)) (Decides-numbers queue.next (batches_of queue.trying)))
    (Decides-other_numbers (batches_of queue.staging) (batches_of queue.trying))) (Decides-all_pairs goes_before queue.staging.waiting)) (Decides-all_pairs goes_before queue.trying.waiting))

-- STAGES
Decides-branch : (one other : Branch) → Decides (is_branch one other) (one ≡ other)
Decides-branch one other = (λ is. grind arith, λ is. grind arith)

Decides-waits : (stage : Stage) → Decides (is_waiting stage) (stage ≡ Waiting)
Decides-waits stage = (λ is. grind arith, λ is. grind arith)

Decides-waiting : (on : Branch) (batch : Batch) → Decides (fits_waiting on batch) (IsWaiting on batch)
Decides-waiting on batch =
    Decides-like _ (λ is. record { branch = is.0.0; stage = is.0.1; changes = is.1 }) (λ is. ((is.branch, is.stage), is.changes))
    (Decides-and _ _ (Decides-and _ _ (Decides-branch batch.branch on) (Decides-waits batch.stage)) (Decides-itself (has_changes batch)))

Decides-underway : (desk : DeskView) (stage : Stage) → Decides (fits_underway desk stage) (IsUnderway desk.clock desk.settings stage)
Decides-underway desk Waiting = (λ is. cc, λ is. absurd is)
Decides-underway desk (Ordered since) = Decides-le since desk.clock
Decides-underway desk (Staged since commit reports) =
    Decides-and _ _ (Decides-le since desk.clock) (Decides-keys nat_list_cmp_total (slice_cmp-IsAntisymmetric nat_cmp-IsAntisymmetric) (is_required desk.settings) reports)
Decides-underway desk (Landing commit) = (λ _. tt, λ _. refl)

Decides-running : (desk : DeskView) (on : Branch) (batch : Batch) → Decides (fits_running desk on batch) (IsRunning on desk.clock desk.settings batch)
Decides-running desk on batch =
    Decides-like _ (λ is. record { branch = is.0.0; stage = is.0.1; changes = is.1 }) (λ is. ((is.branch, is.stage), is.changes))
    (Decides-and _ _ (Decides-and _ _ (Decides-branch batch.branch on) (Decides-underway desk batch.stage)) (Decides-itself (has_changes batch)))

-- THE BATCHES OF A BRANCH
Decides-lane : (on : Branch) (desk : DeskView) (lane : Lane) → Decides (fits_lane desk on lane) (IsBranch on desk.clock desk.settings (marks_on on desk) lane)
Decides-lane on desk lane =
    Decides-like _
    (λ is. record { waiting = is.0.0; running = is.0.1; places = is.1.places; priorities = is.1.priorities; landing = is.1.landing })
    (λ is. ((is.waiting, is.running), record { places = is.places; priorities = is.priorities; landing = is.landing }))
    (Decides-and _ _ (Decides-and _ _ (Decides-list_all (fits_waiting on) (IsWaiting on) (Decides-waiting on) lane.waiting)
    (Decides-some (fits_running desk on) (IsRunning on desk.clock desk.settings) (Decides-running desk on) lane.running)) (Decides-places on desk lane))

Decides-alone : (lane : Lane) → Decides (are_alone lane) (AreAlone lane)
Decides-alone lane =
    Decides-like _ (λ is. record { waiting = is.0; running = is.1 }) (λ is. (is.waiting, is.running))
    (Decides-and _ _ (Decides-list_all has_one IsAlone one lane.waiting) (Decides-some (λ batch. has_one batch && not (is_landing batch.stage)) (λ batch. IsAlone batch × (is_landing batch.stage ≡ false)) tested lane.running)) where
      one : (batch : Batch) → Decides (has_one batch) (IsAlone batch)
      one batch = Decides-eqb (length batch.changes) 1

      tested : (batch : Batch) → Decides (has_one batch && not (is_landing batch.stage)) (IsAlone batch × (is_landing batch.stage ≡ false))
      tested batch = Decides-and _ _ (one batch) (λ is. not-true _ is, λ is. ap not is)

-- A STATE
Decides-queue : (desk : DeskView) (queue : Queue) → Decides (fits_queue desk queue) (IsQueue desk queue)
Decides-queue desk queue =
    Decides-like _ (λ is. record { order = is.0.0.0; staging = is.0.0.1; trying = is.0.1; alone = is.1 }) (λ is. (((is.order, is.staging), is.trying), is.alone))
    (Decides-and _ _ (Decides-and _ _ (Decides-and _ _ (Decides-order queue) (Decides-lane Staging desk queue.staging)) (Decides-lane Trying desk queue.trying)) (Decides-alone queue.trying))

pub Decides-fits : (s : State) → Decides (fits s) (IsState s)
Decides-fits s =
    Decides-like _ (λ is. record { desk = is.0.0; low = is.0.1.0; high = is.0.1.1; queue = is.1 }) (λ is. ((is.desk, (is.low, is.high)), is.queue))
    (Decides-and _ _ (Decides-and _ _ (Decides-desk s.desk) (Decides-and _ _ (Decides-le _ _) (Decides-le _ _))) (Decides-queue s.desk s.queue))
