-- What is left of `Staging` by an act with which the running batch fails.
use Rattle.std.proofs.Common.{◌≡◌, ℕ, true, List, None, sym, subst, arith}
use Rattle.gate_queue.specs.Vocabulary.{Act, On, Other, Conflict, Status, Tick, StatusState, Lane, State}
use Rattle.gate_state.specs.Lanes.{failed, started}
use Rattle.gate_queue.specs.Machine.{after, denial}
use Rattle.gate_queue.specs.Progress.{fails, next_ordered}

-- THE PLACE: the batch has failed, and a tick orders the next one.
module _ (s : State) where
  abbrev left : Lane
  left = failed s.queue.next s.queue.staging

  conflict_place : (number : ℕ) → fails s (Other (Conflict number)) ≡ true → (after s (Other (Conflict number))).queue.staging ≡ left
  conflict_place number so = grind (arith, so)

  status_place : (commit name : List ℕ) (said : StatusState) → fails s (Other (Status commit name said)) ≡ true → (after s (Other (Status commit name said))).queue.staging ≡ left
  status_place commit name said so = grind (arith, so)

  tick_place : (now : ℕ) → fails s (Other (Tick now)) ≡ true → (after s (Other (Tick now))).queue.staging ≡ started now left
  tick_place now so = grind (arith, so)

  pub failed_place : (act : Act) → fails s act ≡ true → (after s act).queue.staging ≡ next_ordered act left
  failed_place (On change deed) so = cc so
  failed_place (Other (Conflict number)) so = conflict_place number so
  failed_place (Other (Status commit name said)) so = status_place commit name said so
  failed_place (Other (Tick now)) so = tick_place now so
  failed_place (Other fact) so = cc so

  -- what holds of it
  pub after_failure : (P : Lane → Type 0) → P left → ((now : ℕ) (lane : Lane) → P lane → P (started now lane)) → (act : Act) → fails s act ≡ true → P (after s act).queue.staging
  after_failure P ends starts act so = subst P (sym (failed_place act so)) (by act) where
    by : (act : Act) → P (next_ordered act left)
    by (Other (Tick now)) = starts now left ends
    by act = ends

  -- No rule denies it.
  pub failure_allowed : (act : Act) → fails s act ≡ true → denial s act ≡ None
  failure_allowed act so = grind (arith, so)
