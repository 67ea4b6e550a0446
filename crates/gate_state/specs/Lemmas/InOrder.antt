-- A lane in order stays so, whatever is done to it.
use Rattle.std.proofs.Common.{◌≡◌, ◌≤◌, ℕ, ℤ, ◌+◌, eqb, ltb, Bool, true, false, List, [], ◌∷◌, if◌then◌else◌, Option, Some, None, ◌∙◌, ap, subst, arith}
use Rattle.std.proofs.lemmas.Bool.Decides.{nat_tests}
use Rattle.gate_state.specs.Lemmas.Counts.{sum-placed}
use Rattle.gate_state.specs.Lemmas.Numbers.{has_number, all_uses, left_uses, numbers_law}
use Rattle.gate_state.specs.Lemmas.Service.{behind_first, placed_in_service, left_in_service, joined_in_service}
use Rattle.gate_state.specs.Counts.{uses}
use Rattle.gate_state.specs.Lanes as lanes
use Rattle.gate_state.specs.Lanes.{batches_of, placed, fresh, try_of, retried, entered, joins, only, has_changes, back, left, stops_running, running_back, first_half, second_half, split_into}
use Rattle.gate_state.specs.Service.{IsInService, IsInOrder, OnlyNew, LawOfOrder}
use Rattle.gate_state.specs.declared.batch.Batch.{Batch}
use Rattle.gate_state.specs.declared.lane.Lane.{Lane}

abbrev IsServed : Lane → Type 0
IsServed lane = IsInService lane.waiting

-- WHAT WAITS is in order after what is done to a lane.
module _ (next : ℕ) where
  back_in_service : (batch : Batch) (waiting : List Batch) → IsInService waiting → uses next waiting ≡ 0 → IsInService (back next batch waiting)
  back_in_service batch waiting h k = by (has_changes batch) where
    by : (some : Bool) → IsInService (if some then placed (retried next batch) waiting else waiting)
    by true = placed_in_service (retried next batch) waiting h k
    by false = h

  running_back_in_service : (goes : Bool) (batch rest : Batch) (waiting : List Batch) → IsInService waiting → uses next waiting ≡ 0
      → IsServed (running_back goes next batch rest waiting)
  running_back_in_service goes batch rest waiting h k = by (stops_running goes batch) where
    by : (stops : Bool) → IsServed (if stops then record { running = None; waiting = back next rest waiting } else record { running = Some batch; waiting = waiting })
    by true = back_in_service rest waiting h k
    by false = h

  split_in_service : (batch : Batch) (waiting : List Batch) → IsInService waiting → uses next waiting ≡ 0 → uses (next + 1) waiting ≡ 0 → IsInService (split_into next batch waiting)
  split_in_service batch waiting h k l =
      let first = retried next (first_half batch) in
      let other : eqb (next + 1) next ≡ false = grind (arith, nat_tests) in
      let both = sum-placed (has_number (next + 1)) first waiting ∙ ap (λ (same : Bool). (if same then 1 else 0) + uses (next + 1) waiting) other in
      placed_in_service (retried (next + 1) (second_half batch)) (placed first waiting) (placed_in_service first waiting h k) (omega (arith, both, l))

  module _ (lane : Lane) (h : IsInOrder next lane) where
    -- no waiting batch has a number that is still to come
    to_come : (number : ℕ) → next ≤ number → uses number lane.waiting ≡ 0
    to_come number later =
        let most : uses number (batches_of lane) ≤ (if ltb number next then 1 else 0) = h.numbers number in
        let apart = all_uses number lane in
        grind (arith, nat_tests)

    in_order : (count : ℕ) (after : Lane) → OnlyNew next count lane after → IsServed after → IsInOrder (next + count) after
    in_order count after new service = record { service = service; numbers = numbers } where
      numbers : (number : ℕ) → uses number (batches_of after) ≤ (if ltb number (next + count) then 1 else 0)
      numbers number =
          let before = h.numbers number in
          let more = new.all number in
          grind (arith, nat_tests)

    -- if no new number is used
    in_order_still : (after : Lane) → OnlyNew next 0 lane after → IsServed after → IsInOrder next after
    in_order_still after new service =
        let same : next + 0 ≡ next = omega arith in
        subst (λ number. IsInOrder number after) same (in_order 0 after new service)

    free : uses next lane.waiting ≡ 0
    free = to_come next (omega arith)

    entered_in_service : (priority : ℤ) (change : ℕ) (place : Option ℕ) → IsInService (entered next priority change lane.waiting place)
    entered_in_service priority change None = placed_in_service (fresh next priority change) lane.waiting h.service free
    entered_in_service priority change (Some place) = joined_in_service change lane.waiting place h.service

    tried_in_service : (change : ℕ) → IsInService (placed (try_of next change) lane.waiting)
    tried_in_service change = placed_in_service (try_of next change) lane.waiting h.service free

    taken_in_service : (stays : ℕ → Bool) (running : Option Batch) → IsServed (lanes.running_taken stays next running (left stays lane.waiting))
    taken_in_service stays None = left_in_service stays lane.waiting h.service
    taken_in_service stays (Some batch) =
        running_back_in_service (lanes.loses stays batch) batch (only stays batch) (left stays lane.waiting)
        (left_in_service stays lane.waiting h.service) (omega (arith, free, left_uses next stays lane.waiting))

    restarted_in_service : (running : Option Batch) → IsServed (lanes.running_restarted next running lane.waiting)
    restarted_in_service None = h.service
    restarted_in_service (Some batch) = running_back_in_service true batch batch lane.waiting h.service free

    requeued_in_service : (stays : ℕ → Bool) (running : Option Batch) → IsServed (lanes.running_requeued stays next running lane.waiting)
    requeued_in_service stays None = h.service
    requeued_in_service stays (Some batch) = back_in_service (only stays batch) lane.waiting h.service free

    failed_in_service : (running : Option Batch) → IsServed (lanes.running_failed next running lane.waiting)
    failed_in_service None = h.service
    failed_in_service (Some batch) = by (lanes.has_several batch) where
      by : (several : Bool) → IsInService (if several then split_into next batch lane.waiting else lane.waiting)
      by true = split_in_service batch lane.waiting h.service free (to_come (next + 1) (omega arith))
      by false = h.service

started_in_service : (now : ℕ) (running : Option Batch) (waiting : List Batch) → IsInService waiting → IsServed (lanes.started_beside now running waiting)
started_in_service now None [] h = h
started_in_service now None (first ∷ waiting) h = behind_first first waiting h
started_in_service now (Some batch) waiting h = h

pub order_law : LawOfOrder
order_law next lane h =
    let news = numbers_law next lane in
    record {
      enqueue = λ size priority change.
          in_order next lane h _ _ (news.enqueue size priority change) (entered_in_service next lane h priority change (joins size priority lane.waiting));
      enqueue_try = λ change. in_order next lane h _ _ (news.enqueue_try change) (tried_in_service next lane h change);
      take_out = λ stays. in_order next lane h _ _ (news.take_out stays) (taken_in_service next lane h stays lane.running);
      restart = in_order next lane h _ _ news.restart (restarted_in_service next lane h lane.running);
      requeue = λ stays. in_order next lane h _ _ (news.requeue stays) (requeued_in_service next lane h stays lane.running);
      fail = in_order next lane h _ _ news.fail (failed_in_service next lane h lane.running);
      start = λ now. in_order_still next lane h _ (news.start now) (started_in_service now lane.running lane.waiting h.service);
      stage = λ now commit. in_order_still next lane h _ (news.stage now commit) h.service;
      report = λ name report. in_order_still next lane h _ (news.report name report) h.service;
      land = in_order_still next lane h _ news.land h.service;
      drop = in_order_still next lane h _ news.drop h.service;
    }
