-- Each failure of a batch that has a change halves what the change is confined to, until nothing has it.
use Rattle.std.proofs.Common.{◌≡◌, ◌≤◌, ◌+◌, ◌-◌, ◌*◌, ◌/◌, ◌^◌, ℕ, zero, suc, eqb, Bool, true, false, ◌||◌, if◌then◌else◌, List, [], ◌∷◌, length, Option, Some, None, IfSome, refl, sym, ◌∙◌, ap, subst, arith}
use Rattle.std.proofs.Math.Nat.{pow-suc}
use Rattle.std.proofs.lemmas.Bool.{and_parts, ltb-true}
use Rattle.std.proofs.lemmas.List.{length-take, length-drop}
use Rattle.std.proofs.lemmas.List.Elements.{All-nil, All-cons, All-head, All-tail}
use Rattle.std.proofs.lemmas.List.Sums.{sum_by-cons}
use Rattle.std.specs.List.{sum_by}
use Rattle.std.specs.Option.{option_map_or}
use Rattle.gate_queue.specs.Vocabulary.{is_landed, look, Act, Batch, Lane, State}
use Rattle.gate_state.specs.Counts.{held, held_by, of_any_priority}
use Rattle.gate_state.specs.Lanes.{failed, has_several, running_failed, split_into}
use Rattle.gate_state.specs.State.{IsState}
use Rattle.gate_progress.specs.Halving.{IsConfined, LawOfHalving, LawOfSparing, fails_with, failures_with, is_blamed_by, is_in, is_spared_by, leaves_alone}
use Rattle.gate_queue.specs.Machine.{after, has_running}
use Rattle.gate_queue.specs.Progress.{CanCome, after_all, each_of, fails}
use Rattle.gate_queue.proofs.Choosing.{by_option, either_way}
use Rattle.gate_progress.proofs.Confined.{AllWait, IsSmall, Waits, after_confined, split_waits, started_confined}
use Rattle.gate_queue.proofs.Failing.{after_failure}
use Rattle.gate_queue.proofs.Keeping.{none_there, some_there}
use Rattle.gate_progress.proofs.Sparing.{Stands, after_stands, blamed_beside, stands_is}
use Rattle.gate_queue.proofs.States.{still_state, still_states}

module _ (change : ℕ) where
  -- WHERE NOTHING HAS THE CHANGE
  abbrev holds : Batch → ℕ
  holds batch = held_by of_any_priority change batch

  pub wait_if_none : (size : ℕ) (waiting : List Batch) → sum_by holds waiting ≡ 0 → AllWait change size waiting
  wait_if_none size [] none = All-nil (Waits change size)
  wait_if_none size (first ∷ waiting) none =
      let sum = sum_by-cons holds first waiting in
      All-cons (Waits change size) first waiting (λ there. absurd (omega (arith, sum, none, some_there change first.changes there))) (wait_if_none size waiting (omega (arith, sum)))

  not_in : (batch : Batch) → IsSmall change 0 batch → is_in change batch ≡ false
  not_in batch small = by batch.changes small where
    by : (changes : List ℕ) → IsSmall change 0 (record batch { changes = changes }) → is_in change (record batch { changes = changes }) ≡ false
    by [] small = refl
    by (first ∷ changes) small = grind arith

  none_if_wait : (waiting : List Batch) → AllWait change 0 waiting → sum_by holds waiting ≡ 0
  none_if_wait [] all = refl
  none_if_wait (first ∷ waiting) all =
      let here = All-head (Waits change 0) first waiting all in
      omega (arith, sum_by-cons holds first waiting, none_there change first.changes (not_in first (λ there. (here there).1)), none_if_wait waiting (All-tail (Waits change 0) first waiting all))

  -- so that it isn't approved, and no batch fails with it
  pub none_held : (lane : Lane) → IsConfined change 0 lane → (held of_any_priority change lane ≡ 0) × (has_running (is_in change) lane ≡ false)
  none_held lane is =
      by_option (λ running. IfSome running (IsSmall change 0) → (held of_any_priority change (beside running) ≡ 0) × (has_running (is_in change) (beside running) ≡ false)) (λ small. (waits, refl))
      (λ batch small. let out = not_in batch small in (omega (arith, sum_by-cons holds batch lane.waiting, none_there change batch.changes out, waits), out)) lane.running is.running where
        beside : Option Batch → Lane
        beside running = record { running = running; waiting = lane.waiting }

        waits : sum_by holds lane.waiting ≡ 0
        waits = none_if_wait lane.waiting is.waiting

  -- A change is in one batch at the most.
  pub held_once : (s : State) → IsState s → held of_any_priority change s.queue.staging ≤ 1
  held_once s is = let places = is.queue.staging.places change in grind arith

  none_beside : (batch : Batch) (waiting : List Batch) → held of_any_priority change (record { running = Some batch; waiting = waiting }) ≤ 1 → is_in change batch ≡ true → sum_by holds waiting ≡ 0
  none_beside batch waiting once there = omega (arith, once, sum_by-cons holds batch waiting, some_there change batch.changes there)

  -- A FAILURE
  failed_halves : (size less number : ℕ) (lane : Lane) → (2 ≤ size → size ≤ 2 * less) → held of_any_priority change lane ≤ 1 → has_running (is_in change) lane ≡ true
      → IsConfined change size lane → IsConfined change less (failed number lane)
  failed_halves size less number lane half once there is = by lane.running once there is.running where
    by : (running : Option Batch) → held of_any_priority change (record { running = running; waiting = lane.waiting }) ≤ 1 → option_map_or (is_in change) running false ≡ true
        → IfSome running (IsSmall change size) → IsConfined change less (running_failed number running lane.waiting)
    by None once there small = cc there
    by (Some batch) once there small = record { running = tt; waiting = either_way (AllWait change less) (has_several batch) _ lane.waiting two (λ single. none) } where
      none : AllWait change less lane.waiting
      none = wait_if_none less lane.waiting (none_beside batch lane.waiting once there)

      two : has_several batch ≡ true → AllWait change less (split_into number batch lane.waiting)
      two several =
          let more = ltb-true 1 (length batch.changes) several in
          let most = small there in
          split_waits change less number batch lane.waiting (λ some. omega (arith, length-take (length batch.changes / 2) batch.changes)) (λ some. omega (arith, length-drop (length batch.changes / 2) batch.changes)) none

-- THE LARGEST BATCH with the change, if so many failures may still come
abbrev largest : ℕ → ℕ
largest zero = 0
largest (suc left) = 2 ^ left

halves : (left : ℕ) → 2 ≤ largest (suc left) → largest (suc left) ≤ 2 * largest left
halves zero more = absurd (omega arith)
halves (suc left) more = omega (arith, pow-suc 2 left)

module _ (change : ℕ) where
  abbrev IsLeft : ℕ → State → Type 0
  IsLeft left s = IsConfined change (largest left) s.queue.staging

  record StaysHalved (left : ℕ) (s : State) (acts : List Act) : Type 0 where
    few : failures_with change s acts ≤ left
    confined : IsLeft (left - failures_with change s acts) (after_all s acts)

  as_many : (left fewer : ℕ) (s : State) → left ≡ fewer → IsLeft left s → IsLeft fewer s
  as_many left fewer s same is = subst (λ n. IsLeft n s) same is

  stays_halved : (left : ℕ) (s : State) (acts : List Act) → IsState s → CanCome s acts → each_of (leaves_alone change) s acts ≡ true → IsLeft left s → StaysHalved left s acts
  stays_halved left s [] is can others confined = record { few = omega arith; confined = as_many left _ s (omega arith) confined }
  stays_halved left s (act ∷ acts) is (room, limits, can) others confined =
      let beside = and_parts (leaves_alone change s act) (each_of (leaves_alone change) (after s act) acts) others in
      by beside.0 (λ fewer so. stays_halved fewer (after s act) acts (still_state s is room act limits) can beside.1 so) left (fails_with change s act) refl confined where
        next : (one : Bool) (left fewer : ℕ) → fails_with change s act ≡ one → (if one then 1 else 0) + fewer ≡ left → StaysHalved fewer (after s act) acts → StaysHalved left s (act ∷ acts)
        next one left fewer so less rest =
            let count = ap (λ (b : Bool). (if b then 1 else 0) + failures_with change (after s act) acts) so in
            record { few = omega (arith, less, rest.few, count); confined = as_many _ _ (after_all s (act ∷ acts)) (omega (arith, less, rest.few, count)) rest.confined }

        parts : fails_with change s act ≡ true → (fails s act ≡ true) × (has_running (is_in change) s.queue.staging ≡ true)
        parts so = and_parts (fails s act) (has_running (is_in change) s.queue.staging) so

        by : leaves_alone change s act ≡ true → ((fewer : ℕ) → IsLeft fewer (after s act) → StaysHalved fewer (after s act) acts) → (left : ℕ) (one : Bool) → fails_with change s act ≡ one → IsLeft left s
            → StaysHalved left s (act ∷ acts)
        by not_on rest left false so confined = next false left left so (omega arith) (rest left (after_confined change (largest left) s act not_on confined))
        by not_on rest zero true so confined = cc (sym (parts so).1 ∙ (none_held change s.queue.staging confined).1)
        by not_on rest (suc left) true so confined =
            let lane = failed_halves change (largest (suc left)) (largest left) s.queue.next s.queue.staging (halves left) (held_once change s is) (parts so).1 confined in
            next true (suc left) left so (omega arith) (rest left (after_failure s (IsConfined change (largest left)) lane (started_confined change (largest left)) act (parts so).0))

-- A change in the batch that runs is confined to so many changes as that has.
pub confined_at_first : (change size : ℕ) (s : State) (batch : Batch) → IsState s → s.queue.staging.running ≡ Some batch → is_in change batch ≡ true → length batch.changes ≤ size → IsConfined change size s.queue.staging
confined_at_first change size s batch is runs there small =
    let once = subst (λ (running : Option Batch). held of_any_priority change (record { running = running; waiting = s.queue.staging.waiting }) ≤ 1) runs (held_once change s is) in
    record {
      running = subst (λ (running : Option Batch). IfSome running (IsSmall change size)) (sym runs) (λ so. small);
      waiting = wait_if_none change size s.queue.staging.waiting (none_beside change batch s.queue.staging.waiting once there);
    }

pub halving_law : LawOfHalving
halving_law s batch change steps acts is can runs there small others = record {
  most = omega (arith, left.few);
  confined = λ fewer. as_many change _ (suc (steps - failures_with change s acts)) (after_all s acts) (omega (arith, fewer)) left.confined;
  ended = λ all.
      let none = none_held change (after_all s acts).queue.staging (as_many change _ zero (after_all s acts) (omega (arith, all)) left.confined) in
      let places = (still_states s acts is can).queue.staging.places change in
      grind (arith, none.0);
} where
  left : StaysHalved change (suc steps) s acts
  left = stays_halved change (suc steps) s acts is can others (confined_at_first change (2 ^ steps) s batch is runs there small)

-- WHAT IS SPARED
module _ (blamed change : ℕ) (differs : eqb blamed change ≡ false) where
  all_stand : (s : State) (acts : List Act) → IsState s → CanCome s acts → each_of (is_blamed_by blamed) s acts ≡ true → each_of (is_spared_by change) s acts ≡ true
      → Stands change s.desk → Stands change (after_all s acts).desk
  all_stand s [] is can fail spared stands = stands
  all_stand s (act ∷ acts) is (room, limits, can) fail spared stands =
      let failing = and_parts (is_blamed_by blamed s act) (each_of (is_blamed_by blamed) (after s act) acts) fail in
      let sparing = and_parts (is_spared_by change s act) (each_of (is_spared_by change) (after s act) acts) spared in
      all_stand (after s act) acts (still_state s is room act limits) can failing.1 sparing.1
      (after_stands change s act is sparing.0 (λ failed. blamed_beside change blamed differs s (grind (arith, failing.0, failed))) stands)

pub sparing_law : LawOfSparing
sparing_law s blamed change acts is can approved differs fail spared =
    sym (stands_is change (after_all s acts).desk) ∙ all_stand blamed change differs s acts is can fail spared (stands_is change s.desk ∙ ap (λ (b : Bool). b || is_landed (look s.desk) change) approved)
