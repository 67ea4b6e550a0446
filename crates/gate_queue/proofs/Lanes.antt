-- What is done to a lane leaves each batch as it was, but those that it is about. A batch is found by its number: of those that have
-- one, neither the order nor how many they are matters.
use Rattle.std.proofs.Common.{◌≡◌, ◌<◌, ◌≤◌, ◌+◌, ℕ, ℤ, suc, zero, eqb, Bool, true, false, not, ◌&&◌, List, [], ◌∷◌, ◌++◌, length, map, take, drop, slice_get, slice_set, Option, Some, None, is_some, refl, sym, ◌∙◌, ap, arith, take-append-drop}
use Rattle.std.proofs.lemmas.Bool.{not-false}
use Rattle.std.proofs.lemmas.Bool.Decides.{nat_tests}
use Rattle.std.proofs.lemmas.List.Elements.{All-head, All-tail, filter-append}
use Rattle.std.specs.List.{All, filter, find, list_all, list_any, position}
use Rattle.std.specs.Option.{option_and_then, option_map, option_or, unwrap_or}
use Rattle.gate_text.specs.LastWhere.{last_where}
use Rattle.gate_state.specs.Lanes.{back, batches_of, dropped, enqueued, entered, failed, first_half, fresh, goes_before, has_changes, has_several, if_room, is_fresh_of, last_so, left, loses, only, placed, requeued, restarted, retried, running_taken, second_half, split_into, started, taken_out, tried, try_of}
use Rattle.gate_state.specs.Lemmas.Counts.{all_stay}
use Rattle.gate_state.specs.State.{IsWaiting}
use Rattle.gate_queue.specs.Vocabulary.{Batch, Branch, Lane}
use Rattle.gate_queue.specs.MayChange.{is_numbered, one_numbered, is_in_front, is_run}
use Rattle.gate_queue.proofs.Choosing.{by_option, either_way}

abbrev last : List Batch → Option Batch
last [] = None
last (first ∷ batches) = option_or (last batches) (Some first)

-- BATCHES THAT PASS A TEST, before and after one is put in that doesn't
module _ (test : Batch → Bool) where
  pub filter-placed : (batch : Batch) (waiting : List Batch) → test batch ≡ false → filter test (placed batch waiting) ≡ filter test waiting
  filter-placed batch waiting fails =
      let place = unwrap_or (position (goes_before batch) waiting) (length waiting) in
      filter-append test (take place waiting) (batch ∷ drop place waiting)
      ∙ rw fails (sym (filter-append test (take place waiting) (drop place waiting)) ∙ ap (filter test) (take-append-drop place waiting))

  filter-back : (number : ℕ) (batch : Batch) (waiting : List Batch) → test (retried number batch) ≡ false → filter test (back number batch waiting) ≡ filter test waiting
  filter-back number batch waiting fails =
      either_way (λ batches. filter test batches ≡ filter test waiting) (has_changes batch) _ waiting (λ some. filter-placed (retried number batch) waiting fails) (λ none. refl)

  filter-set : (waiting : List Batch) (place : ℕ) (old new : Batch) → slice_get waiting place ≡ Some old → test old ≡ false → test new ≡ false
      → filter test (slice_set waiting place new) ≡ filter test waiting
  filter-set [] place old new is before after = refl
  filter-set (first ∷ waiting) zero old new is before after = grind arith
  filter-set (first ∷ waiting) (suc place) old new is before after = grind (arith, filter-set waiting place old new is before after)

  -- the first one found is the first of them
  pub find-filter : (batches : List Batch) → find test batches ≡ slice_get (filter test batches) 0
  find-filter [] = refl
  find-filter (first ∷ batches) = grind (arith, find-filter batches)

  -- and the last one is the last of them
  abbrev IsLast : List Batch → Option Batch → Option ℕ → Type 0
  IsLast batches found None = found ≡ None
  IsLast batches found (Some place) = (is_some found ≡ true) × (slice_get batches place ≡ found)

  last_there : (batches : List Batch) → IsLast batches (last (filter test batches)) (last_where test batches)
  last_there [] = refl
  last_there (first ∷ batches) = grind (arith, last_there batches)

  last_is : (batches : List Batch) → last_so test batches ≡ last (filter test batches)
  last_is batches = grind (arith, last_there)

-- THE LAST FRESH BATCH after some changes were taken out has the number of the last one that has others. One that waits again isn't fresh.
module _ (priority : ℤ) (stays : ℕ → Bool) where
  abbrev is_fresh : Batch → Bool
  is_fresh batch = is_fresh_of priority batch

  abbrev has_left : Batch → Bool
  has_left batch = is_fresh batch && list_any stays batch.changes

  some_left : (changes : List ℕ) → not (eqb (length (filter stays changes)) 0) ≡ list_any stays changes
  some_left [] = grind (arith, nat_tests)
  some_left (first ∷ changes) = grind (arith, nat_tests, some_left changes)

  fresh_left : (waiting : List Batch) → filter is_fresh (left stays waiting) ≡ map (only stays) (filter has_left waiting)
  fresh_left [] = refl
  fresh_left (first ∷ waiting) = grind (arith, fresh_left waiting, some_left first.changes)

  last_only : (batches : List Batch) → last (map (only stays) batches) ≡ option_map (only stays) (last batches)
  last_only [] = refl
  last_only (first ∷ batches) = grind (arith, last_only batches)

  fresh_taken : (number : ℕ) (running : Option Batch) (waiting : List Batch) → filter is_fresh (running_taken stays number running waiting).waiting ≡ filter is_fresh waiting
  fresh_taken number running waiting = grind (arith, λ (batch : Batch). filter-back is_fresh number (only stays batch) waiting refl)

  pub joined_later : (n number : ℕ) (lane : Lane) → is_numbered n (last_so is_fresh (taken_out stays number lane).waiting) ≡ is_numbered n (last_so has_left lane.waiting)
  joined_later n number lane =
      let front = last_is has_left lane.waiting in
      let left_over = last_is is_fresh (taken_out stays number lane).waiting ∙ ap last (fresh_taken number lane.running (left stays lane.waiting) ∙ fresh_left lane.waiting) ∙ last_only (filter has_left lane.waiting) in
      ap (is_numbered n) (left_over ∙ ap (option_map (only stays)) (sym front)) ∙ by_option (λ found. is_numbered n (option_map (only stays) found) ≡ is_numbered n found) refl (λ batch. refl) (last_so has_left lane.waiting)

-- MORE BATCHES WAIT, all under new numbers: each other batch is as it was, and none of those comes first that didn't.
abbrev has : ℕ → Batch → Bool
has n batch = eqb batch.number n

abbrev is_first : List Batch → ℕ → Bool
is_first waiting n = is_numbered n (slice_get waiting 0)

pub record MoreWait (next : ℕ) (waiting more : List Batch) : Type 0 where
  pub same : (n : ℕ) → n < next → filter (has n) more ≡ filter (has n) waiting
  pub first : (n : ℕ) → n < next → is_first waiting n ≡ false → is_first more n ≡ false

as_many : (next : ℕ) (waiting : List Batch) → MoreWait next waiting waiting
as_many next waiting = record { same = λ n old. refl; first = λ n old not_it. not_it }

yet_more : (next : ℕ) (waiting more most : List Batch) → MoreWait next waiting more → MoreWait next more most → MoreWait next waiting most
yet_more next waiting more most one other = grind arith

differs : (next number n : ℕ) → next ≤ number → n < next → eqb number n ≡ false
differs next number n later old = grind (arith, nat_tests)

-- what comes first is the new one, or the old first one
first_placed : (batch : Batch) (waiting : List Batch) (n place : ℕ) → has n batch ≡ false → is_first waiting n ≡ false → is_first (take place waiting ++ batch ∷ drop place waiting) n ≡ false
first_placed batch waiting n zero other not_it = other
first_placed batch [] n (suc place) other not_it = other
first_placed batch (first ∷ waiting) n (suc place) other not_it = not_it

placed_more : (next : ℕ) (batch : Batch) (waiting : List Batch) → next ≤ batch.number → MoreWait next waiting (placed batch waiting)
placed_more next batch waiting later = record {
  same = λ n old. filter-placed (has n) batch waiting (differs next batch.number n later old);
  first = λ n old not_it. first_placed batch waiting n (unwrap_or (position (goes_before batch) waiting) (length waiting)) (differs next batch.number n later old) not_it;
}

back_more : (next : ℕ) (batch : Batch) (waiting : List Batch) → MoreWait next waiting (back next batch waiting)
back_more next batch waiting = either_way (MoreWait next waiting) (has_changes batch) _ waiting (λ some. placed_more next (retried next batch) waiting (omega arith)) (λ none. as_many next waiting)

split_more : (next : ℕ) (batch : Batch) (waiting : List Batch) → MoreWait next waiting (split_into next batch waiting)
split_more next batch waiting =
    let first = retried next (first_half batch) in
    let second = retried (next + 1) (second_half batch) in
    yet_more next waiting (placed first waiting) (placed second (placed first waiting)) (placed_more next first waiting (omega arith)) (placed_more next second (placed first waiting) (omega arith))

-- A LANE keeps the batches of a number.
abbrev beside : Option Batch → List Batch → Lane
beside running waiting = record { running = running; waiting = waiting }

abbrev pub Same : ℕ → Lane → Lane → Type 0
Same n lane after = filter (has n) (batches_of after) ≡ filter (has n) (batches_of lane)

module _ (n : ℕ) where
  -- what runs is the same
  same_running : (running : Option Batch) (waiting more : List Batch) → filter (has n) more ≡ filter (has n) waiting → Same n (beside running waiting) (beside running more)
  same_running running waiting more same = grind arith

  module _ (next : ℕ) (old : n < next) (lane : Lane) where
    -- a change is queued, and the batch that it may join has another number
    entered_same : (size : Option ℕ) (priority : ℤ) (change : ℕ) (place : Option ℕ) → is_numbered n (option_and_then (slice_get lane.waiting) place) ≡ false
        → filter (has n) (entered next priority change lane.waiting (if_room size lane.waiting place)) ≡ filter (has n) lane.waiting
    entered_same size priority change place other =
        grind (arith, (placed_more next (fresh next priority change) lane.waiting (omega arith)).same n old, filter-set)

    pub enqueued_same : (size : Option ℕ) (priority : ℤ) (change : ℕ) → is_numbered n (last_so (is_fresh_of priority) lane.waiting) ≡ false → Same n lane (enqueued size next priority change lane)
    enqueued_same size priority change other =
        same_running lane.running lane.waiting _ (entered_same size priority change (last_where (is_fresh_of priority) lane.waiting) other)

    pub tried_same : (change : ℕ) → Same n lane (tried next change lane)
    tried_same change = same_running lane.running lane.waiting _ ((placed_more next (try_of next change) lane.waiting (omega arith)).same n old)

    -- What runs has another number, and goes back.
    pub restarted_same : is_numbered n lane.running ≡ false → Same n lane (restarted next lane)
    restarted_same other = grind (arith, λ (batch : Batch). (back_more next batch lane.waiting).same n old)

  -- TAKE OUT: a batch that loses nothing stays
  module _ (on : Branch) (stays : ℕ → Bool) where
    keeps_all : (batch : Batch) → loses stays batch ≡ false → only stays batch ≡ batch
    keeps_all batch keeps = ap (λ (changes : List ℕ). record batch { changes = changes }) (all_stay stays batch.changes (not-false (list_all stays batch.changes) keeps))

    left_same : (waiting : List Batch) → All (IsWaiting on) waiting → one_numbered (loses stays) waiting n ≡ false → filter (has n) (left stays waiting) ≡ filter (has n) waiting
    left_same [] all none = refl
    left_same (first ∷ waiting) all none =
        grind (arith, left_same waiting (All-tail (IsWaiting on) first waiting all), All-head (IsWaiting on) first waiting all, keeps_all first)

    pub taken_out_same : (next : ℕ) → n < next → (lane : Lane) → All (IsWaiting on) lane.waiting → one_numbered (loses stays) (batches_of lane) n ≡ false → Same n lane (taken_out stays next lane)
    taken_out_same next old lane all none =
        by_option (λ running. one_numbered (loses stays) (batches_of (beside running lane.waiting)) n ≡ false → Same n (beside running lane.waiting) (taken_out stays next (beside running lane.waiting)))
        (λ none. left_same lane.waiting all none)
        (λ batch none. grind (arith, left_same lane.waiting all, (back_more next (only stays batch) (left stays lane.waiting)).same n old)) lane.running none

    -- and if another batch runs before it, that still does, or none
    pub taken_running : (next : ℕ) (lane : Lane) → is_numbered n lane.running ≡ false → is_numbered n (taken_out stays next lane).running ≡ false
    taken_running next lane other = grind arith

  -- what loses nothing if only these stay, loses nothing if more do
  module _ (few many : ℕ → Bool) (more : (change : ℕ) → few change ≡ true → many change ≡ true) where
    all_stay_too : (changes : List ℕ) → list_all few changes ≡ true → list_all many changes ≡ true
    all_stay_too [] all = refl
    all_stay_too (first ∷ changes) all = grind (arith, all_stay_too changes, more first)

    pub none_loses : (batches : List Batch) → one_numbered (loses few) batches n ≡ false → one_numbered (loses many) batches n ≡ false
    none_loses [] none = refl
    none_loses (first ∷ batches) none = grind (arith, none_loses batches, all_stay_too first.changes)

  -- START: the first batch that waits, if none runs
  pub started_same : (now : ℕ) (lane : Lane) → is_in_front lane n ≡ false → Same n lane (started now lane)
  started_same now lane front = grind arith

-- NEWS leaves all batches but those in front, and puts no other in front. What doesn't run still doesn't.
pub record IsNews (next : ℕ) (lane after : Lane) : Type 0 where
  pub same : (n : ℕ) → n < next → is_in_front lane n ≡ false → Same n lane after
  pub front : (n : ℕ) → n < next → is_in_front lane n ≡ false → is_in_front after n ≡ false
  pub runs : (change : ℕ) → is_run change lane ≡ false → is_run change after ≡ false

pub no_news : (next : ℕ) (lane : Lane) → IsNews next lane lane
no_news next lane = record { same = λ n old front. refl; front = λ n old front. front; runs = λ change runs. runs }

pub later_news : (next later : ℕ) (lane after last : Lane) → next ≤ later → IsNews next lane after → IsNews later after last → IsNews next lane last
later_news next later lane after last rises one other = grind arith

-- what ran is gone, and more may wait
pub gone_news : (next : ℕ) (lane : Lane) (more : List Batch) → MoreWait next lane.waiting more → IsNews next lane (record { running = None; waiting = more })
gone_news next lane more wait = grind arith

pub failed_news : (next : ℕ) (lane : Lane) → IsNews next lane (failed next lane)
failed_news next lane =
    by_option (λ running. IsNews next (beside running lane.waiting) (failed next (beside running lane.waiting)))
    (no_news next (beside None lane.waiting))
    (λ batch. gone_news next (beside (Some batch) lane.waiting) _ (either_way (MoreWait next lane.waiting) (has_several batch) _ _ (λ several. split_more next batch lane.waiting) (λ one. as_many next lane.waiting)))
    lane.running

pub requeued_news : (stays : ℕ → Bool) (next : ℕ) (lane : Lane) → IsNews next lane (requeued stays next lane)
requeued_news stays next lane =
    by_option (λ running. IsNews next (beside running lane.waiting) (requeued stays next (beside running lane.waiting)))
    (no_news next (beside None lane.waiting)) (λ batch. gone_news next (beside (Some batch) lane.waiting) _ (back_more next (only stays batch) lane.waiting)) lane.running

pub dropped_news : (next : ℕ) (lane : Lane) → IsNews next lane (dropped lane)
dropped_news next lane = gone_news next lane lane.waiting (as_many next lane.waiting)

-- what runs goes on, under its number and with its changes
pub altered_news : (next : ℕ) (lane : Lane) (alter : Batch → Batch) → ((batch : Batch) → (alter batch).number ≡ batch.number) → ((batch : Batch) → (alter batch).changes ≡ batch.changes)
    → IsNews next lane (record { running = option_map alter lane.running; waiting = lane.waiting })
altered_news next lane alter same_number same_changes = grind arith
