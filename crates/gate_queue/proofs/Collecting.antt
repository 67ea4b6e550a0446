-- The numbers of batches that are named, collected: a number is listed exactly if a test names it.
use Rattle.std.proofs.Common.{◌≡◌, ◌<◌, ◌+◌, ◌==◌, ◌||◌, ◌&&◌, not, ℕ, ℤ, Bool, true, false, cond, List, [], ◌∷◌, ◌++◌, map, length, take, get_or, slice_get, Option, is_some, inl, inr, refl, sym, subst, ap, ◌∙◌, arith}
use Rattle.std.proofs.Math.Bool.{or-false}
use Rattle.std.proofs.lemmas.Bool.Decides.{nat_tests}
use Rattle.std.proofs.lemmas.List.{take_more}
use Rattle.std.proofs.lemmas.List.Folds.{list_any-append}
use Rattle.std.specs.Cmp.{nat_cmp_total}
use Rattle.std.specs.FinMap as finite
use Rattle.std.specs.FinMap.{nat_cmp-IsAntisymmetric}
use Rattle.std.specs.List.{filter, list_all, list_any}
use Rattle.std.specs.Option.{option_map_or}
use Rattle.std.specs.Ordering.{eq_by_cmp, nat_cmp}
use Rattle.std.proofs.lemmas.Bool.{or_cases}
use Rattle.gate_text.specs.Finite.{get-mapped}
use Rattle.gate_queue.proofs.Noting.{equal_is}
use Rattle.gate_queue.specs.Machine.{all_but, loses_approval, settled, with_new_settings}
use Rattle.gate_queue.specs.MayChange.{is_in_front, is_joined, is_numbered, one_numbered}
use Rattle.gate_queue.specs.Touching.{front, fronts, joining, lists, numbers_so, number_of, settling}
use Rattle.gate_queue.specs.Vocabulary.{Change, DeskView, SettingsView, State, numbers_where, Batch, Lane, Queue}
use Rattle.gate_state.specs.Lanes.{batches_of, loses}
use Rattle.gate_state.specs.Queue as queues
use Rattle.gate_state.specs.State.{approved_on}
use Rattle.gate_rules.specs.View.{numbers_in}
use Rattle.gate_queue.proofs.Choosing.{by_bool}

module _ (test : Batch → Bool) where
  pub numbers_so-more : (batch : Batch) (batches : List Batch) → numbers_so test (batch ∷ batches) ≡ numbers_so test (batch ∷ []) ++ numbers_so test batches
  numbers_so-more batch batches =
      by_bool (λ b. map (λ (x : Batch). x.number) (cond b (batch ∷ filter test batches) (filter test batches)) ≡ map (λ (x : Batch). x.number) (cond b (batch ∷ []) []) ++ numbers_so test batches)
      refl refl (test batch)

  pub lists-so : (number : ℕ) (batches : List Batch) → lists number (numbers_so test batches) ≡ one_numbered test batches number
  lists-so number [] = refl
  lists-so number (batch ∷ batches) = grind (arith, lists-so number batches)

pub lists-of : (number : ℕ) (batch : Option Batch) → lists number (number_of batch) ≡ is_numbered number batch
lists-of number batch = grind arith

pub lists-both : (number : ℕ) (xs ys : List ℕ) → lists number (xs ++ ys) ≡ lists number xs || lists number ys
lists-both number xs ys = list_any-append (λ other. other == number) xs ys

pub listed-other : (number : ℕ) (numbers : List ℕ) → lists number numbers ≡ list_any (λ other. number == other) numbers
listed-other number [] = refl
listed-other number (other ∷ numbers) = λ i. flip number other i || listed-other number numbers i where
  flip : (a b : ℕ) → (b == a) ≡ (a == b)
  flip a b = grind (arith, nat_tests)

-- a change that stays approved under new settings
pub stays_approved : (desk : DeskView) (settings : SettingsView) (change : ℕ)
    → approved_on (with_new_settings desk settings) change ≡ option_map_or (λ (c : Change). is_some c.approved && not (loses_approval settings c)) (finite.get desk.changes change) false
stays_approved desk settings change = let there = get-mapped nat_cmp (settled settings) nat_cmp_total desk.changes change in grind arith

-- A number is listed among some exactly if they are to be noted.
module _ (number : ℕ) where
  pub joining-lists : (priority : ℤ) (change : ℕ) (queue : Queue)
      → lists number (joining priority change queue) ≡ (one_numbered (loses (all_but change)) (queues.batches_of queue) number || is_joined priority change queue.staging.waiting number)
  joining-lists priority change queue =
      let losing = lists-so (loses (all_but change)) number in
      let all = list_any-append (λ (b : Batch). (b.number == number) && loses (all_but change) b) (batches_of queue.staging) (batches_of queue.trying) in
      grind (arith, lists-both, lists-of)

  front-lists : (lane : Lane) → lists number (front lane) ≡ is_in_front lane number
  front-lists lane = lists-both number (number_of lane.running) (number_of (slice_get lane.waiting 0)) ∙ (λ i. lists-of number lane.running i || lists-of number (slice_get lane.waiting 0) i)

  pub fronts-lists : (queue : Queue) → lists number (fronts queue) ≡ (is_in_front queue.staging number || is_in_front queue.trying number)
  fronts-lists queue = lists-both number (front queue.staging) (front queue.trying) ∙ (λ i. front-lists queue.staging i || front-lists queue.trying i)

  pub settling-lists : (s : State) (settings : SettingsView)
      → lists number (settling s settings) ≡ (is_numbered number s.queue.staging.running || is_numbered number s.queue.trying.running || one_numbered (loses (approved_on (with_new_settings s.desk settings))) s.queue.staging.waiting number)
  settling-lists s settings =
      let losing = lists-so (loses (approved_on (with_new_settings s.desk settings))) number in
      grind (arith, lists-both, lists-of)

  -- a change is in a batch if the batch loses it when all others stay
  pub has-lists : (changes : List ℕ) → not (list_all (all_but number) changes) ≡ lists number changes
  has-lists [] = refl
  has-lists (change ∷ changes) = grind (arith, has-lists changes)

  -- one item more
  pub lists-more : (xs : List ℕ) (i x d : ℕ) → i < length xs → x ≡ get_or xs i d → lists number (take (i + 1) xs) ≡ (lists number (take i xs) || (x == number))
  lists-more xs i x d within is =
      ap (lists number) (take_more xs i d within) ∙ lists-both number (take i xs) (get_or xs i d ∷ [])
      ∙ ap (λ (n : ℕ). lists number (take i xs) || ((n == number) || false)) (sym is) ∙ ap (λ (b : Bool). lists number (take i xs) || b) (or-false (x == number))

  -- the changes that lose their approval are found by their numbers
  pub where-lists : (meets : Change → Bool) (desk : DeskView) → option_map_or meets (finite.get desk.changes number) false ≡ true → lists number (numbers_where meets desk) ≡ true
  where-lists meets desk is = walk (finite.entries desk.changes) (ap (λ (c : Option Change). option_map_or meets c false) (sym (finite.get-entries desk.changes number)) ∙ is) where
    walk : (entries : List (ℕ × Change)) → option_map_or meets (finite.find nat_cmp number entries) false ≡ true → lists number (numbers_in meets entries) ≡ true
    walk [] is = cc is
    walk (entry ∷ entries) is =
        let same = λ (at : eq_by_cmp nat_cmp number entry.0 ≡ true). nat_cmp-IsAntisymmetric number entry.0 (equal_is (nat_cmp number entry.0) at) in
        grind (arith, nat_tests, walk entries)

-- what holds of the numbers so far, and of one more
pub all_more : (P : ℕ → Type 0) (xs : List ℕ) (i x d : ℕ) → i < length xs → x ≡ get_or xs i d → ((n : ℕ) → lists n (take i xs) ≡ true → P n) → P x → (n : ℕ) → lists n (take (i + 1) xs) ≡ true → P n
all_more P xs i x d within is so_far here n listed = elim (or_cases (lists n (take i xs)) (x == n) (sym (lists-more n xs i x d within is) ∙ listed)) [
  | inl before ↦ so_far n before
  | inr same ↦ let at : x ≡ n = grind (arith, nat_tests) in subst P at here
]
