-- Batches under different numbers, as a map by number: its entries are the batches in another order, and what it has under a number is the
-- batch of this number.
use Rattle.std.proofs.Common.{◌≡◌, ◌≢◌, ◌==◌, ℕ, Bool, true, false, cond, List, [], ◌∷◌, length, map, Some, None, IsPermutation, refl, sym, ◌∙◌, ap, subst}
use Rattle.std.proofs.lemmas.Bool.{false_from_ne_true}
use Rattle.std.proofs.lemmas.List.Folds.{find-append}
use Rattle.std.proofs.lemmas.List.Sorted.{IsPermutation-cons, IsPermutation-middle, IsPermutation-refl, IsPermutation-sym, IsPermutation-trans}
use Rattle.std.specs.Cmp.{eq_by_cmp_equiv, nat_cmp_total, unsigned_Decides, unsigned_tied}
use Rattle.std.specs.FinMap as finite
use Rattle.std.specs.FinMap.{FinMap, find, put}
use Rattle.std.specs.FinMap.Entries.{by_order}
use Rattle.std.specs.List as list
use Rattle.std.specs.List.{AllByRecursion}
use Rattle.std.specs.Option.{is_some}
use Rattle.std.specs.Ordering.{eq_by_cmp, is_eq, nat_cmp}
use Rattle.std.specs.declared.cmp.Ordering.{Ordering}
use Rattle.std.specs.declared.cmp.Ordering.TheVariants.{Less, Equal, Greater}
use Rattle.gate_state.specs.Lanes as lane
use Rattle.gate_state.specs.Queue.{batch_numbered, batches_of}
use Rattle.gate_state.specs.declared.batch.Batch.{Batch}
use Rattle.gate_state.specs.declared.queue.Queue.{Queue}
use Rattle.gate_tables.specs.Apart.{AreApartBy}

-- an entry at its place, where its key isn't there yet
module _ {K X : Type 0} (R : K → K → Ordering) where
  put_moved : (k : K) (v : X) (es : List (K × X)) → find R k es ≡ None → IsPermutation ((k, v) ∷ es) (put R k v es)
  put_moved k v [] none = IsPermutation-refl ((k, v) ∷ [])
  put_moved k v (e ∷ es) none = by (R k e.0) none (put_moved k v es) where
    by : (o : Ordering) → cond (is_eq o) (Some e.1) (find R k es) ≡ None → (find R k es ≡ None → IsPermutation ((k, v) ∷ es) (put R k v es))
        → IsPermutation ((k, v) ∷ e ∷ es) (by_order o ((k, v) ∷ e ∷ es) ((e.0, v) ∷ es) (e ∷ put R k v es))
    by Less none rest = IsPermutation-refl ((k, v) ∷ e ∷ es)
    by Equal none rest = let no : true ≡ false = ap is_some none in absurd cc
    by Greater none rest =
        IsPermutation-trans ((k, v) ∷ e ∷ es) (e ∷ (k, v) ∷ es) (e ∷ put R k v es) (IsPermutation-sym (e ∷ (k, v) ∷ es) ((k, v) ∷ e ∷ es) (IsPermutation-middle (e ∷ []) (k, v) es))
        (IsPermutation-cons e ((k, v) ∷ es) (put R k v es) (rest none))

-- each batch behind its number
abbrev pub entry_of : Batch → ℕ × Batch
entry_of b = (b.number, b)

abbrev pub by_number : List Batch → FinMap nat_cmp Batch
by_number batches = finite.from_entries (map entry_of batches)

same_tests : (n m : ℕ) → eq_by_cmp nat_cmp n m ≡ (m == n)
same_tests n m = (eq_by_cmp_equiv nat_cmp_total).symm n m ∙ unsigned_tied m n

find_entry : (n : ℕ) (batches : List Batch) → find nat_cmp n (map entry_of batches) ≡ list.find (λ (b : Batch). b.number == n) batches
find_entry n [] = refl
find_entry n (b ∷ batches) = λ i. cond (same_tests n b.number i) (Some b) (find_entry n batches i)

find_other : (n : ℕ) (batches : List Batch) → AllByRecursion (λ (b : Batch). b.number ≢ n) batches → find nat_cmp n (map entry_of batches) ≡ None
find_other n [] all = refl
find_other n (b ∷ batches) all = ap (λ (c : Bool). cond c (Some b) (find nat_cmp n (map entry_of batches))) (false_from_ne_true (eq_by_cmp nat_cmp n b.number) (λ is. all.0 ((unsigned_Decides b.number n).0 (sym (same_tests n b.number) ∙ is)))) ∙ find_other n batches all.1

pub get-by_number : (n : ℕ) (batches : List Batch) → finite.get (by_number batches) n ≡ list.find (λ (b : Batch). b.number == n) batches
get-by_number n batches = finite.get-from_entries nat_cmp_total (map entry_of batches) n ∙ find_entry n batches

none_long : {X : Type 0} (xs : List X) → length xs ≡ 0 → xs ≡ []
none_long [] none = refl
none_long (x ∷ xs) none = absurd cc

pub listed_by_number : (batches : List Batch) → AreApartBy (λ (b : Batch). b.number) batches → IsPermutation (map entry_of batches) (finite.entries (by_number batches))
listed_by_number [] apart = subst (IsPermutation []) (sym (none_long (finite.entries (by_number [])) (sym (finite.len-entries (by_number [])) ∙ finite.len-empty nat_cmp Batch))) (IsPermutation-refl [])
listed_by_number (b ∷ batches) apart =
    let rest = by_number batches in
    let none = finite.get-from_entries nat_cmp_total (map entry_of batches) b.number ∙ find_other b.number batches apart.0 in
    let put_in = put_moved nat_cmp b.number b (finite.entries rest) (sym (finite.get-entries rest b.number) ∙ none) in
    subst (IsPermutation (map entry_of (b ∷ batches))) (sym (finite.entries-insert nat_cmp_total rest b.number b))
    (IsPermutation-trans (entry_of b ∷ map entry_of batches) (entry_of b ∷ finite.entries rest) (put nat_cmp b.number b (finite.entries rest))
    (IsPermutation-cons (entry_of b) (map entry_of batches) (finite.entries rest) (listed_by_number batches apart.1)) put_in)

-- the batches of a queue
pub get_of_queue : (n : ℕ) (queue : Queue) → finite.get (by_number (batches_of queue)) n ≡ batch_numbered n queue
get_of_queue n queue = get-by_number n (batches_of queue) ∙ find-append (λ (b : Batch). b.number == n) (lane.batches_of queue.staging) (lane.batches_of queue.trying)
