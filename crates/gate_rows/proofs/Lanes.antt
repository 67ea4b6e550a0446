-- The lanes of a queue are read again: the running batch, and the others in order of service.
use Rattle.std.proofs.Common.{◌≡◌, ◌⊎◌, inl, inr, ℕ, zero, suc, ℤ, pos, negsuc, neg_ℤ, nat_lt, Bool, true, false, cond, not, ◌&&◌, T, List, [], ◌∷◌, map, Option, Some, None, int_lt, lt-ltb, ltb-true, arith, refl, sym, ◌∙◌, ap, subst}
use Rattle.std.proofs.Math.Bool.{beq}
use Rattle.std.specs.Cmp.{first_so, second_so, int_cmp_total, signed_Decides}
use Rattle.std.specs.Cmp.Lexicographic.{slice_cmp, lists_total}
use Rattle.std.specs.FinMap.{is_sorted, int_cmp-IsAntisymmetric, slice_cmp-IsAntisymmetric}
use Rattle.std.specs.FinMap.Entries.{below_all}
use Rattle.std.specs.List.{filter, list_all}
use Rattle.std.specs.Option.{option_map_or}
use Rattle.std.specs.Ordering.{int_cmp, int_eq, is_lt, ordering_then}
use Rattle.std.specs.declared.cmp.Ordering.{Ordering}
use Rattle.std.specs.declared.cmp.Ordering.TheVariants.{Less, Equal, Greater}
use Rattle.gate_rules.specs.View.{DeskView}
use Rattle.gate_state.specs.Checks.{all_pairs, fits_running, fits_underway, fits_waiting, is_branch, is_waiting}
use Rattle.gate_state.specs.Lanes.{batches_of, goes_before, has_changes}
use Rattle.gate_state.specs.declared.batch.Batch.{Batch}
use Rattle.gate_state.specs.declared.batch.Branch.{Branch}
use Rattle.gate_state.specs.declared.batch.Branch.TheVariants.{Staging, Trying}
use Rattle.gate_state.specs.declared.batch.Stage.{Stage}
use Rattle.gate_state.specs.declared.batch.Stage.TheVariants as stage
use Rattle.gate_rows.specs.Decoding.{batch_in, first, in_order, is_on, lane_in, service_key}
use Rattle.gate_rows.specs.Encoding.{batch_row, branch_number, flag, stage_number}
use Rattle.gate_tables.specs.declared.row.BatchRow.{BatchRow}
use Rattle.gate_tables.specs.declared.row.Rows.{Rows}
use Rattle.gate_rows.proofs.Canonical.{equal, values_again}
use Rattle.gate_rows.proofs.Elements.{Among, HaveSame, same-map}
use Rattle.gate_rows.proofs.Marks.{map_back}

-- THE BRANCH AND THE STAGE of a batch, by its numbers
pub branch_is : (branch on : Branch) → is_branch branch on ≡ true → branch ≡ on
branch_is Staging Staging is = refl
branch_is Staging Trying is = cc is
branch_is Trying Staging is = cc is
branch_is Trying Trying is = refl

same_branch : (branch on : Branch) → int_eq (branch_number branch) (branch_number on) ≡ is_branch branch on
same_branch Staging Staging = refl
same_branch Staging Trying = refl
same_branch Trying Staging = refl
same_branch Trying Trying = refl

waits : (s : Stage) → is_waiting s ≡ true → int_eq (stage_number s) (pos 1) ≡ true
waits stage.Waiting is = refl
waits (stage.Ordered since) is = cc is
waits (stage.Staged since commit reports) is = cc is
waits (stage.Landing commit) is = cc is

runs : (desk : DeskView) (s : Stage) → fits_underway desk s ≡ true → int_eq (stage_number s) (pos 1) ≡ false
runs desk stage.Waiting is = cc is
runs desk (stage.Ordered since) is = refl
runs desk (stage.Staged since commit reports) is = refl
runs desk (stage.Landing commit) is = refl

-- which rows of the batches of a branch are asked for
pub waiting_branch : (on : Branch) (b : Batch) → fits_waiting on b ≡ true → (b.branch ≡ on) × (is_waiting b.stage ≡ true)
waiting_branch on b fits =
    let parts = first_so (is_branch b.branch on && is_waiting b.stage) (has_changes b) fits in
    (branch_is b.branch on (first_so (is_branch b.branch on) (is_waiting b.stage) parts), second_so (is_branch b.branch on) (is_waiting b.stage) parts)

pub running_branch : (desk : DeskView) (on : Branch) (b : Batch) → fits_running desk on b ≡ true → (b.branch ≡ on) × (fits_underway desk b.stage ≡ true)
running_branch desk on b fits =
    let parts = first_so (is_branch b.branch on && fits_underway desk b.stage) (has_changes b) fits in
    (branch_is b.branch on (first_so (is_branch b.branch on) (fits_underway desk b.stage) parts), second_so (is_branch b.branch on) (fits_underway desk b.stage) parts)

asked : (on at : Branch) (waiting waits_now : Bool) (b : Batch) → b.branch ≡ on → int_eq (stage_number b.stage) (pos 1) ≡ waits_now
    → is_on at waiting (batch_row b) ≡ is_branch on at && cond waiting waits_now (not waits_now)
asked on at true waits_now b same is =
    ap (λ (branch : Branch). int_eq (branch_number branch) (branch_number at) && int_eq (stage_number b.stage) (pos 1)) same
    ∙ ap (λ (c : Bool). int_eq (branch_number on) (branch_number at) && c) is ∙ ap (λ (c : Bool). c && waits_now) (same_branch on at)
asked on at false waits_now b same is =
    ap (λ (branch : Branch). int_eq (branch_number branch) (branch_number at) && not (int_eq (stage_number b.stage) (pos 1))) same
    ∙ ap (λ (c : Bool). int_eq (branch_number on) (branch_number at) && not c) is ∙ ap (λ (c : Bool). c && not waits_now) (same_branch on at)

on_waiting : (on at : Branch) (waiting : Bool) (b : Batch) → fits_waiting on b ≡ true → is_on at waiting (batch_row b) ≡ is_branch on at && cond waiting true false
on_waiting on at waiting b fits = let parts = waiting_branch on b fits in asked on at waiting true b parts.0 (waits b.stage parts.1)

on_running : (desk : DeskView) (on at : Branch) (waiting : Bool) (b : Batch) → fits_running desk on b ≡ true → is_on at waiting (batch_row b) ≡ is_branch on at && cond waiting false true
on_running desk on at waiting b fits = let parts = running_branch desk on b fits in asked on at waiting false b parts.0 (runs desk b.stage parts.1)

nothing : {Y : Type 0} (c : Bool) → [] ≡ cond {A = List Y} c [] []
nothing true = refl
nothing false = refl

filter_all : {X Y : Type 0} (f : X → Y) (test : Y → Bool) (fits : X → Bool) (b : Bool) → ((x : X) → fits x ≡ true → test (f x) ≡ b) → (xs : List X) → list_all fits xs ≡ true → filter test (map f xs) ≡ cond b (map f xs) []
filter_all f test fits b is [] all = nothing b
filter_all f test fits b is (x ∷ xs) all =
    ap (λ (c : Bool). cond c (f x ∷ filter test (map f xs)) (filter test (map f xs))) (is x (first_so (fits x) (list_all fits xs) all))
    ∙ both b (filter_all f test fits b is xs (second_so (fits x) (list_all fits xs) all)) where
      both : (c : Bool) → filter test (map f xs) ≡ cond c (map f xs) [] → cond c (f x ∷ filter test (map f xs)) (filter test (map f xs)) ≡ cond c (f x ∷ map f xs) []
      both true rest = ap (λ front. f x ∷ front) rest
      both false rest = rest

abbrev pub listed : {X : Type 0} → Option X → List X
listed None = []
listed (Some x) = x ∷ []

only_waiting : {Y : Type 0} (branch waiting : Bool) (rows found : List Y) → found ≡ cond (branch && cond waiting true false) rows [] → found ≡ cond branch (cond waiting rows []) []
only_waiting true true rows found is = is
only_waiting true false rows found is = is
only_waiting false waiting rows found is = is

with_running : {Y : Type 0} (branch waiting asks : Bool) (row : Y) (rows found : List Y) → asks ≡ (branch && cond waiting false true) → found ≡ cond (branch && cond waiting true false) rows []
    → cond asks (row ∷ found) found ≡ cond branch (cond waiting rows (row ∷ [])) []
with_running true true asks row rows found asked_not is = ap (λ (c : Bool). cond c (row ∷ found) found) asked_not ∙ is
with_running true false asks row rows found asked_for is = ap (λ (c : Bool). cond c (row ∷ found) found) asked_for ∙ ap (λ others. row ∷ others) is
with_running false waiting asks row rows found asked_not is = ap (λ (c : Bool). cond c (row ∷ found) found) asked_not ∙ is

module _ (desk : DeskView) (on at : Branch) (waiting : Bool) where
  waiting_rows : (batches : List Batch) → list_all (fits_waiting on) batches ≡ true → filter (is_on at waiting) (map batch_row batches) ≡ cond (is_branch on at && cond waiting true false) (map batch_row batches) []
  waiting_rows batches fit = filter_all batch_row (is_on at waiting) (fits_waiting on) (is_branch on at && cond waiting true false) (λ b fits. on_waiting on at waiting b fits) batches fit

  pub rows_of_lane : (running : Option Batch) (batches : List Batch) → list_all (fits_waiting on) batches ≡ true → option_map_or (fits_running desk on) running true ≡ true
      → filter (is_on at waiting) (map batch_row (batches_of (record { running = running; waiting = batches }))) ≡ cond (is_branch on at) (cond waiting (map batch_row batches) (map batch_row (listed running))) []
  rows_of_lane None batches fit fits = only_waiting (is_branch on at) waiting (map batch_row batches) (filter (is_on at waiting) (map batch_row batches)) (waiting_rows batches fit)
  rows_of_lane (Some batch) batches fit fits =
      with_running (is_branch on at) waiting (is_on at waiting (batch_row batch)) (batch_row batch) (map batch_row batches) (filter (is_on at waiting) (map batch_row batches))
      (on_running desk on at waiting batch fits) (waiting_rows batches fit)

-- THE ORDER OF SERVICE is that of the keys.
neg_less : (a b : ℤ) → int_lt b a ≡ true → int_lt (neg_ℤ a) (neg_ℤ b) ≡ true
neg_less (pos zero) (pos n) is = absurd (omega (arith, ltb-true n 0 is))
neg_less (pos (suc m)) (pos zero) is = refl
neg_less (pos (suc m)) (pos (suc n)) is = lt-ltb n m (omega (arith, ltb-true (suc n) (suc m) is))
neg_less (pos zero) (negsuc n) is = lt-ltb 0 (suc n) (omega arith)
neg_less (pos (suc m)) (negsuc n) is = refl
neg_less (negsuc m) (pos n) is = cc is
neg_less (negsuc m) (negsuc n) is = lt-ltb (suc m) (suc n) (omega (arith, ltb-true m n is))

then_less : (o rest : Ordering) → o ≡ Less → T (is_lt (ordering_then o rest))
then_less o rest is = subst (λ (r : Ordering). T (is_lt (ordering_then r rest))) (sym is) tt

then_equal : (o rest : Ordering) → o ≡ Equal → T (is_lt rest) → T (is_lt (ordering_then o rest))
then_equal o rest is less = subst (λ (r : Ordering). T (is_lt (ordering_then r rest))) (sym is) less

compared_less : (a b : ℤ) → int_lt a b ≡ true → int_cmp a b ≡ Less
compared_less a b is = ap (λ (c : Bool). cond c Less (cond (int_lt b a) Greater Equal)) is

compared_same : (a b : ℤ) → a ≡ b → int_cmp a b ≡ Equal
compared_same a b same = equal (int_cmp a b) ((signed_Decides a b).1 same)

less_by : (p q : ℤ) (a b : Bool) (m n : ℕ) → cond (not (int_eq p q)) (int_lt q p) (cond (not (beq a b)) a (nat_lt m n)) ≡ true
    → T (is_lt (slice_cmp int_cmp (neg_ℤ p ∷ neg_ℤ (flag a) ∷ pos m ∷ []) (neg_ℤ q ∷ neg_ℤ (flag b) ∷ pos n ∷ [])))
less_by p q a b m n before = by (int_eq p q) refl before where
  rest : (a b : Bool) → cond (not (beq a b)) a (nat_lt m n) ≡ true → T (is_lt (slice_cmp int_cmp (neg_ℤ (flag a) ∷ pos m ∷ []) (neg_ℤ (flag b) ∷ pos n ∷ [])))
  rest true true is = then_less (int_cmp (pos m) (pos n)) Equal (compared_less (pos m) (pos n) is)
  rest false false is = then_less (int_cmp (pos m) (pos n)) Equal (compared_less (pos m) (pos n) is)
  rest true false is = tt
  rest false true is = cc is

  by : (same : Bool) → int_eq p q ≡ same → cond (not same) (int_lt q p) (cond (not (beq a b)) a (nat_lt m n)) ≡ true
      → T (is_lt (slice_cmp int_cmp (neg_ℤ p ∷ neg_ℤ (flag a) ∷ pos m ∷ []) (neg_ℤ q ∷ neg_ℤ (flag b) ∷ pos n ∷ [])))
  by true same is =
      then_equal (int_cmp (neg_ℤ p) (neg_ℤ q)) (slice_cmp int_cmp (neg_ℤ (flag a) ∷ pos m ∷ []) (neg_ℤ (flag b) ∷ pos n ∷ []))
      (compared_same (neg_ℤ p) (neg_ℤ q) (ap neg_ℤ ((signed_Decides p q).0 same))) (rest a b is)
  by false other is =
      then_less (int_cmp (neg_ℤ p) (neg_ℤ q)) (slice_cmp int_cmp (neg_ℤ (flag a) ∷ pos m ∷ []) (neg_ℤ (flag b) ∷ pos n ∷ []))
      (compared_less (neg_ℤ p) (neg_ℤ q) (neg_less p q is))

abbrev pub keyed : Batch → List ℤ × Batch
keyed b = (service_key (batch_row b), b)

pub both_true : (a b : Bool) → T a → T b → T (a && b)
both_true true b one other = other
both_true false b one other = one

below : (b : Batch) (others : List Batch) → list_all (goes_before b) others ≡ true → T (below_all (slice_cmp int_cmp) (service_key (batch_row b)) (map keyed others))
below b [] before = tt
below b (other ∷ others) before =
    both_true (is_lt (slice_cmp int_cmp (service_key (batch_row b)) (service_key (batch_row other)))) (below_all (slice_cmp int_cmp) (service_key (batch_row b)) (map keyed others))
    (less_by b.priority other.priority b.again other.again b.number other.number (first_so (goes_before b other) (list_all (goes_before b) others) before))
    (below b others (second_so (goes_before b other) (list_all (goes_before b) others) before))

sorted : (batches : List Batch) → all_pairs goes_before batches ≡ true → T (is_sorted (slice_cmp int_cmp) (map keyed batches))
sorted [] before = tt
sorted (b ∷ others) before =
    both_true (below_all (slice_cmp int_cmp) (service_key (batch_row b)) (map keyed others)) (is_sorted (slice_cmp int_cmp) (map keyed others))
    (below b others (first_so (list_all (goes_before b) others) (all_pairs goes_before others) before)) (sorted others (second_so (list_all (goes_before b) others) (all_pairs goes_before others) before))

-- A LANE is read again.
pub first_again : {X : Type 0} (xs : List X) (one : Option X) → HaveSame xs (listed one) → first xs ≡ one
first_again [] None same = refl
first_again (x ∷ xs) None same = absurd ((same x).0 (inl refl))
first_again [] (Some x) same = absurd ((same x).1 (inl refl))
first_again (x ∷ xs) (Some y) same = by ((same x).0 (inl refl)) where
  by : (x ≡ y) ⊎ ⊥ → Some x ≡ Some y
  by (inl is) = ap Some is
  by (inr none) = absurd none

pub mapped_back : {X Y Z : Type 0} (f : X → Y) (g : Y → Z) (h : X → Z) (xs : List X) → ((x : X) → Among x xs → g (f x) ≡ h x) → map g (map f xs) ≡ map h xs
mapped_back f g h [] is = refl
mapped_back f g h (x ∷ xs) is = λ i. is x (inl refl) i ∷ mapped_back f g h xs (λ y there. is y (inr there)) i

pub map_same : {X : Type 0} (xs : List X) → map (λ (x : X). x) xs ≡ xs
map_same [] = refl
map_same (x ∷ xs) = ap (λ rest. x ∷ rest) (map_same xs)

pub lane_again : (rows : Rows) (at : Branch) (running : Option Batch) (batches : List Batch)
    → HaveSame (filter (is_on at false) rows.batches) (map batch_row (listed running)) → HaveSame (filter (is_on at true) rows.batches) (map batch_row batches)
    → ((b : Batch) → Among b (listed running) → batch_in rows (batch_row b) ≡ b) → ((b : Batch) → Among b batches → batch_in rows (batch_row b) ≡ b)
    → all_pairs goes_before batches ≡ true → lane_in at rows ≡ record { running = running; waiting = batches }
lane_again rows at running batches runs_now wait is are before = λ i. record { running = run i; waiting = rest i } where
  run : first (map (batch_in rows) (filter (is_on at false) rows.batches)) ≡ running
  run = first_again (map (batch_in rows) (filter (is_on at false) rows.batches)) running
      (subst (HaveSame (map (batch_in rows) (filter (is_on at false) rows.batches))) (mapped_back batch_row (batch_in rows) (λ (b : Batch). b) (listed running) is ∙ map_same (listed running))
      (same-map (batch_in rows) (filter (is_on at false) rows.batches) (map batch_row (listed running)) runs_now))

  entry_of : BatchRow → List ℤ × Batch
  entry_of row = (service_key row, batch_in rows row)

  rest : in_order (slice_cmp int_cmp) (map (λ row. (service_key row, batch_in rows row)) (filter (is_on at true) rows.batches)) ≡ batches
  rest =
      ap (map (λ (entry : List ℤ × Batch). entry.1))
      (values_again (lists_total int_cmp_total) (slice_cmp-IsAntisymmetric int_cmp-IsAntisymmetric) (map entry_of (filter (is_on at true) rows.batches)) (map keyed batches) (sorted batches before)
      (subst (HaveSame (map entry_of (filter (is_on at true) rows.batches))) (mapped_back batch_row entry_of keyed batches (λ b there. ap (λ (again : Batch). (service_key (batch_row b), again)) (are b there)))
      (same-map entry_of (filter (is_on at true) rows.batches) (map batch_row batches) wait)))
      ∙ map_back keyed (λ (entry : List ℤ × Batch). entry.1) (λ b. refl) batches
