-- In the rows of a state no two rows of a table have one key.
use Rattle.std.proofs.Common.{◌≡◌, ◌≢◌, ℕ, suc, ℤ, pos, List, [], ◌∷◌, ◌++◌, map, flat_map, Bool, true, false, not, ◌&&◌, T, ◌<◌, Some, None, Option, length, nat_le, ◌==◌, bytes_eq, refl, sym, ap, subst, ◌∙◌, arith}
use Rattle.std.proofs.lemmas.Bool.{and_parts, not-true}
use Rattle.std.specs.Cmp.{IsTotalOrder, eq_by_cmp_equiv, first_so, second_so, nat_cmp_total, unsigned_Decides}
use Rattle.std.specs.Cmp.Lexicographic.{slice_cmp, nat_list_cmp_total}
use Rattle.std.specs.FinMap as finite
use Rattle.std.specs.FinMap.{FinMap, entries_sorted, is_sorted}
use Rattle.std.specs.FinMap.Entries.{below_all}
use Rattle.std.specs.FinSet as set
use Rattle.std.specs.FinSet.{FinSet}
use Rattle.std.specs.List.{AllByRecursion, list_all}
use Rattle.std.proofs.lemmas.Slice.Eq.{bytes_eq-Decides}
use Rattle.std.specs.Option.{unwrap_or}
use Rattle.std.specs.Ordering.{nat_cmp, is_eq, is_lt, eq_by_cmp}
use Rattle.std.specs.declared.cmp.Ordering.{Ordering}
use Rattle.std.specs.declared.cmp.Ordering.TheVariants.{Less, Equal, Greater}
use Rattle.gate_text.specs.Finite.{words_of}
use Rattle.gate_text.specs.Settings.{SettingsView}
use Rattle.gate_state.specs.Checks.{all_pairs, fit_changes, fit_names, fits, fits_approval, fits_change, fits_desk, fits_next, fits_priority, fits_queue, fits_repeat, fits_try, has_other_number, have_other_numbers, is_other_name, is_ready}
use Rattle.gate_state.specs.declared.batch.Batch.{Batch}
use Rattle.gate_rules.specs.declared.change.Change.{Change}
use Rattle.gate_rules.specs.Rules.{is_open_phase}
use Rattle.gate_rules.specs.declared.change.Repeat.{Repeat}
use Rattle.gate_rules.specs.declared.change.Repeat.TheVariants as repeat
use Rattle.gate_rules.specs.declared.role.Role.{Role}
use Rattle.gate_rows.proofs.Canonical.{both}
use Rattle.gate_rows.proofs.Each.{all_joined, all_mapped, all_of, all_pass, all_weaker}
use Rattle.gate_rows.proofs.OneState.{Fits, facts}
use Rattle.gate_rows.specs.Encoding.{batch_row, change_row, from_place, list_marks, list_wanted, mark, marks_of, member_row, members_of, names_of, person_row, placed, reports_of, rows_of, set_marks, status_row, statuses_of, wanted_of, wanted_row}
use Rattle.gate_state.specs.Lanes as lane
use Rattle.gate_state.specs.Queue.{batches_of}
use Rattle.gate_state.specs.declared.batch.Report.{Report}
use Rattle.gate_state.specs.declared.batch.Stage.{Stage}
use Rattle.gate_state.specs.declared.batch.Stage.TheVariants as stage
use Rattle.gate_state.specs.declared.state.State.{State}
use Rattle.gate_tables.specs.Apart.{AreApartBy}
use Rattle.gate_tables.specs.Differences.{AreApart, HaveKeys}
use Rattle.gate_tables.specs.Forms as forms
use Rattle.gate_tables.specs.Keys.{key_of}
use Rattle.gate_tables.specs.declared.row.MarkRow.{MarkRow}
use Rattle.gate_tables.specs.declared.row.MemberRow.{MemberRow}
use Rattle.gate_tables.specs.declared.row.StatusRow.{StatusRow}
use Rattle.gate_tables.specs.declared.row.WantedRow.{WantedRow}
use Rattle.sqlite.specs.Edit.{id_in}
use Rattle.sqlite.specs.Order.{Row, column, bytes}

-- what each of some rows owes to each of others
module _ {X Y : Type 0} (P : X → Y → Type 0) where
  abbrev AllAcross : List X → List Y → Type 0
  AllAcross xs ys = AllByRecursion (λ x. AllByRecursion (P x) ys) xs

  across_joined : (xs : List X) (ys zs : List Y) → AllAcross xs ys → AllAcross xs zs → AllAcross xs (ys ++ zs)
  across_joined [] ys zs p q = tt
  across_joined (x ∷ xs) ys zs p q = (all_joined (P x) ys zs p.0 q.0, across_joined xs ys zs p.1 q.1)

  across_none : (xs : List X) → AllAcross xs []
  across_none [] = tt
  across_none (x ∷ xs) = (tt, across_none xs)

across_flat : {X Y Z : Type 0} (P : X → Y → Type 0) (f : Z → List Y) (xs : List X) (zs : List Z) → AllByRecursion (λ z. AllAcross P xs (f z)) zs → AllAcross P xs (flat_map f zs)
across_flat P f xs [] p = across_none P xs
across_flat P f xs (z ∷ zs) p = across_joined P xs (f z) (flat_map f zs) p.0 (across_flat P f xs zs p.1)

-- items whose own keys are apart give rows whose keys are
pub mapped_apart : {X Y K L : Type 0} (own : X → K) (key : Y → L) (f : X → Y) → ((x y : X) → key (f y) ≡ key (f x) → own y ≡ own x) → (xs : List X) → AreApartBy own xs → AreApartBy key (map f xs)
mapped_apart own key f back [] apart = tt
mapped_apart own key f back (x ∷ xs) apart =
    (all_mapped (λ y. key y ≢ key (f x)) f xs (all_weaker (λ y. own y ≢ own x) (λ y. key (f y) ≢ key (f x)) (λ y other same. other (back x y same)) xs apart.0), mapped_apart own key f back xs apart.1)

module _ {X K : Type 0} (key : X → K) where
  pub joined_apart : (xs ys : List X) → AreApartBy key xs → AreApartBy key ys → AllAcross (λ x y. key y ≢ key x) xs ys → AreApartBy key (xs ++ ys)
  joined_apart [] ys p q cross = q
  joined_apart (x ∷ xs) ys p q cross = (all_joined (λ y. key y ≢ key x) xs ys p.0 cross.0, joined_apart xs ys p.1 q cross.1)

-- items whose own keys are apart, and of which each gives rows whose keys are apart, and apart from those of items of other keys
flat_apart : {X Y K L : Type 0} (own : X → K) (key : Y → L) (f : X → List Y) → ((x y : X) → own y ≢ own x → AllAcross (λ r q. key q ≢ key r) (f x) (f y))
    → (xs : List X) → AllByRecursion (λ x. AreApartBy key (f x)) xs → AreApartBy own xs → AreApartBy key (flat_map f xs)
flat_apart own key f other [] each apart = tt
flat_apart own key f other (x ∷ xs) each apart =
    joined_apart key (f x) (flat_map f xs) each.0 (flat_apart own key f other xs each.1 apart.1)
    (across_flat (λ r q. key q ≢ key r) f (f x) xs (all_weaker (λ y. own y ≢ own x) (λ y. AllAcross (λ r q. key q ≢ key r) (f x) (f y)) (λ y unlike. other x y unlike) xs apart.0))

-- the entries of a map, by their keys
pub less_or_tied : (o : Ordering) → T (is_lt o) → is_eq o ≡ true → ⊥
less_or_tied Less p q = let e : false ≡ true = q in cc
less_or_tied Equal p q = p
less_or_tied Greater p q = p

less_unlike : {K : Type 0} {R : K → K → Ordering} → IsTotalOrder R → (k q : K) → T (is_lt (R k q)) → q ≢ k
less_unlike {K} {R = R} total k q less same = less_or_tied (R k q) less (subst (λ (other : K). eq_by_cmp R k other ≡ true) (sym same) ((eq_by_cmp_equiv total).refl k))

module _ {K X : Type 0} {R : K → K → Ordering} (total : IsTotalOrder R) where
  later_apart : (k : K) (xs : List (K × X)) → T (below_all R k xs) → AllByRecursion (λ (y : K × X). y.0 ≢ k) xs
  later_apart k [] less = tt
  later_apart k (x ∷ xs) less = let parts = both (is_lt (R k x.0)) (below_all R k xs) less in (less_unlike {R = R} total k x.0 parts.0, later_apart k xs parts.1)

  sorted_apart : (es : List (K × X)) → T (is_sorted R es) → AreApartBy (λ (e : K × X). e.0) es
  sorted_apart [] sorted = tt
  sorted_apart (e ∷ es) sorted = let parts = both (below_all R e.0 es) (is_sorted R es) sorted in (later_apart e.0 es parts.0, sorted_apart es parts.1)

  entries_apart : (m : FinMap R X) → AreApartBy (λ (e : K × X). e.0) (finite.entries m)
  entries_apart m = sorted_apart (finite.entries m) (entries_sorted m)

-- what each of some rows says keeps it apart from each of others, by what those say
pub across_of : {X Y : Type 0} (P : X → Y → Type 0) (Q : X → Type 0) (S : Y → Type 0) → ((x : X) (y : Y) → Q x → S y → P x y) → (xs : List X) (ys : List Y) → AllByRecursion Q xs → AllByRecursion S ys → AllAcross P xs ys
across_of P Q S apart xs ys p q = all_weaker Q (λ x. AllByRecursion (P x) ys) (λ x own. all_weaker S (P x) (λ y other. apart x y own other) ys q) xs p

-- texts of which no two are the same
pub other_text : (one other : List ℕ) → bytes_eq one other ≡ false → other ≢ one
other_text one other is same = cc (is, ap (λ (x : List ℕ). bytes_eq one x) same, (bytes_eq-Decides one one).1 refl)

-- items of which a test of pairs says that they are apart
pairs_apart : {X K : Type 0} (key : X → K) (test : X → X → Bool) → ((x y : X) → test x y ≡ true → key y ≢ key x) → (xs : List X) → all_pairs test xs ≡ true → AreApartBy key xs
pairs_apart key test other [] is = tt
pairs_apart key test other (x ∷ xs) is =
    let parts = and_parts (list_all (test x) xs) (all_pairs test xs) is in (all_pass (test x) (λ y. key y ≢ key x) (other x) xs parts.0, pairs_apart key test other xs parts.1)

names_apart : (names : List (List ℕ)) → all_pairs is_other_name names ≡ true → AreApartBy (λ (w : List ℕ). w) names
names_apart = pairs_apart (λ (w : List ℕ). w) is_other_name (λ x y is. other_text x y (not-true (bytes_eq x y) is))

-- items behind their places: apart by their places, and by themselves if they are
places_after : {X : Type 0} (at n : ℕ) (xs : List X) → at < n → AllByRecursion (λ (e : ℤ × X). e.0 ≢ pos at) (from_place n xs)
places_after at n [] lt = tt
places_after at n (x ∷ xs) lt = ((λ same. let e : n ≡ at = cc same in omega (arith, e, lt)), places_after at (suc n) xs (omega (arith, lt)))

places_apart : {X : Type 0} (n : ℕ) (xs : List X) → AreApartBy (λ (e : ℤ × X). e.0) (from_place n xs)
places_apart n [] = tt
places_apart n (x ∷ xs) = (places_after n (suc n) xs (omega arith), places_apart (suc n) xs)

pub placed_apart : {X : Type 0} (n : ℕ) (xs : List X) → AreApartBy (λ (x : X). x) xs → AreApartBy (λ (e : ℤ × X). e.1) (from_place n xs)
placed_apart n [] apart = tt
placed_apart n (x ∷ xs) apart = (others (suc n) xs apart.0, placed_apart (suc n) xs apart.1)
  where
    others : (m : ℕ) (ys : List _) → AllByRecursion (λ y. y ≢ x) ys → AllByRecursion (λ (e : ℤ × _). e.1 ≢ x) (from_place m ys)
    others m [] all = tt
    others m (y ∷ ys) all = (all.0, others (suc m) ys all.1)

-- TABLE BY TABLE
abbrev pub number_at : ℕ → Row → ℤ
number_at at columns = id_in (column columns at)

whole_number : (a b : ℕ) → pos a ≡ pos b → a ≡ b
whole_number a b same = cc same

pub people_apart : (s : State) → AreApart forms.people (rows_of s).people
people_apart s = mapped_apart (λ (e : List ℕ × Role). e.0) (key_of forms.people) person_row (λ e o same. ap (λ (c : Row). bytes (column c 0)) same) (finite.entries s.desk.roles) (entries_apart nat_list_cmp_total s.desk.roles)

pub changes_apart : (s : State) → AreApart forms.changes (rows_of s).changes
changes_apart s =
    mapped_apart (λ (e : ℕ × Change). e.0) (key_of forms.changes) change_row (λ e o same. whole_number o.0 e.0 (ap (number_at 0) same)) (finite.entries s.desk.changes) (entries_apart nat_cmp_total s.desk.changes)

-- batches, by their numbers
unlike_batches : (one other : Batch) → has_other_number one other ≡ true → other.number ≢ one.number
unlike_batches one other is same = cc (is, (unsigned_Decides one.number other.number).1 (sym same))

lane_apart : (batches : List Batch) → all_pairs has_other_number batches ≡ true → AreApartBy (λ (b : Batch). b.number) batches
lane_apart = pairs_apart (λ (b : Batch). b.number) has_other_number unlike_batches

lanes_apart : (ones others : List Batch) → have_other_numbers ones others ≡ true → AllAcross (λ (b o : Batch). o.number ≢ b.number) ones others
lanes_apart ones others =
    all_pass (λ b. list_all (has_other_number b) others) (λ b. AllByRecursion (λ (o : Batch). o.number ≢ b.number) others) (λ b. all_pass (has_other_number b) (λ (o : Batch). o.number ≢ b.number) (unlike_batches b) others) ones

module _ (s : State) (fit : Fits s) where
  pub numbers_apart : AreApartBy (λ (b : Batch). b.number) (batches_of s.queue)
  numbers_apart = joined_apart (λ (b : Batch). b.number) (lane.batches_of s.queue.staging) (lane.batches_of s.queue.trying) (lane_apart (lane.batches_of s.queue.staging) fit.staging_numbers) (lane_apart (lane.batches_of s.queue.trying) fit.trying_numbers)
      (lanes_apart (lane.batches_of s.queue.staging) (lane.batches_of s.queue.trying) fit.across)

  pub batches_apart : AreApart forms.batches (rows_of s).batches
  batches_apart = mapped_apart (λ (b : Batch). b.number) (key_of forms.batches) batch_row (λ b o same. whole_number o.number b.number (ap (number_at 0) same)) (batches_of s.queue) numbers_apart

  pub members_apart : AreApart forms.members (rows_of s).members
  members_apart = flat_apart (λ (b : Batch). b.number) (key_of forms.members) members_of
      (λ b o unlike. across_of (λ r q. key_of forms.members q ≢ key_of forms.members r) (λ (r : MemberRow). r.batch ≡ pos b.number) (λ (q : MemberRow). q.batch ≡ pos o.number)
      (λ r q of_b of_o same. unlike (whole_number o.number b.number (sym of_o ∙ ap (number_at 0) same ∙ of_b))) (members_of b) (members_of o)
      (all_mapped (λ (r : MemberRow). r.batch ≡ pos b.number) (member_row b.number) (placed b.changes) (all_of (λ (e : ℤ × ℕ). (member_row b.number e).batch ≡ pos b.number) (λ e. refl) (placed b.changes)))
      (all_mapped (λ (r : MemberRow). r.batch ≡ pos o.number) (member_row o.number) (placed o.changes) (all_of (λ (e : ℤ × ℕ). (member_row o.number e).batch ≡ pos o.number) (λ e. refl) (placed o.changes))))
      (batches_of s.queue)
      (all_of (λ (b : Batch). AreApartBy (key_of forms.members) (members_of b)) (λ b. mapped_apart (λ (e : ℤ × ℕ). e.0) (key_of forms.members) (member_row b.number) (λ e o same. ap (number_at 1) same) (placed b.changes) (places_apart 0 b.changes)) (batches_of s.queue))
      numbers_apart

  reports_apart : (stage : Stage) → AreApartBy (λ (e : List ℕ × Report). e.0) (reports_of stage)
  reports_apart stage.Waiting = tt
  reports_apart (stage.Ordered since) = tt
  reports_apart (stage.Staged since commit reports) = entries_apart nat_list_cmp_total reports
  reports_apart (stage.Landing commit) = tt

  pub statuses_apart : AreApart forms.statuses (rows_of s).statuses
  statuses_apart = flat_apart (λ (b : Batch). b.number) (key_of forms.statuses) statuses_of
      (λ b o unlike. across_of (λ r q. key_of forms.statuses q ≢ key_of forms.statuses r) (λ (r : StatusRow). r.batch ≡ pos b.number) (λ (q : StatusRow). q.batch ≡ pos o.number)
      (λ r q of_b of_o same. unlike (whole_number o.number b.number (sym of_o ∙ ap (number_at 0) same ∙ of_b))) (statuses_of b) (statuses_of o)
      (all_mapped (λ (r : StatusRow). r.batch ≡ pos b.number) (status_row b.number) (reports_of b.stage) (all_of (λ (e : List ℕ × Report). (status_row b.number e).batch ≡ pos b.number) (λ e. refl) (reports_of b.stage)))
      (all_mapped (λ (r : StatusRow). r.batch ≡ pos o.number) (status_row o.number) (reports_of o.stage) (all_of (λ (e : List ℕ × Report). (status_row o.number e).batch ≡ pos o.number) (λ e. refl) (reports_of o.stage))))
      (batches_of s.queue)
      (all_of (λ (b : Batch). AreApartBy (key_of forms.statuses) (statuses_of b)) (λ b. mapped_apart (λ (e : List ℕ × Report). e.0) (key_of forms.statuses) (status_row b.number) (λ e o same. ap (λ (c : Row). bytes (column c 1)) same) (reports_of b.stage) (reports_apart b.stage)) (batches_of s.queue))
      numbers_apart

-- MARKS: apart by their words, then by their kinds, then by their changes
abbrev pub mark_key : MarkRow → Row
mark_key = key_of forms.marks

list_apart : (n : ℕ) (kind : ℤ) (words : List (List ℕ)) → AreApartBy (λ (w : List ℕ). w) words → AreApartBy mark_key (list_marks n kind words)
list_apart n kind words apart = mapped_apart (λ (e : ℤ × List ℕ). e.1) mark_key (mark n kind) (λ e o same. ap (λ (c : Row). bytes (column c 2)) same) (placed words) (placed_apart 0 words apart)

words_apart : (words : FinSet (slice_cmp nat_cmp)) → AreApartBy (λ (w : List ℕ). w) (words_of words)
words_apart words =
    let m = finite.from_entries {R = slice_cmp nat_cmp} (map (λ (word : List ℕ). (word, tt)) (set.items words)) in
    mapped_apart (λ (e : List ℕ × Unit {0}). e.0) (λ (w : List ℕ). w) (λ (e : List ℕ × Unit {0}). e.0) (λ e o same. same) (finite.entries m) (entries_apart nat_list_cmp_total m)

set_apart : (n : ℕ) (kind : ℤ) (words : FinSet (slice_cmp nat_cmp)) → AreApartBy mark_key (set_marks n kind words)
set_apart n kind words = mapped_apart (λ (w : List ℕ). w) mark_key (λ (word : List ℕ). mark n kind (pos 0, word)) (λ w o same. ap (λ (c : Row). bytes (column c 2)) same) (words_of words) (words_apart words)

-- what holds of each mark of a list or of a set
module _ (P : MarkRow → Type 0) (n : ℕ) (kind : ℤ) (each : (e : ℤ × List ℕ) → P (mark n kind e)) where
  of_list : (words : List (List ℕ)) → AllByRecursion P (list_marks n kind words)
  of_list words = all_mapped P (mark n kind) (placed words) (all_of (λ e. P (mark n kind e)) each (placed words))

  pub of_set : (words : FinSet (slice_cmp nat_cmp)) → AllByRecursion P (set_marks n kind words)
  of_set words = all_mapped P (λ (word : List ℕ). mark n kind (pos 0, word)) (words_of words) (all_of (λ word. P (mark n kind (pos 0, word))) (λ word. each (pos 0, word)) (words_of words))

-- of each mark of a change, but for the names that passed on its head; and of all
abbrev first_marks : ℕ × Change → List MarkRow
first_marks e =
    set_marks e.0 (pos 1) e.1.labels ++ set_marks e.0 (pos 2) e.1.reviews ++ set_marks e.0 (pos 3) e.1.delegates
    ++ list_marks e.0 (pos 4) (unwrap_or e.1.approved []) ++ list_marks e.0 (pos 5) (names_of e.1.last)

pub of_first : (P : MarkRow → Type 0) (e : ℕ × Change) → ((m : ℤ × List ℕ) → P (mark e.0 (pos 1) m)) → ((m : ℤ × List ℕ) → P (mark e.0 (pos 2) m)) → ((m : ℤ × List ℕ) → P (mark e.0 (pos 3) m))
    → ((m : ℤ × List ℕ) → P (mark e.0 (pos 4) m)) → ((m : ℤ × List ℕ) → P (mark e.0 (pos 5) m)) → AllByRecursion P (first_marks e)
of_first P e one two three four five =
    all_joined P _ _ (all_joined P _ _ (all_joined P _ _ (all_joined P _ _ (of_set P e.0 (pos 1) one e.1.labels) (of_set P e.0 (pos 2) two e.1.reviews)) (of_set P e.0 (pos 3) three e.1.delegates))
    (of_list P e.0 (pos 4) four (unwrap_or e.1.approved []))) (of_list P e.0 (pos 5) five (names_of e.1.last))

of_change : (P : MarkRow → Type 0) (e : ℕ × Change) → ((kind : ℤ) (m : ℤ × List ℕ) → P (mark e.0 kind m)) → AllByRecursion P (marks_of e)
of_change P e each =
    all_joined P (first_marks e) (set_marks e.0 (pos 8) e.1.passed) (of_first P e (each (pos 1)) (each (pos 2)) (each (pos 3)) (each (pos 4)) (each (pos 5))) (of_set P e.0 (pos 8) (each (pos 8)) e.1.passed)

-- rows of one kind after rows of others, if the key tells the kind
module _ {R : Type 0} (key : R → Row) (kind_of : R → ℤ) (told : (r q : R) → key q ≡ key r → kind_of q ≡ kind_of r) where
  pub joined_kinds : (kind : ℤ) (xs ys : List R) → AreApartBy key xs → AreApartBy key ys → AllByRecursion (λ r. kind_of r ≢ kind) xs → AllByRecursion (λ q. kind_of q ≡ kind) ys → AreApartBy key (xs ++ ys)
  joined_kinds kind xs ys p q other own = joined_apart key xs ys p q
      (across_of (λ r q. key q ≢ key r) (λ r. kind_of r ≢ kind) (λ q. kind_of q ≡ kind) (λ r q of_r of_q same. of_r (sym (told r q same) ∙ of_q)) xs ys other own)

joined_marks : (kind : ℤ) (xs ys : List MarkRow) → AreApartBy mark_key xs → AreApartBy mark_key ys → AllByRecursion (λ (r : MarkRow). r.kind ≢ kind) xs → AllByRecursion (λ (q : MarkRow). q.kind ≡ kind) ys → AreApartBy mark_key (xs ++ ys)
joined_marks = joined_kinds mark_key (λ (r : MarkRow). r.kind) (λ r q same. ap (number_at 1) same)

module _ (e : ℕ × Change) (approvers : AreApartBy (λ (w : List ℕ). w) (unwrap_or e.1.approved [])) (named : AreApartBy (λ (w : List ℕ). w) (names_of e.1.last)) where
  abbrev a : List MarkRow
  a = set_marks e.0 (pos 1) e.1.labels

  abbrev b : List MarkRow
  b = set_marks e.0 (pos 2) e.1.reviews

  abbrev c : List MarkRow
  c = set_marks e.0 (pos 3) e.1.delegates

  abbrev d : List MarkRow
  d = list_marks e.0 (pos 4) (unwrap_or e.1.approved [])

  abbrev f : List MarkRow
  f = list_marks e.0 (pos 5) (names_of e.1.last)

  abbrev NotOf : ℤ → MarkRow → Type 0
  NotOf kind r = r.kind ≢ kind

  change_apart : AreApartBy mark_key (marks_of e)
  change_apart =
      let two = joined_marks (pos 2) a b (set_apart e.0 (pos 1) e.1.labels) (set_apart e.0 (pos 2) e.1.reviews) (of_set (NotOf (pos 2)) e.0 (pos 1) (λ m same. cc same) e.1.labels) (of_set (λ (q : MarkRow). q.kind ≡ pos 2) e.0 (pos 2) (λ m. refl) e.1.reviews) in
      let not_three = all_joined (NotOf (pos 3)) a b (of_set (NotOf (pos 3)) e.0 (pos 1) (λ m same. cc same) e.1.labels) (of_set (NotOf (pos 3)) e.0 (pos 2) (λ m same. cc same) e.1.reviews) in
      let three = joined_marks (pos 3) (a ++ b) c two (set_apart e.0 (pos 3) e.1.delegates) not_three (of_set (λ (q : MarkRow). q.kind ≡ pos 3) e.0 (pos 3) (λ m. refl) e.1.delegates) in
      let not_four = all_joined (NotOf (pos 4)) (a ++ b) c
      (all_joined (NotOf (pos 4)) a b (of_set (NotOf (pos 4)) e.0 (pos 1) (λ m same. cc same) e.1.labels) (of_set (NotOf (pos 4)) e.0 (pos 2) (λ m same. cc same) e.1.reviews)) (of_set (NotOf (pos 4)) e.0 (pos 3) (λ m same. cc same) e.1.delegates) in
      let four = joined_marks (pos 4) (a ++ b ++ c) d three (list_apart e.0 (pos 4) (unwrap_or e.1.approved []) approvers) not_four (of_list (λ (q : MarkRow). q.kind ≡ pos 4) e.0 (pos 4) (λ m. refl) (unwrap_or e.1.approved [])) in
      let not_five = all_joined (NotOf (pos 5)) (a ++ b ++ c) d
      (all_joined (NotOf (pos 5)) (a ++ b) c (all_joined (NotOf (pos 5)) a b (of_set (NotOf (pos 5)) e.0 (pos 1) (λ m same. cc same) e.1.labels) (of_set (NotOf (pos 5)) e.0 (pos 2) (λ m same. cc same) e.1.reviews)) (of_set (NotOf (pos 5)) e.0 (pos 3) (λ m same. cc same) e.1.delegates))
      (of_list (NotOf (pos 5)) e.0 (pos 4) (λ m same. cc same) (unwrap_or e.1.approved [])) in
      let five = joined_marks (pos 5) (a ++ b ++ c ++ d) f four (list_apart e.0 (pos 5) (names_of e.1.last) named) not_five (of_list (λ (q : MarkRow). q.kind ≡ pos 5) e.0 (pos 5) (λ m. refl) (names_of e.1.last)) in
      let not_eight = of_first (NotOf (pos 8)) e (λ m same. cc same) (λ m same. cc same) (λ m same. cc same) (λ m same. cc same) (λ m same. cc same) in
      joined_marks (pos 8) (first_marks e) (set_marks e.0 (pos 8) e.1.passed) five (set_apart e.0 (pos 8) e.1.passed) not_eight (of_set (λ (q : MarkRow). q.kind ≡ pos 8) e.0 (pos 8) (λ m. refl) e.1.passed)

approvers_apart : (ready : Bool) (change : Change) (approved : Option (List (List ℕ))) → fits_approval ready change approved ≡ true → AreApartBy (λ (w : List ℕ). w) (unwrap_or approved [])
approvers_apart ready change None is = tt
approvers_apart ready change (Some names) is =
    let named = second_so (is_open_phase change.phase && ready) (fit_names names) is in names_apart names (second_so (not (length names == 0)) (all_pairs is_other_name names) named)

last_apart : (last : Option Repeat) → fits_repeat last ≡ true → AreApartBy (λ (w : List ℕ). w) (names_of last)
last_apart None is = tt
last_apart (Some repeat.Approve) is = tt
last_apart (Some (repeat.ApproveFor names)) is = names_apart names (second_so (not (length names == 0)) (all_pairs is_other_name names) is)
last_apart (Some repeat.Try) is = tt

each_change : (ready : Bool) (entries : List (ℕ × Change)) → fit_changes ready entries ≡ true → AllByRecursion (λ e. AreApartBy mark_key (marks_of e)) entries
each_change ready [] is = tt
each_change ready (e ∷ entries) is =
    let change = e.1 in
    let own = first_so (fits_change ready change) (fit_changes ready entries) is in
    let front = first_so (fits_priority change.priority && fits_approval ready change change.approved && fits_try ready change) (fits_repeat change.last) own in
    let middle = first_so (fits_priority change.priority && fits_approval ready change change.approved) (fits_try ready change) front in (
      change_apart e (approvers_apart ready change change.approved (second_so (fits_priority change.priority) (fits_approval ready change change.approved) middle))
          (last_apart change.last (second_so (fits_priority change.priority && fits_approval ready change change.approved && fits_try ready change) (fits_repeat change.last) own)),
      each_change ready entries (second_so (fits_change ready change) (fit_changes ready entries) is),
    )

pub marks_apart : (s : State) → fits s ≡ true → AreApart forms.marks (rows_of s).marks
marks_apart s is =
    let entries = finite.entries s.desk.changes in
    let desk = first_so (fits_desk s.desk) (fits_next s.queue.next) (first_so (fits_desk s.desk && fits_next s.queue.next) (fits_queue s.desk s.queue) is) in
    let fit = second_so (nat_le s.desk.clock 9_000_000_000_000_000) (fit_changes (is_ready s.desk) entries) desk in
    flat_apart (λ (e : ℕ × Change). e.0) mark_key marks_of
    (λ e o unlike. across_of (λ r q. mark_key q ≢ mark_key r) (λ (r : MarkRow). r.change_no ≡ pos e.0) (λ (q : MarkRow). q.change_no ≡ pos o.0)
    (λ r q of_e of_o same. unlike (whole_number o.0 e.0 (sym of_o ∙ ap (number_at 0) same ∙ of_e))) (marks_of e) (marks_of o)
    (of_change (λ (r : MarkRow). r.change_no ≡ pos e.0) e (λ kind m. refl)) (of_change (λ (r : MarkRow). r.change_no ≡ pos o.0) o (λ kind m. refl)))
    entries (each_change (is_ready s.desk) entries fit) (entries_apart nat_cmp_total s.desk.changes)

-- THE LISTS OF THE SETTINGS: apart by their places, then by their kinds
abbrev wanted_key : WantedRow → Row
wanted_key = key_of forms.wanted

module _ (kind : ℤ) (words : List (List ℕ)) where
  wanted_list_apart : AreApartBy wanted_key (list_wanted kind words)
  wanted_list_apart = mapped_apart (λ (e : ℤ × List ℕ). e.0) wanted_key (wanted_row kind) (λ e o same. ap (number_at 1) same) (placed words) (places_apart 0 words)

  pub of_wanted : (P : WantedRow → Type 0) → ((e : ℤ × List ℕ) → P (wanted_row kind e)) → AllByRecursion P (list_wanted kind words)
  of_wanted P each = all_mapped P (wanted_row kind) (placed words) (all_of (λ e. P (wanted_row kind e)) each (placed words))

joined_wanted : (kind : ℤ) (xs ys : List WantedRow) → AreApartBy wanted_key xs → AreApartBy wanted_key ys → AllByRecursion (λ (r : WantedRow). r.kind ≢ kind) xs → AllByRecursion (λ (q : WantedRow). q.kind ≡ kind) ys → AreApartBy wanted_key (xs ++ ys)
joined_wanted = joined_kinds wanted_key (λ (r : WantedRow). r.kind) (λ r q same. ap (number_at 0) same)

wanted_apart : (settings : Option SettingsView) → AreApart forms.wanted (wanted_of settings)
wanted_apart None = tt
wanted_apart (Some settings) =
    let status = list_wanted (pos 1) settings.status in
    let labels = list_wanted (pos 2) settings.block_labels in
    let own = list_wanted (pos 3) settings.pr_status in
    let not_three = all_joined (λ (r : WantedRow). r.kind ≢ pos 3) status labels (of_wanted (pos 1) settings.status (λ r. r.kind ≢ pos 3) (λ e same. cc same)) (of_wanted (pos 2) settings.block_labels (λ r. r.kind ≢ pos 3) (λ e same. cc same)) in
    let two = joined_wanted (pos 2) status labels (wanted_list_apart (pos 1) settings.status) (wanted_list_apart (pos 2) settings.block_labels)
    (of_wanted (pos 1) settings.status (λ r. r.kind ≢ pos 2) (λ e same. cc same)) (of_wanted (pos 2) settings.block_labels (λ q. q.kind ≡ pos 2) (λ e. refl)) in
    joined_wanted (pos 3) (status ++ labels) own two (wanted_list_apart (pos 3) settings.pr_status) not_three (of_wanted (pos 3) settings.pr_status (λ q. q.kind ≡ pos 3) (λ e. refl))

pub have_keys : (s : State) → fits s ≡ true → HaveKeys (rows_of s)
have_keys s is =
    let fit = facts s is in
    record {
      desk = (tt, tt);
      people = people_apart s;
      changes = changes_apart s;
      marks = marks_apart s is;
      batches = batches_apart s fit;
      members = members_apart s fit;
      statuses = statuses_apart s fit;
      wanted = wanted_apart s.desk.settings;
    }
