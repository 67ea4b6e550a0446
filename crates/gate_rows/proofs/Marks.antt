-- The sets and lists of words of a change are read again from the marks.
use Rattle.std.proofs.Common.{◌≡◌, ◌⊎◌, inl, inr, ℕ, zero, suc, ℤ, pos, nat_abs, Bool, true, false, cond, ◌&&◌, List, [], ◌∷◌, ◌++◌, map, refl, sym, ◌∙◌, ap, subst, append-nil}
use Rattle.std.proofs.lemmas.List.Elements.{filter-append}
use Rattle.std.specs.Cmp.{second_so, nat_cmp_total, signed_Decides}
use Rattle.std.specs.Cmp.Lexicographic.{slice_cmp, nat_list_cmp_total}
use Rattle.std.specs.FinMap as finite
use Rattle.std.specs.FinMap.{FinMap, nat_cmp-IsAntisymmetric, slice_cmp-IsAntisymmetric}
use Rattle.std.specs.FinSet as set
use Rattle.std.specs.FinSet.{FinSet}
use Rattle.std.specs.List.{filter, flat_map}
use Rattle.std.specs.Option.{unwrap_or}
use Rattle.std.specs.Ordering.{int_eq, nat_cmp}
use Rattle.gate_text.specs.Finite.{words_of}
use Rattle.gate_rules.specs.declared.change.Change.{Change}
use Rattle.gate_rows.specs.Decoding.{is_mark, set_in, list_in}
use Rattle.gate_rows.specs.Encoding.{list_marks, mark, marks_of, names_of, placed, set_marks}
use Rattle.gate_tables.specs.declared.row.MarkRow.{MarkRow}
use Rattle.gate_rows.proofs.Canonical.{one_of_key, same-keys}
use Rattle.gate_rows.proofs.Elements.{Among, HaveSame, among-append, map-among, same-filter, same-map, same-trans}
use Rattle.gate_rows.proofs.Scanning.{list_again, own_rows, set_again}

-- A TEST that gives the same on all of a list
pub filter_const : {X Y : Type 0} (f : X → Y) (test : Y → Bool) (b : Bool) → ((x : X) → test (f x) ≡ b) → (xs : List X) → filter test (map f xs) ≡ cond b (map f xs) []
filter_const f test true is [] = refl
filter_const f test true is (x ∷ xs) = ap (λ (c : Bool). cond c (f x ∷ filter test (map f xs)) (filter test (map f xs))) (is x) ∙ ap (λ rest. f x ∷ rest) (filter_const f test true is xs)
filter_const f test false is [] = refl
filter_const f test false is (x ∷ xs) = ap (λ (c : Bool). cond c (f x ∷ filter test (map f xs)) (filter test (map f xs))) (is x) ∙ filter_const f test false is xs

-- the marks of one kind, of these
module _ (change : ℕ) (at kind : ℤ) where
  abbrev pub if_kind : ℤ → List MarkRow → List MarkRow
  if_kind k rows = cond (int_eq k kind && int_eq (pos change) at) rows []

  of_set : (k : ℤ) (words : FinSet (slice_cmp nat_cmp)) → filter (is_mark at kind) (set_marks change k words) ≡ if_kind k (set_marks change k words)
  of_set k words = filter_const (λ word. mark change k (pos 0, word)) (is_mark at kind) (int_eq k kind && int_eq (pos change) at) (λ word. refl) (words_of words)

  of_list : (k : ℤ) (words : List (List ℕ)) → filter (is_mark at kind) (list_marks change k words) ≡ if_kind k (list_marks change k words)
  of_list k words = filter_const (mark change k) (is_mark at kind) (int_eq k kind && int_eq (pos change) at) (λ entry. refl) (placed words)

  of_change : (c : Change) → filter (is_mark at kind) (marks_of (change, c))
      ≡ if_kind (pos 1) (set_marks change (pos 1) c.labels) ++ if_kind (pos 2) (set_marks change (pos 2) c.reviews) ++ if_kind (pos 3) (set_marks change (pos 3) c.delegates)
      ++ if_kind (pos 4) (list_marks change (pos 4) (unwrap_or c.approved [])) ++ if_kind (pos 5) (list_marks change (pos 5) (names_of c.last))
      ++ if_kind (pos 8) (set_marks change (pos 8) c.passed)
  of_change c =
      let test = is_mark at kind in
      let labels = set_marks change (pos 1) c.labels in
      let reviews = set_marks change (pos 2) c.reviews in
      let delegates = set_marks change (pos 3) c.delegates in
      let approvers = list_marks change (pos 4) (unwrap_or c.approved []) in
      let names = list_marks change (pos 5) (names_of c.last) in
      rw (
        filter-append test (labels ++ reviews ++ delegates ++ approvers ++ names) (set_marks change (pos 8) c.passed),
        filter-append test (labels ++ reviews ++ delegates ++ approvers) names,
        filter-append test (labels ++ reviews ++ delegates) approvers,
        filter-append test (labels ++ reviews) delegates,
        filter-append test labels reviews,
        of_set (pos 1) c.labels,
        of_set (pos 2) c.reviews,
        of_set (pos 3) c.delegates,
        of_list (pos 4) (unwrap_or c.approved []),
        of_list (pos 5) (names_of c.last),
        of_set (pos 8) c.passed,
      ) refl

-- NUMBERS
pub itself : (n : ℤ) → int_eq n n ≡ true
itself n = (signed_Decides n n).1 refl

pub same_number : (m n : ℕ) → int_eq (pos m) (pos n) ≡ true → m ≡ n
same_number m n is = ap nat_abs ((signed_Decides (pos m) (pos n)).0 is)

-- WHOSE A MARK IS
module _ (change : ℕ) (row : MarkRow) where
  of_map : {X : Type 0} (f : X → MarkRow) (xs : List X) → ((x : X) → (f x).change_no ≡ pos change) → Among row (map f xs) → row.change_no ≡ pos change
  of_map f xs is there = let found = map-among f row xs there in ap (λ (r : MarkRow). r.change_no) found.2 ∙ is found.0

  number_of_mark : (c : Change) → Among row (marks_of (change, c)) → row.change_no ≡ pos change
  number_of_mark c there = fifth (among-append row (labels ++ reviews ++ delegates ++ approvers ++ names) passed there) where
    labels : List MarkRow
    labels = set_marks change (pos 1) c.labels

    reviews : List MarkRow
    reviews = set_marks change (pos 2) c.reviews

    delegates : List MarkRow
    delegates = set_marks change (pos 3) c.delegates

    approvers : List MarkRow
    approvers = list_marks change (pos 4) (unwrap_or c.approved [])

    names : List MarkRow
    names = list_marks change (pos 5) (names_of c.last)

    passed : List MarkRow
    passed = set_marks change (pos 8) c.passed

    of_set_marks : (k : ℤ) (words : FinSet (slice_cmp nat_cmp)) → Among row (set_marks change k words) → row.change_no ≡ pos change
    of_set_marks k words among = of_map (λ word. mark change k (pos 0, word)) (words_of words) (λ word. refl) among

    of_list_marks : (k : ℤ) (words : List (List ℕ)) → Among row (list_marks change k words) → row.change_no ≡ pos change
    of_list_marks k words among = of_map (mark change k) (placed words) (λ entry. refl) among

    first : Among row labels ⊎ Among row reviews → row.change_no ≡ pos change
    first (inl among) = of_set_marks (pos 1) c.labels among
    first (inr among) = of_set_marks (pos 2) c.reviews among

    second : Among row (labels ++ reviews) ⊎ Among row delegates → row.change_no ≡ pos change
    second (inl among) = first (among-append row labels reviews among)
    second (inr among) = of_set_marks (pos 3) c.delegates among

    third : Among row (labels ++ reviews ++ delegates) ⊎ Among row approvers → row.change_no ≡ pos change
    third (inl among) = second (among-append row (labels ++ reviews) delegates among)
    third (inr among) = of_list_marks (pos 4) (unwrap_or c.approved []) among

    fourth : Among row (labels ++ reviews ++ delegates ++ approvers) ⊎ Among row names → row.change_no ≡ pos change
    fourth (inl among) = third (among-append row (labels ++ reviews ++ delegates) approvers among)
    fourth (inr among) = of_list_marks (pos 5) (names_of c.last) among

    fifth : Among row (labels ++ reviews ++ delegates ++ approvers ++ names) ⊎ Among row passed → row.change_no ≡ pos change
    fifth (inl among) = fourth (among-append row (labels ++ reviews ++ delegates ++ approvers) names among)
    fifth (inr among) = of_set_marks (pos 8) c.passed among

pub map_back : {X Y : Type 0} (f : X → Y) (g : Y → X) → ((x : X) → g (f x) ≡ x) → (xs : List X) → map g (map f xs) ≡ xs
map_back f g is [] = refl
map_back f g is (x ∷ xs) = λ i. is x i ∷ map_back f g is xs i

-- a block alone, before so many that are empty
abbrev pub before_none : {X : Type 0} → ℕ → List X → List X
before_none zero rows = rows
before_none (suc n) rows = before_none n rows ++ []

pub alone_before : {X : Type 0} (n : ℕ) (rows : List X) → before_none n rows ≡ rows
alone_before zero rows = refl
alone_before (suc n) rows = append-nil (before_none n rows) ∙ alone_before n rows

chosen : (n : ℕ) (rows : List MarkRow) → cond (int_eq (pos n) (pos n)) rows [] ≡ rows
chosen n rows = ap (λ (c : Bool). cond c rows []) (itself (pos n))

-- THE MARKS are read again.
module _ (changes : FinMap nat_cmp Change) (rows : List MarkRow) (same : HaveSame rows (flat_map marks_of (finite.entries changes))) where
  all : List MarkRow
  all = flat_map marks_of (finite.entries changes)

  -- those of one kind, from these rows
  read_set : (at kind : ℤ) (change : ℕ) (words : FinSet (slice_cmp nat_cmp)) → HaveSame (filter (is_mark at kind) rows) (set_marks change kind words) → set_in at kind rows ≡ words
  read_set at kind change words own =
      let found = map (λ (row : MarkRow). row.word) (filter (is_mark at kind) rows) in
      set_again nat_list_cmp_total (slice_cmp-IsAntisymmetric nat_cmp-IsAntisymmetric) found words
      (same-trans found (words_of words) (set.items words)
      (subst (HaveSame found) (map_back (λ word. mark change kind (pos 0, word)) (λ (row : MarkRow). row.word) (λ word. refl) (words_of words))
      (same-map (λ (row : MarkRow). row.word) (filter (is_mark at kind) rows) (set_marks change kind words) own))
      (same-keys nat_list_cmp_total (slice_cmp-IsAntisymmetric nat_cmp-IsAntisymmetric) (set.items words)))

  read_list : (at kind : ℤ) (change : ℕ) (words : List (List ℕ)) → HaveSame (filter (is_mark at kind) rows) (list_marks change kind words) → list_in at kind rows ≡ words
  read_list at kind change words own =
      list_again (map (λ (row : MarkRow). (row.place, row.word)) (filter (is_mark at kind) rows)) words
      (subst (HaveSame (map (λ (row : MarkRow). (row.place, row.word)) (filter (is_mark at kind) rows))) (map_back (mark change kind) (λ (row : MarkRow). (row.place, row.word)) (λ entry. refl) (placed words))
      (same-map (λ (row : MarkRow). (row.place, row.word)) (filter (is_mark at kind) rows) (list_marks change kind words) own))

  -- of a change
  module _ (n : ℕ) (c : Change) (there : Among (n, c) (finite.entries changes)) where
    alone : (kind : ℤ) (other : ℕ × Change) (row : MarkRow) → Among other (finite.entries changes) → Among row (marks_of other) → is_mark (pos n) kind row ≡ true → other ≡ (n, c)
    alone kind other row among of passes =
        let number : other.0 ≡ n = same_number other.0 n
        (ap (λ (k : ℤ). int_eq k (pos n)) (sym (number_of_mark other.0 row other.1 of)) ∙ second_so (int_eq row.kind kind) (int_eq row.change_no (pos n)) passes) in
        let value : other.1 ≡ c = one_of_key nat_cmp_total nat_cmp-IsAntisymmetric changes n other.1 c (subst (λ (k : ℕ). Among (k, other.1) (finite.entries changes)) number among) there in
        λ i. (number i, value i)

    own : (kind : ℤ) → HaveSame (filter (is_mark (pos n) kind) rows) (filter (is_mark (pos n) kind) (marks_of (n, c)))
    unfolding all
    own kind =
        let test = is_mark (pos n) kind in
        same-trans (filter test rows) (filter test all) (filter test (marks_of (n, c))) (same-filter test rows all same) (own_rows marks_of (finite.entries changes) test (n, c) there (alone kind))

    pub labels_again : set_in (pos n) (pos 1) rows ≡ c.labels
    labels_again = read_set (pos n) (pos 1) n c.labels (subst (HaveSame (filter (is_mark (pos n) (pos 1)) rows)) (of_change n (pos n) (pos 1) c ∙ alone_before 5 (if_kind n (pos n) (pos 1) (pos 1) (set_marks n (pos 1) c.labels)) ∙ chosen n (set_marks n (pos 1) c.labels)) (own (pos 1)))

    pub reviews_again : set_in (pos n) (pos 2) rows ≡ c.reviews
    reviews_again = read_set (pos n) (pos 2) n c.reviews (subst (HaveSame (filter (is_mark (pos n) (pos 2)) rows)) (of_change n (pos n) (pos 2) c ∙ alone_before 4 (if_kind n (pos n) (pos 2) (pos 2) (set_marks n (pos 2) c.reviews)) ∙ chosen n (set_marks n (pos 2) c.reviews)) (own (pos 2)))

    pub delegates_again : set_in (pos n) (pos 3) rows ≡ c.delegates
    delegates_again = read_set (pos n) (pos 3) n c.delegates (subst (HaveSame (filter (is_mark (pos n) (pos 3)) rows)) (of_change n (pos n) (pos 3) c ∙ alone_before 3 (if_kind n (pos n) (pos 3) (pos 3) (set_marks n (pos 3) c.delegates)) ∙ chosen n (set_marks n (pos 3) c.delegates)) (own (pos 3)))

    pub approvers_again : list_in (pos n) (pos 4) rows ≡ unwrap_or c.approved []
    approvers_again = read_list (pos n) (pos 4) n (unwrap_or c.approved []) (subst (HaveSame (filter (is_mark (pos n) (pos 4)) rows)) (of_change n (pos n) (pos 4) c ∙ alone_before 2 (if_kind n (pos n) (pos 4) (pos 4) (list_marks n (pos 4) (unwrap_or c.approved []))) ∙ chosen n (list_marks n (pos 4) (unwrap_or c.approved []))) (own (pos 4)))

    pub names_again : list_in (pos n) (pos 5) rows ≡ names_of c.last
    names_again = read_list (pos n) (pos 5) n (names_of c.last) (subst (HaveSame (filter (is_mark (pos n) (pos 5)) rows)) (of_change n (pos n) (pos 5) c ∙ alone_before 1 (if_kind n (pos n) (pos 5) (pos 5) (list_marks n (pos 5) (names_of c.last))) ∙ chosen n (list_marks n (pos 5) (names_of c.last))) (own (pos 5)))

    pub passed_again : set_in (pos n) (pos 8) rows ≡ c.passed
    passed_again = read_set (pos n) (pos 8) n c.passed (subst (HaveSame (filter (is_mark (pos n) (pos 8)) rows)) (of_change n (pos n) (pos 8) c ∙ chosen n (set_marks n (pos 8) c.passed)) (own (pos 8)))
