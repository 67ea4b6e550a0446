-- The batches of a queue are read again from their rows.
use Rattle.std.proofs.Common.{◌≡◌, ◌⊎◌, inl, inr, ℕ, ℤ, pos, nat_abs, Bool, true, false, List, [], ◌∷◌, ◌++◌, map, refl, sym, ◌∙◌, ap, subst}
use Rattle.std.specs.Cmp.{first_so, second_so, unsigned_Decides}
use Rattle.std.specs.Cmp.Lexicographic.{slice_cmp, nat_list_cmp_total}
use Rattle.std.specs.FinMap as finite
use Rattle.std.specs.FinMap.{FinMap, nat_cmp-IsAntisymmetric, slice_cmp-IsAntisymmetric}
use Rattle.std.specs.List.{filter, flat_map, list_all}
use Rattle.std.specs.Ordering.{int_eq, nat_cmp}
use Rattle.gate_state.specs.Checks.{all_pairs, has_other_number, have_other_numbers}
use Rattle.gate_state.specs.declared.batch.Batch.{Batch}
use Rattle.gate_state.specs.declared.batch.Branch.{Branch}
use Rattle.gate_state.specs.declared.batch.Branch.TheVariants.{Staging, Trying}
use Rattle.gate_state.specs.declared.batch.Report.{Report}
use Rattle.gate_state.specs.declared.batch.Report.TheVariants.{Success, Pending}
use Rattle.gate_state.specs.declared.batch.Stage.{Stage}
use Rattle.gate_state.specs.declared.batch.Stage.TheVariants as stage
use Rattle.gate_rows.specs.Decoding.{batch_in, branch_in, changes_in, report_in, reports_in, stage_in}
use Rattle.gate_rows.specs.Encoding.{batch_row, branch_number, flag, member_row, members_of, placed, report_number, reports_of, sha_of, since_of, stage_number, status_row, statuses_of}
use Rattle.gate_tables.specs.declared.row.MemberRow.{MemberRow}
use Rattle.gate_tables.specs.declared.row.Rows.{Rows}
use Rattle.gate_tables.specs.declared.row.StatusRow.{StatusRow}
use Rattle.gate_rows.proofs.Canonical.{map_again}
use Rattle.gate_rows.proofs.Elements.{Among, HaveSame, among-append, map-among, same-filter, same-map, same-trans}
use Rattle.gate_rows.proofs.Marks.{filter_const, itself, map_back, same_number}
use Rattle.gate_rows.proofs.Scanning.{list_again, own_rows}

-- NUMBERS THAT ARE APART
pub among_all : {X : Type 0} (test : X → Bool) (x : X) (xs : List X) → list_all test xs ≡ true → Among x xs → test x ≡ true
among_all test x [] all there = absurd there
among_all test x (y ∷ ys) all (inl is) = ap test is ∙ first_so (test y) (list_all test ys) all
among_all test x (y ∷ ys) all (inr later) = among_all test x ys (second_so (test y) (list_all test ys) all) later

unlike : (one other : Batch) → has_other_number one other ≡ true → one.number ≡ other.number → ⊥
unlike one other is same = cc (is, (unsigned_Decides one.number other.number).1 same)

pub alone_in : (batches : List Batch) → all_pairs has_other_number batches ≡ true → (one other : Batch) → Among one batches → Among other batches → one.number ≡ other.number → one ≡ other
alone_in [] apart one other first second same = absurd first
alone_in (batch ∷ batches) apart one other (inl is) (inl too) same = is ∙ sym too
alone_in (batch ∷ batches) apart one other (inl is) (inr later) same =
    absurd (unlike batch other (among_all (has_other_number batch) other batches (first_so (list_all (has_other_number batch) batches) (all_pairs has_other_number batches) apart) later)
    (ap (λ (b : Batch). b.number) (sym is) ∙ same))
alone_in (batch ∷ batches) apart one other (inr later) (inl is) same =
    absurd (unlike batch one (among_all (has_other_number batch) one batches (first_so (list_all (has_other_number batch) batches) (all_pairs has_other_number batches) apart) later)
    (ap (λ (b : Batch). b.number) (sym is) ∙ sym same))
alone_in (batch ∷ batches) apart one other (inr first) (inr second) same =
    alone_in batches (second_so (list_all (has_other_number batch) batches) (all_pairs has_other_number batches) apart) one other first second same

pub alone_in_both : (ones others : List Batch) → all_pairs has_other_number ones ≡ true → all_pairs has_other_number others ≡ true → have_other_numbers ones others ≡ true
    → (one other : Batch) → Among one (ones ++ others) → Among other (ones ++ others) → one.number ≡ other.number → one ≡ other
alone_in_both ones others first second across one other there too same = by (among-append one ones others there) (among-append other ones others too) where
  apart : (x y : Batch) → Among x ones → Among y others → x.number ≡ y.number → ⊥
  apart x y here there alike = unlike x y (among_all (has_other_number x) y others (among_all (λ (b : Batch). list_all (has_other_number b) others) x ones across here) there) alike

  by : Among one ones ⊎ Among one others → Among other ones ⊎ Among other others → one ≡ other
  by (inl here) (inl there) = alone_in ones first one other here there same
  by (inl here) (inr there) = absurd (apart one other here there same)
  by (inr there) (inl here) = absurd (apart other one here there (sym same))
  by (inr here) (inr there) = alone_in others second one other here there same

-- THE PARTS OF A BATCH
branch_again : (branch : Branch) → branch_in (branch_number branch) ≡ branch
branch_again Staging = refl
branch_again Trying = refl

flag_again : (b : Bool) → int_eq (flag b) (pos 1) ≡ b
flag_again true = refl
flag_again false = refl

report_again : (report : Report) → report_in (report_number report) ≡ report
report_again Success = refl
report_again Pending = refl

module _ (all : List Batch) (apart : (one other : Batch) → Among one all → Among other all → one.number ≡ other.number → one ≡ other) where
  -- the rows of one batch among those of all
  module _ {Item Row : Type 0} (row_of : ℕ → Item → Row) (number : Row → ℤ) (is : (n : ℕ) (item : Item) → number (row_of n item) ≡ pos n) (items : Batch → List Item) where
    own : (rows : List Row) → HaveSame rows (flat_map (λ (batch : Batch). map (row_of batch.number) (items batch)) all) → (b : Batch) → Among b all
        → HaveSame (filter (λ row. int_eq (number row) (pos b.number)) rows) (map (row_of b.number) (items b))
    own rows same b there = same-trans (filter test rows) (filter test (flat_map rows_of all)) (map (row_of b.number) (items b)) (same-filter test rows (flat_map rows_of all) same)
        (subst (HaveSame (filter test (flat_map rows_of all))) whole (own_rows rows_of all test b there alone)) where
          test : Row → Bool
          test row = int_eq (number row) (pos b.number)

          rows_of : Batch → List Row
          rows_of batch = map (row_of batch.number) (items batch)

          whole : filter test (rows_of b) ≡ map (row_of b.number) (items b)
          whole = filter_const (row_of b.number) test true (λ item. ap (λ (n : ℤ). int_eq n (pos b.number)) (is b.number item) ∙ itself (pos b.number)) (items b)

          alone : (other : Batch) (row : Row) → Among other all → Among row (rows_of other) → test row ≡ true → other ≡ b
          alone other row among of passes =
              let found = map-among (row_of other.number) row (items other) of in
              let of_other : number row ≡ pos other.number = ap number found.2 ∙ is other.number found.0 in
              apart other b among there (same_number other.number b.number (ap (λ (n : ℤ). int_eq n (pos b.number)) (sym of_other) ∙ passes))

  pub members_again : (rows : List MemberRow) → HaveSame rows (flat_map members_of all) → (b : Batch) → Among b all → changes_in (pos b.number) rows ≡ b.changes
  members_again rows same b there =
      let entry_of : MemberRow → ℤ × ℕ = λ (row : MemberRow). (row.place, nat_abs row.change_no) in
      let found = filter (λ (row : MemberRow). int_eq row.batch (pos b.number)) rows in
      list_again (map entry_of found) b.changes
      (subst (HaveSame (map entry_of found)) (map_back (member_row b.number) entry_of (λ entry. refl) (placed b.changes))
      (same-map entry_of found (members_of b) (own member_row (λ (row : MemberRow). row.batch) (λ n entry. refl) (λ (batch : Batch). placed batch.changes) rows same b there)))

  statuses_again : (rows : List StatusRow) → HaveSame rows (flat_map statuses_of all) → (b : Batch) → Among b all → (m : FinMap (slice_cmp nat_cmp) Report) → reports_of b.stage ≡ finite.entries m
      → reports_in (pos b.number) rows ≡ m
  statuses_again rows same b there m is =
      let entry_of : StatusRow → List ℕ × Report = λ (row : StatusRow). (row.name, report_in row.report) in
      let found = filter (λ (row : StatusRow). int_eq row.batch (pos b.number)) rows in
      map_again nat_list_cmp_total (slice_cmp-IsAntisymmetric nat_cmp-IsAntisymmetric) (map entry_of found) m
      (subst (HaveSame (map entry_of found)) (map_back (status_row b.number) entry_of (λ (entry : List ℕ × Report). λ i. (entry.0, report_again entry.1 i)) (reports_of b.stage) ∙ is)
      (same-map entry_of found (statuses_of b) (own status_row (λ (row : StatusRow). row.batch) (λ n entry. refl) (λ (batch : Batch). reports_of batch.stage) rows same b there)))

  stage_again : (found : FinMap (slice_cmp nat_cmp) Report) (s : Stage) → ((m : FinMap (slice_cmp nat_cmp) Report) → reports_of s ≡ finite.entries m → found ≡ m) → stage_in (stage_number s) (since_of s) (sha_of s) found ≡ s
  stage_again found stage.Waiting is = refl
  stage_again found (stage.Ordered since) is = refl
  stage_again found (stage.Staged since commit reports) is = ap (λ (m : FinMap (slice_cmp nat_cmp) Report). stage.Staged since commit m) (is reports refl)
  stage_again found (stage.Landing commit) is = refl

  pub batch_again : (rows : Rows) → HaveSame rows.members (flat_map members_of all) → HaveSame rows.statuses (flat_map statuses_of all) → (b : Batch) → Among b all → batch_in rows (batch_row b) ≡ b
  batch_again rows members statuses b there = λ i. record {
    number = b.number;
    branch = branch_again b.branch i;
    priority = b.priority;
    again = flag_again b.again i;
    stage = stage_again (reports_in (pos b.number) rows.statuses) b.stage (statuses_again rows.statuses statuses b there) i;
    changes = members_again rows.members members b there i;
  }
