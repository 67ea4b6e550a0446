-- The rows of a state are read as that state.
use Rattle.std.proofs.Common.{◌≡◌, ◌⊎◌, inl, inr, ◌≤◌, ◌==◌, ℕ, pos, nat_abs, Bool, true, false, cond, not, ◌&&◌, ◌||◌, List, [], ◌∷◌, ◌++◌, map, Option, Some, None, Ok, is_some, IfSome, nat_le, nat_lt, leb-true, refl, sym, ◌∙◌, ap, subst, append-nil, arith, IsPermutation}
use Rattle.std.proofs.lemmas.List.{map-append}
use Rattle.std.proofs.lemmas.List.Elements.{filter-append}
use Rattle.std.specs.Cmp.{first_so, second_so, nat_cmp_total, unsigned_Decides}
use Rattle.std.specs.Cmp.Lexicographic.{slice_cmp, nat_list_cmp_total}
use Rattle.std.specs.FinMap as finite
use Rattle.std.specs.FinMap.{nat_cmp-IsAntisymmetric, slice_cmp-IsAntisymmetric}
use Rattle.std.specs.Int.{is_in_range}
use Rattle.std.specs.List.{filter, flat_map, list_all}
use Rattle.std.specs.Option.{option_map_or, unwrap_or}
use Rattle.std.specs.Ordering.{int_eq, nat_cmp}
use Rattle.std.specs.Str.{bytes_eq}
use Rattle.gate_text.specs.Settings.{SettingsView, are_items, are_settings, is_size}
use Rattle.gate_text.specs.SmallTexts.{commit_of}
use Rattle.gate_rules.specs.View.{DeskView}
use Rattle.gate_rules.specs.declared.change.Change.{Change}
use Rattle.gate_rules.specs.declared.change.Phase.{Phase}
use Rattle.gate_rules.specs.declared.change.Phase.TheVariants.{Opened, Closed, Landed}
use Rattle.gate_rules.specs.declared.change.Repeat.{Repeat}
use Rattle.gate_rules.specs.declared.change.Repeat.TheVariants as repeat
use Rattle.gate_rules.specs.declared.role.Role.{Role}
use Rattle.gate_rules.specs.declared.role.Role.TheVariants.{Nobody, Member, Reviewer}
use Rattle.gate_state.specs.Checks.{all_pairs, are_alone, fit_numbers, fit_places, fit_stages, fits, fits_desk, fits_lane, fits_next, fits_order, fits_queue, fits_running, fits_waiting, has_one, has_other_number, have_other_numbers, is_in, is_waiting, landing_changes}
use Rattle.gate_state.specs.Lanes.{batches_of, goes_before, is_landing}
use Rattle.gate_state.specs.State.{landing_on, trying_on, marks_on}
use Rattle.gate_state.specs.declared.batch.Batch.{Batch}
use Rattle.gate_state.specs.declared.batch.Branch.{Branch}
use Rattle.gate_state.specs.declared.batch.Branch.TheVariants.{Staging, Trying}
use Rattle.gate_state.specs.declared.batch.Stage.{Stage}
use Rattle.gate_state.specs.declared.batch.Stage.TheVariants as stage
use Rattle.gate_state.specs.declared.lane.Lane.{Lane}
use Rattle.gate_state.specs.declared.state.State.{State}
use Rattle.gate_tables.specs.Contents.{AreSame}
use Rattle.gate_rows.specs.Decoding.{batch_in, change_in, desk_in, first, is_member, is_on, lane_in, last_in, list_in, phase_in, role_in, settings_in, state_by, state_in, wanted_in}
use Rattle.gate_rows.specs.Encoding.{flag, approvals_of, size_of, timeout_of, batch_row, branch_number, change_row, desk_row, last_number, marks_of, members_of, names_of, person_row, phase_number, role_number, rows_of, stage_number, statuses_of, wanted_of}
use Rattle.gate_rows.specs.Standing.{KeepsLimits}
use Rattle.gate_tables.specs.declared.row.ChangeRow.{ChangeRow}
use Rattle.gate_tables.specs.declared.row.PersonRow.{PersonRow}
use Rattle.gate_tables.specs.declared.row.Rows.{Rows}
use Rattle.gate_rows.proofs.Batches.{alone_in_both, among_all, batch_again}
use Rattle.gate_rows.proofs.Canonical.{got, map_again}
use Rattle.gate_rows.proofs.Elements.{Among, HaveSame, among-append, among-append_left, among-append_right, same-filter, same-map, same-permutation, same-sym}
use Rattle.gate_rows.proofs.Lanes.{first_again, running_branch, waiting_branch, lane_again, listed, map_same, mapped_back, rows_of_lane}
use Rattle.gate_rows.proofs.Marks.{approvers_again, same_number, delegates_again, labels_again, map_back, names_again, passed_again, reviews_again}
use Rattle.gate_rows.proofs.Wanted.{block_labels_again, pr_status_again, status_again}
use Rattle.gate_rows.proofs.Scanning.{any-among}
use Rattle.gate_rows.proofs.Members.{belongs_there, or_false, in_batch, in_landing_batch, landing_there, member_is}

parts : (a b : Bool) → a && b ≡ true → (a ≡ true) × (b ≡ true)
parts a b is = (first_so a b is, second_so a b is)

-- WHAT A STATE THAT PASSES THE CHECKS KEEPS, as far as it is needed here
pub record Fits (s : State) : Type 0 where
  pub staging_below : list_all (λ (batch : Batch). nat_lt batch.number s.queue.next) (batches_of s.queue.staging) ≡ true
  pub trying_below : list_all (λ (batch : Batch). nat_lt batch.number s.queue.next) (batches_of s.queue.trying) ≡ true
  pub staging_numbers : all_pairs has_other_number (batches_of s.queue.staging) ≡ true
  pub trying_numbers : all_pairs has_other_number (batches_of s.queue.trying) ≡ true
  pub across : have_other_numbers (batches_of s.queue.staging) (batches_of s.queue.trying) ≡ true
  pub staging_service : all_pairs goes_before s.queue.staging.waiting ≡ true
  pub trying_service : all_pairs goes_before s.queue.trying.waiting ≡ true
  pub staging_stages : fit_stages s.desk Staging s.queue.staging ≡ true
  pub trying_stages : fit_stages s.desk Trying s.queue.trying ≡ true
  pub staging_places : fit_places (marks_on Staging s.desk) s.queue.staging (finite.entries s.desk.changes) ≡ true
  pub trying_places : fit_places (marks_on Trying s.desk) s.queue.trying (finite.entries s.desk.changes) ≡ true
  pub alone : are_alone s.queue.trying ≡ true

pub facts : (s : State) → fits s ≡ true → Fits s
facts s is =
    let staging = s.queue.staging in
    let trying = s.queue.trying in
    let next = s.queue.next in
    let queue = second_so (fits_desk s.desk && fits_next next) (fits_queue s.desk s.queue) is in
    let three = parts (fits_order s.queue && fits_lane s.desk Staging staging && fits_lane s.desk Trying trying) (are_alone trying) queue in
    let two = parts (fits_order s.queue && fits_lane s.desk Staging staging) (fits_lane s.desk Trying trying) three.0 in
    let one = parts (fits_order s.queue) (fits_lane s.desk Staging staging) two.0 in
    let last = parts (fit_numbers next (batches_of staging) && fit_numbers next (batches_of trying) && have_other_numbers (batches_of staging) (batches_of trying) && all_pairs goes_before staging.waiting)
    (all_pairs goes_before trying.waiting) one.0 in
    let third = parts (fit_numbers next (batches_of staging) && fit_numbers next (batches_of trying) && have_other_numbers (batches_of staging) (batches_of trying)) (all_pairs goes_before staging.waiting) last.0 in
    let second = parts (fit_numbers next (batches_of staging) && fit_numbers next (batches_of trying)) (have_other_numbers (batches_of staging) (batches_of trying)) third.0 in
    let numbers = parts (fit_numbers next (batches_of staging)) (fit_numbers next (batches_of trying)) second.0 in
    let of_staging = parts (fit_stages s.desk Staging staging) (fit_places (marks_on Staging s.desk) staging (finite.entries s.desk.changes)) one.1 in
    let of_trying = parts (fit_stages s.desk Trying trying) (fit_places (marks_on Trying s.desk) trying (finite.entries s.desk.changes)) two.1 in
    record {
      staging_below = first_so _ (all_pairs has_other_number (batches_of staging)) numbers.0;
      trying_below = first_so _ (all_pairs has_other_number (batches_of trying)) numbers.1;
      staging_numbers = second_so _ (all_pairs has_other_number (batches_of staging)) numbers.0;
      trying_numbers = second_so _ (all_pairs has_other_number (batches_of trying)) numbers.1;
      across = second.1;
      staging_service = third.1;
      trying_service = last.1;
      staging_stages = of_staging.0;
      trying_stages = of_trying.0;
      staging_places = of_staging.1;
      trying_places = of_trying.1;
      alone = three.1;
    }

-- PARTS OF A DESK
role_again : (role : Role) → role_in (role_number role) ≡ role
role_again Nobody = refl
role_again Member = refl
role_again Reviewer = refl

phase_again : (phase : Phase) → phase_in (phase_number phase) ≡ phase
phase_again Opened = refl
phase_again Closed = refl
phase_again Landed = refl

approved_again : (approved : Option (List (List ℕ))) (names : List (List ℕ)) → names ≡ unwrap_or approved [] → cond (int_eq (flag (is_some approved)) (pos 1)) (Some names) None ≡ approved
approved_again None names is = refl
approved_again (Some approvers) names is = ap Some is

last_again : (last : Option Repeat) (names : List (List ℕ)) → names ≡ names_of last → last_in (last_number last) names ≡ last
last_again None names is = refl
last_again (Some repeat.Approve) names is = refl
last_again (Some (repeat.ApproveFor known)) names is = ap (λ (n : List (List ℕ)). Some (repeat.ApproveFor n)) is
last_again (Some repeat.Try) names is = refl

positive : (n : ℕ) → 1 ≤ n → int_eq (pos n) (pos 0) ≡ false
positive n some = by (int_eq (pos n) (pos 0)) refl where
  by : (same : Bool) → int_eq (pos n) (pos 0) ≡ same → same ≡ false
  by true is = let none : n ≡ 0 = same_number n 0 is in absurd (omega (arith, none, some))
  by false is = refl

size_again : (size : Option ℕ) → is_size size ≡ true → cond (int_eq (pos (unwrap_or size 0)) (pos 0)) None (Some (unwrap_or size 0)) ≡ size
size_again None within = refl
size_again (Some n) within = ap (λ (b : Bool). cond b None (Some n)) (positive n (leb-true 1 n (first_so (nat_le 1 n) (nat_le n 1000) within)))

base_again : (base : Option (List ℕ)) → IfSome base (λ commit. commit_of commit ≡ Ok commit) → cond (bytes_eq (unwrap_or base []) []) None (Some (unwrap_or base [])) ≡ base
unfolding commit_of
base_again None is = refl
base_again (Some []) is = cc is
base_again (Some (b ∷ bs)) is = refl

-- THE FLAGS of a change
trying_of : (desk : DeskView) (n : ℕ) (c : Change) → Among (n, c) (finite.entries desk.changes) → trying_on desk n ≡ c.trying
trying_of desk n c there = ap (λ (found : Option Change). option_map_or (λ (x : Change). x.trying) found false) (got nat_cmp_total nat_cmp-IsAntisymmetric desk.changes n c there)

landing_of : (desk : DeskView) (n : ℕ) (c : Change) → Among (n, c) (finite.entries desk.changes) → landing_on desk n ≡ c.landing
landing_of desk n c there = ap (λ (found : Option Change). option_map_or (λ (x : Change). x.landing) found false) (got nat_cmp_total nat_cmp-IsAntisymmetric desk.changes n c there)

-- on which branch a batch is, and where it stands
of_lane : (running : Option Batch) (waiting : List Batch) (b : Batch) → Among b (batches_of (record { running = running; waiting = waiting })) → (running ≡ Some b) ⊎ Among b waiting
of_lane None waiting b there = inr there
of_lane (Some batch) waiting b (inl is) = inl (ap Some (sym is))
of_lane (Some batch) waiting b (inr later) = inr later

among-running : (running : Option Batch) (waiting : List Batch) (b : Batch) → Among b (listed running) → Among b (batches_of (record { running = running; waiting = waiting }))
among-running None waiting b there = absurd there
among-running (Some batch) waiting b (inl is) = inl is
among-running (Some batch) waiting b (inr none) = absurd none

among-waiting : (running : Option Batch) (waiting : List Batch) (b : Batch) → Among b waiting → Among b (batches_of (record { running = running; waiting = waiting }))
among-waiting None waiting b there = there
among-waiting (Some batch) waiting b there = inr there

runs_there : (desk : DeskView) (on : Branch) (lane : Lane) → fit_stages desk on lane ≡ true → (b : Batch) → lane.running ≡ Some b → fits_running desk on b ≡ true
runs_there desk on lane fit b is =
    ap (λ (running : Option Batch). option_map_or (fits_running desk on) running true) (sym is)
    ∙ second_so (list_all (fits_waiting on) lane.waiting) (option_map_or (fits_running desk on) lane.running true) fit

waits_there : (desk : DeskView) (on : Branch) (lane : Lane) → fit_stages desk on lane ≡ true → (b : Batch) → Among b lane.waiting → fits_waiting on b ≡ true
waits_there desk on lane fit b there = among_all (fits_waiting on) b lane.waiting (first_so (list_all (fits_waiting on) lane.waiting) (option_map_or (fits_running desk on) lane.running true) fit) there

on_branch : (desk : DeskView) (on : Branch) (lane : Lane) → fit_stages desk on lane ≡ true → (b : Batch) → Among b (batches_of lane) → b.branch ≡ on
on_branch desk on lane fit b there = by (of_lane lane.running lane.waiting b there) where
  by : (lane.running ≡ Some b) ⊎ Among b lane.waiting → b.branch ≡ on
  by (inl is) = (running_branch desk on b (runs_there desk on lane fit b is)).0
  by (inr later) = (waiting_branch on b (waits_there desk on lane fit b later)).0

-- one that is landing runs
not_waiting : (s : Stage) → is_waiting s ≡ true → int_eq (stage_number s) (pos 4) ≡ true → ⊥
not_waiting stage.Waiting waits is = cc is
not_waiting (stage.Ordered since) waits is = cc waits
not_waiting (stage.Staged since commit reports) waits is = cc waits
not_waiting (stage.Landing commit) waits is = cc waits

landing_stage : (s : Stage) → int_eq (stage_number s) (pos 4) ≡ is_landing s
landing_stage stage.Waiting = refl
landing_stage (stage.Ordered since) = refl
landing_stage (stage.Staged since commit reports) = refl
landing_stage (stage.Landing commit) = refl

lands : (desk : DeskView) (on : Branch) (lane : Lane) → fit_stages desk on lane ≡ true → (b : Batch) → Among b (batches_of lane) → int_eq (stage_number b.stage) (pos 4) ≡ true → lane.running ≡ Some b
lands desk on lane fit b there is = by (of_lane lane.running lane.waiting b there) where
  by : (lane.running ≡ Some b) ⊎ Among b lane.waiting → lane.running ≡ Some b
  by (inl runs) = runs
  by (inr later) = absurd (not_waiting b.stage (waiting_branch on b (waits_there desk on lane fit b later)).1 is)

tries_alone : (lane : Lane) → are_alone lane ≡ true → (b : Batch) → lane.running ≡ Some b → is_landing b.stage ≡ true → ⊥
tries_alone lane alone b runs is =
    let one : has_one b && not (is_landing b.stage) ≡ true = ap (λ (running : Option Batch). option_map_or (λ (batch : Batch). has_one batch && not (is_landing batch.stage)) running true) (sym runs)
    ∙ second_so (list_all has_one lane.waiting) (option_map_or (λ (batch : Batch). has_one batch && not (is_landing batch.stage)) lane.running true) alone in
    cc (is, second_so (has_one b) (not (is_landing b.stage)) one)

landing_found : (n : ℕ) (running : Option Batch) (waiting : List Batch) → is_in n (landing_changes running) ≡ true
    → (b : Batch) × Among b (batches_of (record { running = running; waiting = waiting })) × (is_landing b.stage ≡ true) × Among n b.changes
landing_found n None waiting is = cc is
landing_found n (Some b) waiting is = by (is_landing b.stage) refl is where
  by : (landing : Bool) → is_landing b.stage ≡ landing → is_in n (cond landing b.changes []) ≡ true → (x : Batch) × Among x (b ∷ waiting) × (is_landing x.stage ≡ true) × Among n x.changes
  by true landing is =
      let found = any-among (λ other. n == other) b.changes is in
      (b, inl refl, landing, subst (λ (m : ℕ). Among m b.changes) (sym ((unsigned_Decides n found.0).0 found.2)) found.1)
  by false landing is = cc is

-- THE QUEUE
module _ (s : State) (fit : Fits s) where
  abbrev pub all : List Batch
  all = batches_of s.queue.staging ++ batches_of s.queue.trying

  apart : (one other : Batch) → Among one (batches_of s.queue.staging ++ batches_of s.queue.trying) → Among other (batches_of s.queue.staging ++ batches_of s.queue.trying) → one.number ≡ other.number → one ≡ other
  apart = alone_in_both (batches_of s.queue.staging) (batches_of s.queue.trying) fit.staging_numbers fit.trying_numbers fit.across

  module _ (rows : Rows) (members : HaveSame rows.members (flat_map members_of (batches_of s.queue.staging ++ batches_of s.queue.trying)))
      (batches : HaveSame rows.batches (map batch_row (batches_of s.queue.staging ++ batches_of s.queue.trying))) (n : ℕ) (c : Change) (there : Among (n, c) (finite.entries s.desk.changes)) where
    trying_again : is_member (pos n) (λ batch. int_eq batch.branch (pos 2)) rows ≡ c.trying
    trying_again = member_is all apart rows members batches (λ batch. int_eq batch.branch (pos 2)) n c.trying to from where
      not_staging : (branch : Branch) → branch ≡ Staging → int_eq (branch_number branch) (pos 2) ≡ true → ⊥
      not_staging Staging is two = cc two
      not_staging Trying is two = cc is

      to : (found : (b : Batch) × Among b (batches_of s.queue.staging ++ batches_of s.queue.trying) × (int_eq (batch_row b).branch (pos 2) ≡ true) × Among n b.changes) → c.trying ≡ true
      to found = by (among-append found.0 (batches_of s.queue.staging) (batches_of s.queue.trying) found.1) where
        by : Among found.0 (batches_of s.queue.staging) ⊎ Among found.0 (batches_of s.queue.trying) → c.trying ≡ true
        by (inl staging) = absurd (not_staging found.0.branch (on_branch s.desk Staging s.queue.staging fit.staging_stages found.0 staging) found.2)
        by (inr trying) = sym (trying_of s.desk n c there)
            ∙ or_false (trying_on s.desk n) (belongs_there (marks_on Trying s.desk) s.queue.trying (finite.entries s.desk.changes) fit.trying_places n found.0 trying found.3)

      from : c.trying ≡ true → (b : Batch) × Among b (batches_of s.queue.staging ++ batches_of s.queue.trying) × (int_eq (batch_row b).branch (pos 2) ≡ true) × Among n b.changes
      from is =
          let found = in_batch (marks_on Trying s.desk) s.queue.trying (finite.entries s.desk.changes) fit.trying_places n c there (ap (λ (b : Bool). b || false) (trying_of s.desk n c there ∙ is)) in (
            found.0,
            among-append_right found.0 (batches_of s.queue.staging) (batches_of s.queue.trying) found.1,
            ap (λ (branch : Branch). int_eq (branch_number branch) (pos 2)) (on_branch s.desk Trying s.queue.trying fit.trying_stages found.0 found.1),
            found.2,
          )

    landing_again : is_member (pos n) (λ batch. int_eq batch.phase (pos 4)) rows ≡ c.landing
    landing_again = member_is all apart rows members batches (λ batch. int_eq batch.phase (pos 4)) n c.landing to from where
      to : (found : (b : Batch) × Among b (batches_of s.queue.staging ++ batches_of s.queue.trying) × (int_eq (batch_row b).phase (pos 4) ≡ true) × Among n b.changes) → c.landing ≡ true
      to found = by (among-append found.0 (batches_of s.queue.staging) (batches_of s.queue.trying) found.1) where
        landing : is_landing found.0.stage ≡ true
        landing = sym (landing_stage found.0.stage) ∙ found.2

        by : Among found.0 (batches_of s.queue.staging) ⊎ Among found.0 (batches_of s.queue.trying) → c.landing ≡ true
        by (inl staging) =
            let runs = lands s.desk Staging s.queue.staging fit.staging_stages found.0 staging found.2 in
            let among : Among n (landing_changes s.queue.staging.running) =
            subst (λ (running : Option Batch). Among n (landing_changes running)) (sym runs) (subst (λ (b : Bool). Among n (cond b found.0.changes [])) (sym landing) found.3) in
            sym (landing_of s.desk n c there) ∙ landing_there (marks_on Staging s.desk) s.queue.staging (finite.entries s.desk.changes) fit.staging_places n among
        by (inr trying) = absurd (tries_alone s.queue.trying fit.alone found.0 (lands s.desk Trying s.queue.trying fit.trying_stages found.0 trying found.2) landing)

      from : c.landing ≡ true → (b : Batch) × Among b (batches_of s.queue.staging ++ batches_of s.queue.trying) × (int_eq (batch_row b).phase (pos 4) ≡ true) × Among n b.changes
      from is =
          let found = landing_found n s.queue.staging.running s.queue.staging.waiting
          (in_landing_batch (marks_on Staging s.desk) s.queue.staging (finite.entries s.desk.changes) fit.staging_places n c there (landing_of s.desk n c there ∙ is)) in
          (found.0, among-append_left found.0 (batches_of s.queue.staging) (batches_of s.queue.trying) found.1, landing_stage found.0.stage ∙ found.2, found.3)

-- THE SETTINGS
settings_again : (settings : Option SettingsView) (rows : Rows) → HaveSame rows.wanted (wanted_of settings)
    → IfSome settings (λ found. are_settings found ≡ true) → settings_in rows (timeout_of settings) (approvals_of settings) (size_of settings) ≡ settings
settings_again None rows same within = refl
settings_again (Some settings) rows same within =
    let after_status = second_so (are_items 1 64 settings.status) _ within in
    let after_timeout = second_so (is_in_range 1 2147483647 settings.timeout_sec) _ after_status in
    let after_labels = second_so (are_items 0 64 settings.block_labels) _ after_timeout in
    let size = first_so (is_size settings.max_batch_size) _ (second_so (is_in_range 0 100 settings.required_approvals) _ after_labels) in
    let some : int_eq (pos settings.timeout_sec) (pos 0) ≡ false = positive settings.timeout_sec (leb-true 1 settings.timeout_sec
    (first_so (nat_le 1 settings.timeout_sec) (nat_le settings.timeout_sec 2147483647) (first_so (is_in_range 1 2147483647 settings.timeout_sec) _ after_status))) in
    ap (λ (b : Bool). cond b None (Some (record {
      status = wanted_in (pos 1) rows.wanted;
      timeout_sec = settings.timeout_sec;
      block_labels = wanted_in (pos 2) rows.wanted;
      required_approvals = settings.required_approvals;
      max_batch_size = cond (int_eq (pos (unwrap_or settings.max_batch_size 0)) (pos 0)) None (Some (unwrap_or settings.max_batch_size 0));
      pr_status = wanted_in (pos 3) rows.wanted;
    }))) some
    ∙ (λ i. Some (record {
      status = status_again settings rows.wanted same i;
      timeout_sec = settings.timeout_sec;
      block_labels = block_labels_again settings rows.wanted same i;
      required_approvals = settings.required_approvals;
      max_batch_size = size_again settings.max_batch_size size i;
      pr_status = pr_status_again settings rows.wanted same i;
    }))

-- THE SAME ROWS in each table, in whatever order and however often
pub record HoldSame (rows others : Rows) : Type 0 where
  pub desk : HaveSame rows.desk others.desk
  pub people : HaveSame rows.people others.people
  pub changes : HaveSame rows.changes others.changes
  pub marks : HaveSame rows.marks others.marks
  pub batches : HaveSame rows.batches others.batches
  pub members : HaveSame rows.members others.members
  pub statuses : HaveSame rows.statuses others.statuses
  pub wanted : HaveSame rows.wanted others.wanted

-- THE STATE
module _ (s : State) (rows : Rows) (fit : Fits s) (limits : KeepsLimits s.desk) (same : HoldSame rows (rows_of s)) where
  people : HaveSame rows.people (map person_row (finite.entries s.desk.roles))
  people = same.people

  changes : HaveSame rows.changes (map change_row (finite.entries s.desk.changes))
  changes = same.changes

  marks : HaveSame rows.marks (flat_map marks_of (finite.entries s.desk.changes))
  marks = same.marks

  wanted : HaveSame rows.wanted (wanted_of s.desk.settings)
  wanted = same.wanted

  batches : HaveSame rows.batches (map batch_row (batches_of s.queue.staging ++ batches_of s.queue.trying))
  batches = same.batches

  members : HaveSame rows.members (flat_map members_of (batches_of s.queue.staging ++ batches_of s.queue.trying))
  members = same.members

  statuses : HaveSame rows.statuses (flat_map statuses_of (batches_of s.queue.staging ++ batches_of s.queue.trying))
  statuses = same.statuses

  change_again : (n : ℕ) (c : Change) → Among (n, c) (finite.entries s.desk.changes) → change_in rows (change_row (n, c)) ≡ c
  change_again n c there = λ i. record {
    author = c.author;
    head = c.head;
    phase = phase_again c.phase i;
    priority = c.priority;
    labels = labels_again s.desk.changes rows.marks marks n c there i;
    reviews = reviews_again s.desk.changes rows.marks marks n c there i;
    passed = passed_again s.desk.changes rows.marks marks n c there i;
    delegates = delegates_again s.desk.changes rows.marks marks n c there i;
    approved = approved_again c.approved (list_in (pos n) (pos 4) rows.marks) (approvers_again s.desk.changes rows.marks marks n c there) i;
    trying = trying_again s fit rows members batches n c there i;
    landing = landing_again s fit rows members batches n c there i;
    last = last_again c.last (list_in (pos n) (pos 5) rows.marks) (names_again s.desk.changes rows.marks marks n c there) i;
  }

  abbrev pub person_in : PersonRow → List ℕ × Role
  person_in row = (row.name, role_in row.role)

  roles_again : finite.from_entries {R = slice_cmp nat_cmp} (map person_in rows.people) ≡ s.desk.roles
  roles_again = map_again nat_list_cmp_total (slice_cmp-IsAntisymmetric nat_cmp-IsAntisymmetric) (map person_in rows.people) s.desk.roles
      (subst (HaveSame (map person_in rows.people)) (map_back person_row person_in (λ (entry : List ℕ × Role). λ i. (entry.0, role_again entry.1 i)) (finite.entries s.desk.roles))
      (same-map person_in rows.people (map person_row (finite.entries s.desk.roles)) people))

  abbrev pub entry_in : ChangeRow → ℕ × Change
  entry_in row = (nat_abs row.number, change_in rows row)

  changes_again : finite.from_entries {R = nat_cmp} (map entry_in rows.changes) ≡ s.desk.changes
  changes_again = map_again nat_cmp_total nat_cmp-IsAntisymmetric (map entry_in rows.changes) s.desk.changes
      (subst (HaveSame (map entry_in rows.changes))
      (mapped_back change_row entry_in (λ (entry : ℕ × Change). entry) (finite.entries s.desk.changes) (λ entry there. λ i. (entry.0, change_again entry.0 entry.1 there i)) ∙ map_same (finite.entries s.desk.changes))
      (same-map entry_in rows.changes (map change_row (finite.entries s.desk.changes)) changes))

  desk_again : desk_in rows (desk_row s) ≡ s.desk
  desk_again = λ i. record {
    roles = roles_again i;
    changes = changes_again i;
    settings = settings_again s.desk.settings rows wanted limits.settings i;
    base = base_again s.desk.base limits.base i;
    clock = s.desk.clock;
  }

  read_again : (b : Batch) → Among b (batches_of s.queue.staging ++ batches_of s.queue.trying) → batch_in rows (batch_row b) ≡ b
  read_again b there = batch_again (batches_of s.queue.staging ++ batches_of s.queue.trying) (apart s fit) rows members statuses b there

  -- the rows of one branch
  rows_on : (at : Branch) (waiting : Bool) → HaveSame (filter (is_on at waiting) rows.batches) (filter (is_on at waiting) (map batch_row (batches_of s.queue.staging)) ++ filter (is_on at waiting) (map batch_row (batches_of s.queue.trying)))
  rows_on at waiting =
      subst (HaveSame (filter (is_on at waiting) rows.batches))
      (ap (filter (is_on at waiting)) (map-append batch_row (batches_of s.queue.staging) (batches_of s.queue.trying))
      ∙ filter-append (is_on at waiting) (map batch_row (batches_of s.queue.staging)) (map batch_row (batches_of s.queue.trying)))
      (same-filter (is_on at waiting) rows.batches (map batch_row (batches_of s.queue.staging ++ batches_of s.queue.trying)) batches)

  waiting_fit : (on : Branch) (lane : Lane) → fit_stages s.desk on lane ≡ true → list_all (fits_waiting on) lane.waiting ≡ true
  waiting_fit on lane fit_lane = first_so (list_all (fits_waiting on) lane.waiting) (option_map_or (fits_running s.desk on) lane.running true) fit_lane

  running_fits : (on : Branch) (lane : Lane) → fit_stages s.desk on lane ≡ true → option_map_or (fits_running s.desk on) lane.running true ≡ true
  running_fits on lane fit_lane = second_so (list_all (fits_waiting on) lane.waiting) (option_map_or (fits_running s.desk on) lane.running true) fit_lane

  on_staging : (waiting : Bool) → HaveSame (filter (is_on Staging waiting) rows.batches) (cond waiting (map batch_row s.queue.staging.waiting) (map batch_row (listed s.queue.staging.running)))
  on_staging waiting =
      let mine = rows_of_lane s.desk Staging Staging waiting s.queue.staging.running s.queue.staging.waiting (waiting_fit Staging s.queue.staging fit.staging_stages) (running_fits Staging s.queue.staging fit.staging_stages) in
      let others = rows_of_lane s.desk Trying Staging waiting s.queue.trying.running s.queue.trying.waiting (waiting_fit Trying s.queue.trying fit.trying_stages) (running_fits Trying s.queue.trying fit.trying_stages) in
      subst (HaveSame (filter (is_on Staging waiting) rows.batches))
      ((λ i. mine i ++ others i) ∙ append-nil (cond waiting (map batch_row s.queue.staging.waiting) (map batch_row (listed s.queue.staging.running))))
      (rows_on Staging waiting)

  on_trying : (waiting : Bool) → HaveSame (filter (is_on Trying waiting) rows.batches) (cond waiting (map batch_row s.queue.trying.waiting) (map batch_row (listed s.queue.trying.running)))
  on_trying waiting =
      let others = rows_of_lane s.desk Staging Trying waiting s.queue.staging.running s.queue.staging.waiting (waiting_fit Staging s.queue.staging fit.staging_stages) (running_fits Staging s.queue.staging fit.staging_stages) in
      let mine = rows_of_lane s.desk Trying Trying waiting s.queue.trying.running s.queue.trying.waiting (waiting_fit Trying s.queue.trying fit.trying_stages) (running_fits Trying s.queue.trying fit.trying_stages) in
      subst (HaveSame (filter (is_on Trying waiting) rows.batches)) (λ i. others i ++ mine i) (rows_on Trying waiting)

  staging_again : lane_in Staging rows ≡ s.queue.staging
  staging_again = lane_again rows Staging s.queue.staging.running s.queue.staging.waiting (on_staging false) (on_staging true)
      (λ b there. read_again b (among-append_left b (batches_of s.queue.staging) (batches_of s.queue.trying) (among-running s.queue.staging.running s.queue.staging.waiting b there)))
      (λ b there. read_again b (among-append_left b (batches_of s.queue.staging) (batches_of s.queue.trying) (among-waiting s.queue.staging.running s.queue.staging.waiting b there)))
      fit.staging_service

  lane_of_tries_again : lane_in Trying rows ≡ s.queue.trying
  lane_of_tries_again = lane_again rows Trying s.queue.trying.running s.queue.trying.waiting (on_trying false) (on_trying true)
      (λ b there. read_again b (among-append_right b (batches_of s.queue.staging) (batches_of s.queue.trying) (among-running s.queue.trying.running s.queue.trying.waiting b there)))
      (λ b there. read_again b (among-append_right b (batches_of s.queue.staging) (batches_of s.queue.trying) (among-waiting s.queue.trying.running s.queue.trying.waiting b there)))
      fit.trying_service

  row_again : first rows.desk ≡ Some (desk_row s)
  row_again = first_again rows.desk (Some (desk_row s)) same.desk

  pub state_again : state_in rows ≡ s
  state_again = ap (state_by rows) row_again ∙ (λ i. record {
    desk = desk_again i;
    queue = record { staging = staging_again i; trying = lane_of_tries_again i; next = s.queue.next };
  })

-- the rows of the second table, as those of the first
back : {R : Type 0} (rows others : List R) → IsPermutation rows others → HaveSame others rows
back rows others same = same-sym rows others (same-permutation rows others same)

pub hold_same : (rows others : Rows) → AreSame rows others → HoldSame others rows
hold_same rows others same = record {
  desk = back rows.desk others.desk same.desk;
  people = back rows.people others.people same.people;
  changes = back rows.changes others.changes same.changes;
  marks = back rows.marks others.marks same.marks;
  batches = back rows.batches others.batches same.batches;
  members = back rows.members others.members same.members;
  statuses = back rows.statuses others.statuses same.statuses;
  wanted = back rows.wanted others.wanted same.wanted;
}

pub state_of_same : (s : State) (rows : Rows) → fits s ≡ true → KeepsLimits s.desk → HoldSame rows (rows_of s) → state_in rows ≡ s
state_of_same s rows fit limits same = state_again s rows (facts s fit) limits same

pub one_state : (s : State) (rows : Rows) → fits s ≡ true → KeepsLimits s.desk → AreSame (rows_of s) rows → state_in rows ≡ s
one_state s rows fit limits same = state_of_same s rows fit limits (hold_same (rows_of s) rows same)
