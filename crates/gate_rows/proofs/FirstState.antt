-- Rows of version 1 stand for one state at the most, too: the marks of changes and the lists of the settings are told apart by their
-- kinds, and so they are the rows of one state in version 2.
use Rattle.std.proofs.Common.{◌≡◌, ℤ, pos, List, [], ◌∷◌, ◌++◌, map, true, false, Option, Some, None, if◌then◌else◌, inl, inr, refl, sym, ap, subst, ◌∙◌}
use Rattle.std.specs.List.{AllByRecursion}
use Rattle.std.specs.Ordering.{int_eq}
use Rattle.gate_text.specs.Settings.{SettingsView}
use Rattle.gate_state.specs.Checks.{fits}
use Rattle.gate_state.specs.declared.state.State.{State}
use Rattle.gate_rows.proofs.Each.{all_among, all_joined}
use Rattle.gate_rows.proofs.Elements.{Among, HaveSame, among-append, among-append_left, among-append_right, among-map, map-among, same-permutation, same-sym}
use Rattle.gate_rows.proofs.FirstKeys.{IsOfChange, IsOfSettings, is_of_settings, of_changes, of_settings}
use Rattle.gate_rows.proofs.Keys.{of_wanted}
use Rattle.gate_rows.proofs.OneState.{HoldSame, state_of_same}
use Rattle.gate_rows.specs.Encoding.{desk_row, list_wanted, rows_of, wanted_of}
use Rattle.gate_rows.specs.Standing.{KeepsLimits}
use Rattle.gate_rows.specs.FirstRows.{as_mark, in_first, with_version}
use Rattle.gate_tables.specs.Contents.{AreSame}
use Rattle.gate_tables.specs.declared.row.DeskRow.{DeskRow}
use Rattle.gate_tables.specs.declared.row.MarkRow.{MarkRow}
use Rattle.gate_tables.specs.declared.row.WantedRow.{WantedRow}

-- A ROW OF A LIST OF THE SETTINGS is read again from its mark.
second_kind : ℤ → ℤ
second_kind kind = if int_eq kind (pos 6) then pos 1 else (if int_eq kind (pos 7) then pos 2 else pos 3)

as_wanted : MarkRow → WantedRow
as_wanted row = record { kind = second_kind row.kind; place = row.place; word = row.word }

IsReadAgain : WantedRow → Type 0
IsReadAgain row = as_wanted (as_mark row) ≡ row

all_read_again : (settings : Option SettingsView) → AllByRecursion IsReadAgain (wanted_of settings)
unfolding IsReadAgain as_wanted second_kind
all_read_again None = tt
all_read_again (Some settings) =
    let status = list_wanted (pos 1) settings.status in
    let labels = list_wanted (pos 2) settings.block_labels in
    let own = list_wanted (pos 3) settings.pr_status in
    all_joined IsReadAgain (status ++ labels) own
    (all_joined IsReadAgain status labels (of_wanted (pos 1) settings.status IsReadAgain (λ e. refl)) (of_wanted (pos 2) settings.block_labels IsReadAgain (λ e. refl)))
    (of_wanted (pos 3) settings.pr_status IsReadAgain (λ e. refl))

-- TWO STATES WITH THE SAME ROWS IN VERSION 1
module _ (s t : State) (same : AreSame (in_first (rows_of s)) (in_first (rows_of t))) where
  abbrev marks_of_state : State → List MarkRow
  marks_of_state state = (rows_of state).marks

  abbrev lists_of : State → List MarkRow
  lists_of state = map as_mark (rows_of state).wanted

  -- no mark of a change is one of the settings
  apart : (row : MarkRow) (a b : State) → Among row (marks_of_state a) → Among row (lists_of b) → ⊥
  apart row a b of_a of_b =
      let of_change : is_of_settings row.kind ≡ false = all_among IsOfChange row (marks_of_state a) (of_changes a) of_a in
      let found = map-among as_mark row (rows_of b).wanted of_b in
      let of_list : is_of_settings (as_mark found.0).kind ≡ true = all_among IsOfSettings found.0 (rows_of b).wanted (of_settings b.desk.settings) found.1 in
      let e : true ≡ false = sym of_list ∙ ap (λ (r : MarkRow). is_of_settings r.kind) (sym found.2) ∙ of_change in
      cc e

  all_marks : HaveSame (marks_of_state s ++ lists_of s) (marks_of_state t ++ lists_of t)
  all_marks = same-permutation (marks_of_state s ++ lists_of s) (marks_of_state t ++ lists_of t) same.marks

  mark_moves : (a b : State) → HaveSame (marks_of_state a ++ lists_of a) (marks_of_state b ++ lists_of b) → (row : MarkRow) → Among row (marks_of_state a) → Among row (marks_of_state b)
  mark_moves a b both row there =
      elim (among-append row (marks_of_state b) (lists_of b) ((both row).0 (among-append_left row (marks_of_state a) (lists_of a) there))) [
        | inl here ↦ here
        | inr other ↦ absurd (apart row a b there other)
      ]

  wanted_moves : (a b : State) → HaveSame (marks_of_state a ++ lists_of a) (marks_of_state b ++ lists_of b) → (row : WantedRow) → Among row (rows_of a).wanted → Among row (rows_of b).wanted
  unfolding IsReadAgain
  wanted_moves a b both row there =
      let listed = among-map as_mark row (rows_of a).wanted there in
      elim (among-append (as_mark row) (marks_of_state b) (lists_of b) ((both (as_mark row)).0 (among-append_right (as_mark row) (marks_of_state a) (lists_of a) listed))) [
        | inl other ↦ absurd (apart (as_mark row) b a other listed)
        | inr here ↦
            let found = map-among as_mark (as_mark row) (rows_of b).wanted here in
            let again = all_among IsReadAgain row (rows_of a).wanted (all_read_again a.desk.settings) there in
            let found_again = all_among IsReadAgain found.0 (rows_of b).wanted (all_read_again b.desk.settings) found.1 in
            subst (λ (r : WantedRow). Among r (rows_of b).wanted) (sym (sym again ∙ ap as_wanted found.2 ∙ found_again)) found.1
      ]

  desk_moves : (a b : State) → HaveSame (with_version (pos 1) (desk_row a) ∷ []) (with_version (pos 1) (desk_row b) ∷ []) → (row : DeskRow) → Among row (desk_row a ∷ []) → Among row (desk_row b ∷ [])
  desk_moves a b both row (inr none) = absurd none
  desk_moves a b both row (inl is) =
      elim ((both (with_version (pos 1) (desk_row a))).0 (inl refl)) [
        | inl first ↦ inl (is ∙ ap (with_version (pos 2)) first)
        | inr none ↦ absurd none
      ]

  pub same_in_second : HoldSame (rows_of t) (rows_of s)
  same_in_second =
      let marks = same-sym (marks_of_state s ++ lists_of s) (marks_of_state t ++ lists_of t) all_marks in
      let desks = same-permutation (in_first (rows_of s)).desk (in_first (rows_of t)).desk same.desk in
      let desks_back = same-sym (in_first (rows_of s)).desk (in_first (rows_of t)).desk desks in
      record {
        desk = λ row. (desk_moves t s desks_back row, desk_moves s t desks row);
        people = same-sym (rows_of s).people (rows_of t).people (same-permutation (rows_of s).people (rows_of t).people same.people);
        changes = same-sym (rows_of s).changes (rows_of t).changes (same-permutation (rows_of s).changes (rows_of t).changes same.changes);
        marks = λ row. (mark_moves t s marks row, mark_moves s t all_marks row);
        batches = same-sym (rows_of s).batches (rows_of t).batches (same-permutation (rows_of s).batches (rows_of t).batches same.batches);
        members = same-sym (rows_of s).members (rows_of t).members (same-permutation (rows_of s).members (rows_of t).members same.members);
        statuses = same-sym (rows_of s).statuses (rows_of t).statuses (same-permutation (rows_of s).statuses (rows_of t).statuses same.statuses);
        wanted = λ row. (wanted_moves t s marks row, wanted_moves s t all_marks row);
      }

as_it_is : (t : State) → HoldSame (rows_of t) (rows_of t)
as_it_is t = record {
  desk = λ _. (λ there. there, λ there. there);
  people = λ _. (λ there. there, λ there. there);
  changes = λ _. (λ there. there, λ there. there);
  marks = λ _. (λ there. there, λ there. there);
  batches = λ _. (λ there. there, λ there. there);
  members = λ _. (λ there. there, λ there. there);
  statuses = λ _. (λ there. there, λ there. there);
  wanted = λ _. (λ there. there, λ there. there);
}

pub one_first_state : (s t : State) → fits s ≡ true → fits t ≡ true → KeepsLimits s.desk → KeepsLimits t.desk → AreSame (in_first (rows_of s)) (in_first (rows_of t)) → s ≡ t
one_first_state s t fits_s fits_t limits_s limits_t same =
    sym (state_of_same s (rows_of t) fits_s limits_s (same_in_second s t same)) ∙ state_of_same t (rows_of t) fits_t limits_t (as_it_is t)
