-- In the rows of a state in version 1 no two rows of a table have one key, either.
use Rattle.std.proofs.Common.{◌≡◌, ◌≢◌, ℕ, ℤ, pos, List, [], ◌∷◌, ◌++◌, map, flat_map, Bool, true, false, not, ◌||◌, Some, None, Option, IfSome, length, bytes_eq, refl, sym, ap, ◌∙◌}
use Rattle.std.proofs.lemmas.Bool.{and_parts, not-true}
use Rattle.std.specs.Cmp.{first_so, second_so}
use Rattle.std.specs.FinMap as finite
use Rattle.std.specs.Int.{is_in_range}
use Rattle.std.specs.List.{AllByRecursion, list_any}
use Rattle.std.specs.Ordering.{int_eq}
use Rattle.gate_text.specs.Settings.{SettingsView, are_distinct, are_items, are_settings, is_size}
use Rattle.gate_rules.specs.declared.change.Change.{Change}
use Rattle.gate_state.specs.Checks.{fits}
use Rattle.gate_state.specs.declared.state.State.{State}
use Rattle.gate_rows.proofs.Each.{all_flat, all_joined, all_mapped, all_of, none_pass}
use Rattle.gate_rows.proofs.Keys.{across_of, batches_apart, changes_apart, joined_apart, joined_kinds, mapped_apart, mark_key, marks_apart, members_apart, number_at, of_first, of_set, of_wanted, other_text, people_apart, placed_apart, statuses_apart}
use Rattle.gate_rows.proofs.OneState.{facts}
use Rattle.gate_rows.specs.Encoding.{list_wanted, marks_of, placed, rows_of, set_marks, wanted_of, wanted_row}
use Rattle.gate_rows.specs.Standing.{KeepsLimits}
use Rattle.gate_rows.specs.FirstRows.{as_mark, first_kind, in_first}
use Rattle.gate_tables.specs.Apart.{AreApartBy}
use Rattle.gate_tables.specs.Differences.{AreApart, HaveKeys}
use Rattle.gate_tables.specs.Forms as forms
use Rattle.gate_tables.specs.declared.row.MarkRow.{MarkRow}
use Rattle.gate_tables.specs.declared.row.WantedRow.{WantedRow}
use Rattle.sqlite.specs.Order.{Row, column, bytes}

texts_apart : (texts : List (List ℕ)) → are_distinct bytes_eq texts ≡ true → AreApartBy (λ (w : List ℕ). w) texts
texts_apart [] is = tt
texts_apart (x ∷ xs) is =
    let parts = and_parts (not (list_any (bytes_eq x) xs)) (are_distinct bytes_eq xs) is in
    (none_pass (bytes_eq x) (λ (y : List ℕ). y ≢ x) (other_text x) xs (not-true (list_any (bytes_eq x) xs) parts.0), texts_apart xs parts.1)

-- THE LISTS OF THE SETTINGS: as marks, apart by their words, then by their kinds
abbrev first_key : WantedRow → Row
first_key row = mark_key (as_mark row)

items_apart : (kind : ℤ) (least : ℕ) (words : List (List ℕ)) → are_items least 64 words ≡ true → AreApartBy first_key (list_wanted kind words)
items_apart kind least words is =
    let distinct = second_so (is_in_range least 64 (length words)) (are_distinct bytes_eq words) is in
    mapped_apart (λ (e : ℤ × List ℕ). e.1) first_key (wanted_row kind) (λ e o same. ap (λ (c : Row). bytes (column c 2)) same) (placed words) (placed_apart 0 words (texts_apart words distinct))

joined_lists : (kind : ℤ) (xs ys : List WantedRow) → AreApartBy first_key xs → AreApartBy first_key ys → AllByRecursion (λ (r : WantedRow). first_kind r.kind ≢ kind) xs → AllByRecursion (λ (q : WantedRow). first_kind q.kind ≡ kind) ys → AreApartBy first_key (xs ++ ys)
joined_lists = joined_kinds first_key (λ (r : WantedRow). first_kind r.kind) (λ r q same. ap (number_at 1) same)

lists_apart : (settings : Option SettingsView) → IfSome settings (λ settings. are_settings settings ≡ true) → AreApartBy first_key (wanted_of settings)
lists_apart None is = tt
lists_apart (Some settings) is =
    let status = list_wanted (pos 1) settings.status in
    let labels = list_wanted (pos 2) settings.block_labels in
    let own = list_wanted (pos 3) settings.pr_status in
    let after_status = second_so (are_items 1 64 settings.status) _ is in
    let after_timeout = second_so (is_in_range 1 2147483647 settings.timeout_sec) _ after_status in
    let after_labels = second_so (are_items 0 64 settings.block_labels) _ after_timeout in
    let after_approvals = second_so (is_in_range 0 100 settings.required_approvals) _ after_labels in
    let status_apart = items_apart (pos 1) 1 settings.status (first_so (are_items 1 64 settings.status) _ is) in
    let labels_apart = items_apart (pos 2) 0 settings.block_labels (first_so (are_items 0 64 settings.block_labels) _ after_timeout) in
    let own_apart = items_apart (pos 3) 0 settings.pr_status (second_so (is_size settings.max_batch_size) (are_items 0 64 settings.pr_status) after_approvals) in
    let two = joined_lists (pos 7) status labels status_apart labels_apart
    (of_wanted (pos 1) settings.status (λ r. first_kind r.kind ≢ pos 7) (λ e same. cc same)) (of_wanted (pos 2) settings.block_labels (λ q. first_kind q.kind ≡ pos 7) (λ e. refl)) in
    let not_nine = all_joined (λ (r : WantedRow). first_kind r.kind ≢ pos 9) status labels
    (of_wanted (pos 1) settings.status (λ r. first_kind r.kind ≢ pos 9) (λ e same. cc same)) (of_wanted (pos 2) settings.block_labels (λ r. first_kind r.kind ≢ pos 9) (λ e same. cc same)) in
    joined_lists (pos 9) (status ++ labels) own two own_apart not_nine (of_wanted (pos 3) settings.pr_status (λ q. first_kind q.kind ≡ pos 9) (λ e. refl))

-- THE MARKS: those of changes and those of the settings are apart by their kinds
abbrev pub is_of_settings : ℤ → Bool
is_of_settings kind = int_eq kind (pos 6) || int_eq kind (pos 7) || int_eq kind (pos 9)

abbrev pub IsOfChange : MarkRow → Type 0
IsOfChange r = is_of_settings r.kind ≡ false

abbrev pub IsOfSettings : WantedRow → Type 0
IsOfSettings r = is_of_settings (first_kind r.kind) ≡ true

of_change : (e : ℕ × Change) → AllByRecursion IsOfChange (marks_of e)
of_change e = all_joined IsOfChange _ (set_marks e.0 (pos 8) e.1.passed) (of_first IsOfChange e (λ m. refl) (λ m. refl) (λ m. refl) (λ m. refl) (λ m. refl)) (of_set IsOfChange e.0 (pos 8) (λ m. refl) e.1.passed)

pub of_settings : (settings : Option SettingsView) → AllByRecursion IsOfSettings (wanted_of settings)
of_settings None = tt
of_settings (Some settings) =
    all_joined IsOfSettings (list_wanted (pos 1) settings.status ++ list_wanted (pos 2) settings.block_labels) (list_wanted (pos 3) settings.pr_status)
    (all_joined IsOfSettings (list_wanted (pos 1) settings.status) (list_wanted (pos 2) settings.block_labels) (of_wanted (pos 1) settings.status IsOfSettings (λ e. refl)) (of_wanted (pos 2) settings.block_labels IsOfSettings (λ e. refl)))
    (of_wanted (pos 3) settings.pr_status IsOfSettings (λ e. refl))

pub of_changes : (s : State) → AllByRecursion IsOfChange (rows_of s).marks
of_changes s =
    let entries = finite.entries s.desk.changes in
    all_flat IsOfChange marks_of entries (all_of (λ e. AllByRecursion IsOfChange (marks_of e)) of_change entries)

first_marks_apart : (s : State) → fits s ≡ true → KeepsLimits s.desk → AreApart forms.marks (in_first (rows_of s)).marks
first_marks_apart s is limits =
    let entries = finite.entries s.desk.changes in
    let wanted = wanted_of s.desk.settings in
    joined_apart mark_key (flat_map marks_of entries) (map as_mark wanted) (marks_apart s is) (mapped_apart first_key mark_key as_mark (λ r q same. same) wanted (lists_apart s.desk.settings limits.settings))
    (across_of (λ r q. mark_key q ≢ mark_key r) IsOfChange (λ (q : MarkRow). is_of_settings q.kind ≡ true)
    (λ r q of_r of_q same. let e : true ≡ false = sym of_q ∙ ap is_of_settings (ap (number_at 1) same) ∙ of_r in cc e) (flat_map marks_of entries) (map as_mark wanted)
    (of_changes s)
    (all_mapped (λ (q : MarkRow). is_of_settings q.kind ≡ true) as_mark wanted (of_settings s.desk.settings)))

pub have_first_keys : (s : State) → fits s ≡ true → KeepsLimits s.desk → HaveKeys (in_first (rows_of s))
have_first_keys s is limits =
    let fit = facts s is in
    record {
      desk = (tt, tt);
      people = people_apart s;
      changes = changes_apart s;
      marks = first_marks_apart s is limits;
      batches = batches_apart s fit;
      members = members_apart s fit;
      statuses = statuses_apart s fit;
      wanted = tt;
    }
