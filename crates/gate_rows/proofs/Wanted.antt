-- The lists of the settings are read again from their rows.
use Rattle.std.proofs.Common.{◌≡◌, ℕ, ℤ, pos, List, [], ◌++◌, cond, map, Some, refl, ◌∙◌, subst}
use Rattle.std.proofs.lemmas.List.Elements.{filter-append}
use Rattle.std.specs.List.{filter}
use Rattle.std.specs.Ordering.{int_eq}
use Rattle.gate_text.specs.Settings.{SettingsView}
use Rattle.gate_rows.proofs.Elements.{HaveSame, same-filter, same-map}
use Rattle.gate_rows.proofs.Marks.{alone_before, filter_const, map_back}
use Rattle.gate_rows.proofs.Scanning.{list_again}
use Rattle.gate_rows.specs.Decoding.{is_wanted, wanted_in}
use Rattle.gate_rows.specs.Encoding.{list_wanted, placed, wanted_of, wanted_row}
use Rattle.gate_tables.specs.declared.row.WantedRow.{WantedRow}

-- the rows of one kind, of these
module _ (kind : ℤ) where
  abbrev if_kind : ℤ → List WantedRow → List WantedRow
  if_kind k rows = cond (int_eq k kind) rows []

  of_list : (k : ℤ) (words : List (List ℕ)) → filter (is_wanted kind) (list_wanted k words) ≡ if_kind k (list_wanted k words)
  of_list k words = filter_const (wanted_row k) (is_wanted kind) (int_eq k kind) (λ entry. refl) (placed words)

  of_lists : (settings : SettingsView) → filter (is_wanted kind) (wanted_of (Some settings))
      ≡ if_kind (pos 1) (list_wanted (pos 1) settings.status) ++ if_kind (pos 2) (list_wanted (pos 2) settings.block_labels) ++ if_kind (pos 3) (list_wanted (pos 3) settings.pr_status)
  of_lists settings = rw (
    filter-append (is_wanted kind) (list_wanted (pos 1) settings.status ++ list_wanted (pos 2) settings.block_labels) (list_wanted (pos 3) settings.pr_status),
    filter-append (is_wanted kind) (list_wanted (pos 1) settings.status) (list_wanted (pos 2) settings.block_labels),
    of_list (pos 1) settings.status,
    of_list (pos 2) settings.block_labels,
    of_list (pos 3) settings.pr_status,
  ) refl

module _ (settings : SettingsView) (rows : List WantedRow) (same : HaveSame rows (wanted_of (Some settings))) where
  abbrev entry_in : WantedRow → ℤ × List ℕ
  entry_in row = (row.place, row.word)

  -- the list of one kind
  again : (kind : ℤ) (words : List (List ℕ)) → filter (is_wanted kind) (wanted_of (Some settings)) ≡ list_wanted kind words → wanted_in kind rows ≡ words
  again kind words is =
      let own = subst (HaveSame (filter (is_wanted kind) rows)) is (same-filter (is_wanted kind) rows (wanted_of (Some settings)) same) in
      list_again (map entry_in (filter (is_wanted kind) rows)) words
      (subst (HaveSame (map entry_in (filter (is_wanted kind) rows))) (map_back (wanted_row kind) entry_in (λ entry. refl) (placed words)) (same-map entry_in (filter (is_wanted kind) rows) (list_wanted kind words) own))

  pub status_again : wanted_in (pos 1) rows ≡ settings.status
  status_again = again (pos 1) settings.status (of_lists (pos 1) settings ∙ alone_before 2 (list_wanted (pos 1) settings.status))

  pub block_labels_again : wanted_in (pos 2) rows ≡ settings.block_labels
  block_labels_again = again (pos 2) settings.block_labels (of_lists (pos 2) settings ∙ alone_before 1 (list_wanted (pos 2) settings.block_labels))

  pub pr_status_again : wanted_in (pos 3) rows ≡ settings.pr_status
  pr_status_again = again (pos 3) settings.pr_status (of_lists (pos 3) settings)
