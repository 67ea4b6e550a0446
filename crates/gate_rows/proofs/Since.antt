-- What differs among the rows of the parts that were noted leads from the rows of the state then to those of the state now.
use Rattle.std.proofs.Common.{◌≡◌, ◌≢◌, ◌≤◌, ◌-◌, ℕ, true, List, [], ◌∷◌, ◌++◌, map, filter_map, Option, Some, None, IsPermutation, refl, sym, ◌∙◌, ap, subst, arith}
use Rattle.std.proofs.lemmas.List.Sorted.{IsPermutation-append_left, IsPermutation-map, IsPermutation-sym}
use Rattle.std.specs.Cmp.{nat_cmp_total}
use Rattle.std.specs.Cmp.Lexicographic.{nat_list_cmp_total}
use Rattle.std.specs.FinMap as finite
use Rattle.std.specs.FinMap.{entries_sorted, nat_cmp-IsAntisymmetric, slice_cmp-IsAntisymmetric}
use Rattle.std.specs.List.{AllByRecursion}
use Rattle.std.specs.Option.{option_map_or, option_or, unwrap_or}
use Rattle.std.specs.Ordering.{nat_cmp}
use Rattle.gate_text.specs.Settings.{SettingsView}
use Rattle.gate_queue.specs.Before.{IsBefore, Noted, Tells}
use Rattle.gate_state.specs.Checks.{fits}
use Rattle.gate_state.specs.Lanes as lane
use Rattle.gate_state.specs.Queue.{batch_numbered, batches_of}
use Rattle.gate_state.specs.State.{IsState}
use Rattle.gate_state.specs.declared.batch.Batch.{Batch}
use Rattle.gate_state.specs.declared.state.State.{State}
use Rattle.gate_rows.proofs.Alike.{same_back, same_then}
use Rattle.gate_rows.proofs.ByKeys.{same_by_keys}
use Rattle.gate_rows.proofs.Keys.{numbers_apart}
use Rattle.gate_rows.proofs.NewBatches.{known, known_sorted, known_tells, none_from, values_now, values_then}
use Rattle.gate_rows.proofs.Noted.{noted_parted}
use Rattle.gate_rows.proofs.Numbered.{by_number, entry_of, get_of_queue, listed_by_number}
use Rattle.gate_rows.proofs.OneState.{Fits, facts}
use Rattle.gate_rows.proofs.Parted.{Parted, all_parted, flat_parted, map_parted, none_parted, parted_moved}
use Rattle.gate_rows.specs.Changed.{by_keys}
use Rattle.gate_rows.specs.Encoding.{batch_row, change_row, desk_row, desk_row_of, marks_of, members_of, person_row, rows_of, statuses_of, wanted_of}
use Rattle.gate_rows.specs.Parts.{AreStates, LawOfChangesSince, LawOfKeysSince, are_there, batches_now, batches_then, changes_since, new_numbers, rows_now, rows_then, settings_then, were_there}
use Rattle.gate_tables.proofs.Moved.{keys_moved}
use Rattle.gate_tables.specs.Applied.{applied}
use Rattle.gate_tables.specs.Contents.{AreSame}
use Rattle.gate_tables.specs.Differences.{AreApart, HaveKeys, LawOfParts, with_others}
use Rattle.gate_tables.specs.Forms.{Form}
use Rattle.gate_tables.specs.Keys.{key_of}
use Rattle.gate_tables.specs.declared.row.DeskRow.{DeskRow}
use Rattle.gate_tables.specs.declared.row.Rows.{Rows}

-- rows beside those of the parts, with which they are the rows of the states
record Beside (before : Noted) (old new : State) : Type 0 where
  others : Rows
  were : AreSame (with_others (rows_then before new) others) (rows_of old)
  are : AreSame (with_others (rows_now before new) others) (rows_of new)

-- BATCHES
values_of_entries : (batches : List Batch) → map (λ (e : ℕ × Batch). e.1) (map entry_of batches) ≡ batches
values_of_entries [] = refl
values_of_entries (b ∷ batches) = ap (λ bs. b ∷ bs) (values_of_entries batches)

listed_again : (s : State) → Fits s → IsPermutation (map (λ (e : ℕ × Batch). e.1) (finite.entries (by_number (batches_of s.queue)))) (batches_of s.queue)
listed_again s fit =
    let bs = batches_of s.queue in
    let es = finite.entries (by_number bs) in
    subst (IsPermutation (map (λ (e : ℕ × Batch). e.1) es)) (values_of_entries bs)
    (IsPermutation-map (λ (e : ℕ × Batch). e.1) es (map entry_of bs) (IsPermutation-sym (map entry_of bs) es (listed_by_number bs (numbers_apart s fit))))

-- under the next number and above there is no batch
none_above : (s : State) → Fits s → (n : ℕ) → s.queue.next ≤ n → batch_numbered n s.queue ≡ None
none_above s fit n above = λ i. option_or (none_from s.queue.next n above (lane.batches_of s.queue.staging) fit.staging_below i) (none_from s.queue.next n above (lane.batches_of s.queue.trying) fit.trying_below i)

module _ (before : Noted) (old new : State) (is : IsBefore before old new) (old_fits : Fits old) (new_fits : Fits new) where
  abbrev count : ℕ
  count = new.queue.next - before.next

  unused : (n : ℕ) → before.next ≤ n → finite.get before.batches n ≡ None
  unused n above = is.new_batches n (subst (λ (next : ℕ). next ≤ n) is.next above)

  batches_tell : (n : ℕ) → Tells (finite.find nat_cmp n (known before.batches before.next count unused)) (finite.get (by_number (batches_of old.queue)) n) (finite.get (by_number (batches_of new.queue)) n)
  batches_tell n =
      subst (λ (was : Option Batch). Tells (finite.find nat_cmp n (known before.batches before.next count unused)) was (finite.get (by_number (batches_of new.queue)) n)) (sym (get_of_queue n old.queue))
      (subst (Tells (finite.find nat_cmp n (known before.batches before.next count unused)) (batch_numbered n old.queue)) (sym (get_of_queue n new.queue))
      (known_tells before.batches before.next count unused n (batch_numbered n old.queue) (batch_numbered n new.queue)
      (λ below. is.batches n (omega (arith, below, is.next)))
      (λ above. none_above old old_fits n (omega (arith, above, is.next)))
      (λ above. none_above new new_fits n (omega (arith, above, is.next, is.rises)))))

  batches_parted : Parted (batches_then before) (batches_now before new.queue) (batches_of old.queue) (batches_of new.queue)
  batches_parted =
      let entries = noted_parted nat_cmp_total nat_cmp-IsAntisymmetric (known before.batches before.next count unused) (known_sorted before.batches before.next count unused)
      (by_number (batches_of old.queue)) (by_number (batches_of new.queue)) batches_tell in
      parted_moved (map (λ (e : ℕ × Batch). e.1) (finite.entries (by_number (batches_of old.queue)))) (map (λ (e : ℕ × Batch). e.1) (finite.entries (by_number (batches_of new.queue)))) (batches_of old.queue) (batches_of new.queue)
      (listed_again old old_fits) (listed_again new new_fits)
      (subst (λ then. Parted then (batches_now before new.queue) (map (λ (e : ℕ × Batch). e.1) (finite.entries (by_number (batches_of old.queue)))) (map (λ (e : ℕ × Batch). e.1) (finite.entries (by_number (batches_of new.queue)))))
      (values_then (finite.entries before.batches) (new_numbers before new.queue))
      (subst (λ now. Parted (map (λ (e : ℕ × Batch). e.1) (were_there (known before.batches before.next count unused))) now (map (λ (e : ℕ × Batch). e.1) (finite.entries (by_number (batches_of old.queue)))) (map (λ (e : ℕ × Batch). e.1) (finite.entries (by_number (batches_of new.queue)))))
      (values_now (by_number (batches_of new.queue)) (finite.entries before.batches) (new_numbers before new.queue)
      ∙ (λ i. filter_map (λ n. get_of_queue n new.queue i) (finite.keys before.batches ++ new_numbers before new.queue)))
      (map_parted (λ (e : ℕ × Batch). e.1) entries)))

  -- PEOPLE AND CHANGES
  people_parted : Parted (were_there (finite.entries before.people)) (are_there new.desk.roles (finite.entries before.people)) (finite.entries old.desk.roles) (finite.entries new.desk.roles)
  people_parted = noted_parted nat_list_cmp_total (slice_cmp-IsAntisymmetric nat_cmp-IsAntisymmetric) (finite.entries before.people) (entries_sorted before.people) old.desk.roles new.desk.roles
      (λ name. subst (λ (found : Option (Option _)). Tells found (finite.get old.desk.roles name) (finite.get new.desk.roles name)) (finite.get-entries before.people name) (is.people name))

  changes_parted : Parted (were_there (finite.entries before.changes)) (are_there new.desk.changes (finite.entries before.changes)) (finite.entries old.desk.changes) (finite.entries new.desk.changes)
  changes_parted = noted_parted nat_cmp_total nat_cmp-IsAntisymmetric (finite.entries before.changes) (entries_sorted before.changes) old.desk.changes new.desk.changes
      (λ number. subst (λ (found : Option (Option _)). Tells found (finite.get old.desk.changes number) (finite.get new.desk.changes number)) (finite.get-entries before.changes number) (is.changes number))

  -- THE DESK
  wanted_parted : (noted : Option (Option SettingsView)) (was now : Option SettingsView) → Tells noted was now
      → Parted (option_map_or wanted_of noted []) (option_map_or (λ then. wanted_of now) noted []) (wanted_of was) (wanted_of now)
  wanted_parted None was now told = subst (λ (then : Option SettingsView). Parted [] [] (wanted_of then) (wanted_of now)) told (none_parted (wanted_of now))
  wanted_parted (Some then) was now told = subst (λ (those : Option SettingsView). Parted (wanted_of then) (wanted_of now) (wanted_of those) (wanted_of now)) told (all_parted (wanted_of then) (wanted_of now))

  settings_were : (noted : Option (Option SettingsView)) (was now : Option SettingsView) → Tells noted was now → unwrap_or noted now ≡ was
  settings_were None was now told = told
  settings_were (Some then) was now told = told

  desk_was : desk_row_of before.next before.clock before.base (settings_then before new) ≡ desk_row old
  desk_was = λ i. desk_row_of (is.next i) (is.clock i) (is.base i) (settings_were before.settings old.desk.settings new.desk.settings is.settings i)

  desk_parted : Parted (desk_row_of before.next before.clock before.base (settings_then before new) ∷ []) (desk_row new ∷ []) (desk_row old ∷ []) (desk_row new ∷ [])
  desk_parted = subst (λ (row : DeskRow). Parted (desk_row_of before.next before.clock before.base (settings_then before new) ∷ []) (desk_row new ∷ []) (row ∷ []) (desk_row new ∷ [])) desk_was
      (all_parted (desk_row_of before.next before.clock before.base (settings_then before new) ∷ []) (desk_row new ∷ []))

  marks_parted : Parted (rows_then before new).marks (rows_now before new).marks (rows_of old).marks (rows_of new).marks
  marks_parted = flat_parted marks_of changes_parted

  lists_parted : Parted (rows_then before new).wanted (rows_now before new).wanted (rows_of old).wanted (rows_of new).wanted
  lists_parted = wanted_parted before.settings old.desk.settings new.desk.settings is.settings

  -- ALL ROWS
  all_beside : Beside before old new
  all_beside = record {
    others = record {
      desk = desk_parted.others;
      people = (map_parted person_row people_parted).others;
      changes = (map_parted change_row changes_parted).others;
      marks = marks_parted.others;
      batches = (map_parted batch_row batches_parted).others;
      members = (flat_parted members_of batches_parted).others;
      statuses = (flat_parted statuses_of batches_parted).others;
      wanted = lists_parted.others;
    };
    were = record {
      desk = desk_parted.was;
      people = (map_parted person_row people_parted).was;
      changes = (map_parted change_row changes_parted).was;
      marks = marks_parted.was;
      batches = (map_parted batch_row batches_parted).was;
      members = (flat_parted members_of batches_parted).was;
      statuses = (flat_parted statuses_of batches_parted).was;
      wanted = lists_parted.was;
    };
    are = record {
      desk = desk_parted.is;
      people = (map_parted person_row people_parted).is;
      changes = (map_parted change_row changes_parted).is;
      marks = marks_parted.is;
      batches = (map_parted batch_row batches_parted).is;
      members = (flat_parted members_of batches_parted).is;
      statuses = (flat_parted statuses_of batches_parted).is;
      wanted = lists_parted.is;
    };
  }

-- THE LAWS
all_front : {X : Type 0} (P : X → Type 0) (xs ys : List X) → AllByRecursion P (xs ++ ys) → AllByRecursion P xs
all_front P [] ys all = tt
all_front P (x ∷ xs) ys all = (all.0, all_front P xs ys all.1)

front_apart : {R : Type 0} (form : Form R) (xs ys : List R) → AreApart form (xs ++ ys) → AreApart form xs
front_apart form [] ys apart = tt
front_apart form (x ∷ xs) ys apart = (all_front (λ y. key_of form y ≢ key_of form x) xs ys apart.0, front_apart form xs ys apart.1)

front_keys : (rows beside : Rows) → HaveKeys (with_others rows beside) → HaveKeys rows
front_keys rows beside keys = search front_apart

-- the same rows, beside the same others
same_beside : (a b beside : Rows) → AreSame a b → AreSame (with_others a beside) (with_others b beside)
same_beside a b beside same = search IsPermutation-append_left

-- rows beside others that are all rows of a state, and the same by key
module _ (rows beside all : Rows) (same : AreSame (with_others rows beside) all) where
  keys_beside : HaveKeys all → HaveKeys (with_others rows beside)
  keys_beside = keys_moved all (with_others rows beside) (same_back (with_others rows beside) all same)

  by_keys_beside : AreSame (with_others (by_keys rows) beside) all
  by_keys_beside = same_then (with_others (by_keys rows) beside) (with_others rows beside) all (same_beside (by_keys rows) rows beside (same_back rows (by_keys rows) (same_by_keys rows))) same

module _ (checks : (s : State) → IsState s → fits s ≡ true) (keys : (s : State) → IsState s → HaveKeys (rows_of s)) where
  beside : (before : Noted) (old new : State) → AreStates before old new → Beside before old new
  beside before old new states = all_beside before old new states.before (facts old (checks old states.old)) (facts new (checks new states.new))

  pub keys_since : LawOfKeysSince
  keys_since before old new states =
      let rest = beside before old new states in (
        front_keys (rows_then before new) rest.others (keys_beside (rows_then before new) rest.others (rows_of old) rest.were (keys old states.old)),
        front_keys (rows_now before new) rest.others (keys_beside (rows_now before new) rest.others (rows_of new) rest.are (keys new states.new)),
      )

  pub changes_since_lead : LawOfParts → LawOfChangesSince
  changes_since_lead law before old new rows states same =
      let rest = beside before old new states in
      let then = by_keys (rows_then before new) in
      let now = by_keys (rows_now before new) in
      let were = by_keys_beside (rows_then before new) rest.others (rows_of old) rest.were in
      let are = by_keys_beside (rows_now before new) rest.others (rows_of new) rest.are in
      let led = law then now rest.others rows (keys_beside then rest.others (rows_of old) were (keys old states.old)) (keys_beside now rest.others (rows_of new) are (keys new states.new))
      (same_then rows (rows_of old) (with_others then rest.others) same (same_back (with_others then rest.others) (rows_of old) were)) in
      same_then (applied (changes_since before new) rows) (with_others now rest.others) (rows_of new) led are
