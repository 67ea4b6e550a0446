-- A row that is put, and a row that is deleted, seen as records.
use Rattle.std.proofs.Common.{◌≡◌, ◌≢◌, ℕ, List, [], ◌∷◌, map, filter, length, Bool, true, false, not, ◌||◌, cond, if◌then◌else◌, IsPermutation, refl, sym, ap, subst, ◌∙◌}
use Rattle.std.specs.List.{list_any, list_all}
use Rattle.std.proofs.lemmas.List.{length-map}
use Rattle.std.proofs.lemmas.List.Sorted.{IsPermutation-map, IsPermutation-sym, IsPermutation-trans, IsPermutation-cons}
use Rattle.gate_tables.proofs.Deleting.{delete_drops}
use Rattle.gate_tables.proofs.Inserting.{insert_adds}
use Rattle.gate_tables.proofs.Placing.{kept_one}
use Rattle.gate_tables.proofs.Steps.{spares_then}
use Rattle.gate_tables.proofs.Taking.{filter_same, map_has}
use Rattle.gate_tables.proofs.Updating.{update_changes}
use Rattle.gate_tables.specs.Database.{all_schema, table_of, columns_of, cells}
use Rattle.gate_tables.specs.Effects.{RanOn, RanInside, IsInside, Puts, Drops}
use Rattle.gate_tables.specs.Forms.{Form, rows_of}
use Rattle.gate_tables.specs.Kept.{is_whole}
use Rattle.gate_tables.specs.Keys.{key_of, begin_with, has_key, is_front, IsGivenAt}
use Rattle.gate_tables.specs.Known.{IsKeyed}
use Rattle.gate_tables.specs.Texts.{key_width, update_text, delete_text}
use Rattle.sqlite.specs.Order.{Row}
use Rattle.sqlite.specs.State.{State}
use Rattle.sqlite_rules.proofs.ListLemmas.{test_has}
use Rattle.sqlite_rules.specs.Lists.{Has}
use Rattle.sqlite_trees.proofs.ListLemmas.{filter-map, map-map}

-- how many pass a test tells whether some do
none_counted : {A : Type 0} (p : A → Bool) (xs : List A) → length (filter p xs) ≡ 0 → list_any p xs ≡ false
none_counted p [] h = refl
none_counted p (x ∷ xs) h = step (p x) h (none_counted p xs)
  where
    step : (b : Bool) → length (cond b (x ∷ filter p xs) (filter p xs)) ≡ 0 → (length (filter p xs) ≡ 0 → list_any p xs ≡ false) → b || list_any p xs ≡ false
    step true h more = absurd cc
    step false h more = more h

some_counted : {A : Type 0} (p : A → Bool) (xs : List A) → length (filter p xs) ≢ 0 → list_any p xs ≡ true
some_counted p [] h = absurd (h refl)
some_counted p (x ∷ xs) h = step (p x) h (some_counted p xs)
  where
    step : (b : Bool) → length (cond b (x ∷ filter p xs) (filter p xs)) ≢ 0 → (length (filter p xs) ≢ 0 → list_any p xs ≡ true) → b || list_any p xs ≡ true
    step true h more = refl
    step false h more = more h

untouched : {A : Type 0} (p : A → Bool) (new : A) (xs : List A) → list_any p xs ≡ false → map (λ x. if p x then new else x) xs ≡ xs
untouched p new [] h = refl
untouched p new (x ∷ xs) h = step (p x) h (untouched p new xs)
  where
    step : (b : Bool) → b || list_any p xs ≡ false → (list_any p xs ≡ false → map (λ x. if p x then new else x) xs ≡ xs) → (if b then new else x) ∷ map (λ x. if p x then new else x) xs ≡ x ∷ xs
    step true h more = absurd cc
    step false h more = ap (λ l. x ∷ l) (more h)

module _ {R : Type 0} (form : Form R) (known : IsKeyed form) where
  abbrev all_whole : State → Type 0
  all_whole s = list_all (λ row. is_whole form.layout.columns (columns_of form.layout row)) (s.now.trees form.layout.tree) ≡ true

  whole_in : (s : State) → IsInside all_schema s → all_whole s
  whole_in s inside = (kept_one s.now.trees all_schema.tables form.at (table_of form.layout) known.known.listed inside.kept.tables).whole

  -- what is read of a stored row has the key that its columns begin with
  same_key : (s : State) → all_whole s → (key : Row) (row : Row) → Has (s.now.trees form.layout.tree) row → begin_with key (columns_of form.layout row) ≡ has_key form key (form.read (columns_of form.layout row))
  same_key s whole key row has = ap (begin_with key) (sym (known.whole_again row (test_has (λ row. is_whole form.layout.columns (columns_of form.layout row)) (s.now.trees form.layout.tree) row whole has)))

  -- the row of a key is gone
  pub deletes : (key : Row) → IsGivenAt 0 key key → is_front form.layout.columns key ≡ true → length key ≡ key_width form.layout → (old new : State) → IsInside all_schema old → RanInside (delete_text form.layout) key old new
      → IsInside all_schema new × Drops form key old.now.trees new.now.trees
  deletes key given front wide old new inside ran =
      let all = delete_drops form known key given front wide old new inside ran in
      let columns = columns_of form.layout in
      let rows = old.now.trees form.layout.tree in
      let read = λ (row : Row). form.read (columns row) in
      let whole = whole_in old inside in
      let by_key : filter (λ row. not (begin_with key (columns row))) rows ≡ filter (λ row. not (has_key form key (read row))) rows =
      filter_same (λ row. not (begin_with key (columns row))) (λ row. not (has_key form key (read row))) rows (λ row has. ap not (same_key old whole key row has)) in
      let stays : rows_of form new.now.trees ≡ map form.read (map columns (filter (λ row. not (begin_with key (columns row))) rows)) = ap (map form.read) (all.1 ∙ filter-map (λ c. not (begin_with key c)) columns rows) in
      let again : map form.read (map columns (filter (λ row. not (begin_with key (columns row))) rows)) ≡ filter (λ x. not (has_key form key x)) (map read rows) =
      map-map form.read columns (filter (λ row. not (begin_with key (columns row))) rows) ∙ ap (map read) by_key ∙ sym (filter-map (λ x. not (has_key form key x)) read rows) in (
        all.0,
        record {
          rows = sym (stays ∙ again ∙ ap (filter (λ x. not (has_key form key x))) (sym (map-map form.read columns rows)));
          others = all.2;
        },
      )

  module _ (r : R) where
    abbrev own : R → Bool
    own = has_key form (key_of form r)

    -- what an UPDATE makes of the rows, and what it counts
    updated : (count : ℕ) (old new : State) → IsInside all_schema old → RanOn count (update_text form.layout) (form.values r) old new
        → IsInside all_schema new × IsPermutation (map (λ x. if own x then r else x) (rows_of form old.now.trees)) (rows_of form new.now.trees) × (count ≡ length (filter own (rows_of form old.now.trees)))
    updated count old new inside ran =
        let all = update_changes form known r count old new inside ran in
        let columns = columns_of form.layout in
        let rows = old.now.trees form.layout.tree in
        let key = key_of form r in
        let whole = whole_in old inside in
        let read = λ (row : Row). form.read (columns row) in
        let moved = IsPermutation-map form.read (map (λ c. if begin_with key c then form.values r else c) (map columns rows)) (cells form.layout new.now.trees) all.1 in
        let each : (row : Row) → Has rows row → form.read (if begin_with key (columns row) then form.values r else columns row) ≡ (if own (read row) then r else read row) = λ row has. one (begin_with key (columns row)) (own (read row)) row (same_key old whole key row has) in
        let changed : map form.read (map (λ c. if begin_with key c then form.values r else c) (map columns rows)) ≡ map (λ x. if own x then r else x) (map form.read (map columns rows)) =
        ap (map form.read) (map-map (λ c. if begin_with key c then form.values r else c) columns rows) ∙ map-map form.read (λ row. if begin_with key (columns row) then form.values r else columns row) rows
        ∙ map_has (λ row. form.read (if begin_with key (columns row) then form.values r else columns row)) (λ row. if own (read row) then r else read row) rows each
        ∙ sym (map-map (λ x. if own x then r else x) read rows) ∙ ap (map (λ x. if own x then r else x)) (sym (map-map form.read columns rows)) in
        let counted : length (filter (begin_with key) (map columns rows)) ≡ length (filter own (map form.read (map columns rows))) =
        ap length (filter-map (begin_with key) columns rows) ∙ length-map (filter (λ row. begin_with key (columns row)) rows) columns ∙ ap length (filter_same (λ row. begin_with key (columns row)) (λ row. own (read row)) rows (same_key old whole key))
        ∙ sym (length-map (filter (λ row. own (read row)) rows) read) ∙ ap length (sym (filter-map own read rows)) ∙ ap (λ l. length (filter own l)) (sym (map-map form.read columns rows)) in (
          all.0,
          subst (λ l. IsPermutation l (rows_of form new.now.trees)) changed moved,
          all.3 ∙ counted,
        )
      where
        one : (b c : Bool) (row : Row) → b ≡ c → form.read (if b then form.values r else columns_of form.layout row) ≡ (if c then r else form.read (columns_of form.layout row))
        one true true row e = known.known.reads r
        one false false row e = refl
        one true false row e = absurd cc
        one false true row e = absurd cc

    -- a row that was there is changed
    pub puts_there : (count : ℕ) (old new : State) → IsInside all_schema old → RanOn count (update_text form.layout) (form.values r) old new → count ≢ 0
        → IsInside all_schema new × Puts form r old.now.trees new.now.trees
    puts_there count old new inside ran many =
        let it = updated count old new inside ran in
        let some = some_counted own (rows_of form old.now.trees) (λ none. many (it.2 ∙ none)) in (
          it.0,
          record {
            rows = subst (λ (b : Bool). IsPermutation (rows_of form new.now.trees) (if b then map (λ x. if own x then r else x) (rows_of form old.now.trees) else r ∷ rows_of form old.now.trees)) (sym some) (IsPermutation-sym _ _ it.1);
            others = (update_changes form known r count old new inside ran).2;
          },
        )

    -- a row that wasn't is added
    pub puts_new : (count : ℕ) (old mid new : State) → IsInside all_schema old → RanOn count (update_text form.layout) (form.values r) old mid → count ≡ 0 → RanInside form.insert (form.values r) mid new
        → IsInside all_schema new × Puts form r old.now.trees new.now.trees
    puts_new count old mid new inside ran none inserted =
        let it = updated count old mid inside ran in
        let added = insert_adds form known.known r mid new it.0 inserted in
        let lacks = none_counted own (rows_of form old.now.trees) (sym it.2 ∙ none) in
        let same : IsPermutation (rows_of form old.now.trees) (rows_of form mid.now.trees) = subst (λ l. IsPermutation l (rows_of form mid.now.trees)) (untouched own r (rows_of form old.now.trees) lacks) it.1 in
        let read : IsPermutation (r ∷ rows_of form mid.now.trees) (rows_of form new.now.trees) =
        subst (λ x. IsPermutation (x ∷ rows_of form mid.now.trees) (rows_of form new.now.trees)) (known.known.reads r) (IsPermutation-map form.read (form.values r ∷ cells form.layout mid.now.trees) (cells form.layout new.now.trees) added.1.added) in (
          added.0,
          record {
            rows = subst (λ (b : Bool). IsPermutation (rows_of form new.now.trees) (if b then map (λ x. if own x then r else x) (rows_of form old.now.trees) else r ∷ rows_of form old.now.trees)) (sym lacks)
                (IsPermutation-sym _ _ (IsPermutation-trans (r ∷ rows_of form old.now.trees) (r ∷ rows_of form mid.now.trees) (rows_of form new.now.trees) (IsPermutation-cons r (rows_of form old.now.trees) (rows_of form mid.now.trees) same) read));
            others = spares_then form.layout.tree old.now.trees mid.now.trees new.now.trees all_schema.tables (update_changes form known r count old mid inside ran).2 added.1.others;
          },
        )
