-- What an UPDATE by a key makes of the tables.
use Rattle.std.proofs.Common.{◌≡◌, ℕ, List, [], ◌∷◌, ◌++◌, map, filter, length, drop, Bool, true, not, Option, None, unwrap_or, Ok, if◌then◌else◌, IsPermutation, refl, sym, ap, subst, subst₂, ◌∙◌}
use Rattle.std.specs.List.{list_all}
use Rattle.std.proofs.lemmas.List.{length-map, map-append, take-append-drop}
use Rattle.std.proofs.lemmas.List.Sorted.{IsPermutation-map, IsPermutation-trans, IsPermutation-append_left, length_permutation}
use Rattle.gate_tables.proofs.Inserting.{went, same_value}
use Rattle.gate_tables.proofs.Picking.{finds, found}
use Rattle.gate_tables.proofs.Moved.{apart_filtered}
use Rattle.gate_tables.proofs.Placing.{still_kept, kept_one, all_moved}
use Rattle.gate_tables.proofs.Selecting.{picks}
use Rattle.gate_tables.proofs.Taking.{filter_same, map_has, without_picked, filter_all_true, put_all_adds, put_all_keyed, put_all_own, split_mapped, all_mapped, joined_all}
use Rattle.gate_tables.specs.Apart.{AreApartBy}
use Rattle.gate_tables.specs.Database.{all_schema, table_of, columns_of, cells}
use Rattle.gate_tables.specs.Effects.{RanOn, IsInside, Spares}
use Rattle.gate_tables.specs.Forms.{Form}
use Rattle.gate_tables.specs.Kept.{IsKept, is_whole}
use Rattle.gate_tables.specs.Keys.{key_of, begin_with, tests_of}
use Rattle.gate_tables.specs.Known.{IsKeyed, picked, program}
use Rattle.gate_tables.specs.Texts.{key_width, update_text}
use Rattle.sqlite.proofs.Callers.{statement_of, runs_as, one_step}
use Rattle.sqlite.specs.Cast.{cast_row}
use Rattle.sqlite.specs.Command.TheVariants.{Update}
use Rattle.sqlite.specs.Does.{Tally, Does, AtPlace, OnRows}
use Rattle.sqlite.specs.Edit.{Applies, edit_of, without_all, put_all, numbered, have_rowids, id_in}
use Rattle.sqlite.specs.Effect.{Database}
use Rattle.sqlite.specs.Listing.{understood}
use Rattle.sqlite.specs.Order.{Row}
use Rattle.sqlite.specs.Rowids.TheVariants.{Given}
use Rattle.sqlite.specs.Rows.{Written}
use Rattle.sqlite.specs.State.{State, mode_of}
use Rattle.sqlite.specs.Table.{Table}
use Rattle.sqlite.specs.Term.{col, eval_all, holds}
use Rattle.sqlite.specs.Tree.{rowid}
use Rattle.sqlite_rules.proofs.ListLemmas.{test_has, has_filtered}
use Rattle.sqlite_rules.proofs.PlaceLemmas.{given as given_rows}
use Rattle.sqlite_rules.specs.Calls.{ids_of}
use Rattle.sqlite_rules.specs.Lists.{Has}
use Rattle.sqlite_schema.specs.declared.schema.Constraint.TheVariants.{Unique}
use Rattle.sqlite_schema.specs.declared.schema.Keys.TheVariants.{Enforced}
use Rattle.sqlite_trees.proofs.ListLemmas.{filter-map, map-map}

module _ {R : Type 0} (form : Form R) (known : IsKeyed form) (r : R) where
  abbrev params : Row
  params = form.values r

  abbrev passes : Row → Bool
  passes row = list_all (holds (params ∷ row ∷ [])) (tests_of 0 form.layout.primary)

  -- what the query gives of a row that is found: its rowid, and then the row as it is to be
  abbrev sources : Row → Row
  sources row = eval_all (col 1 0 ∷ known.updates.terms) (params ∷ row ∷ [])

  abbrev becomes : Row → Row
  becomes row = cast_row (table_of form.layout) (eval_all known.updates.terms (params ∷ row ∷ []))

  -- what the edit of the UPDATE is, and how many rows it counts
  edits : (count : ℕ) (old new : State) → old.now.schema ≡ all_schema → RanOn count (update_text form.layout) params old new
      → (new.now.schema ≡ all_schema) × (given : List Row) × IsPermutation (map sources (filter passes (old.now.trees form.layout.tree))) given × (count ≡ length given)
      × Applies all_schema Enforced old.now.trees (edit_of old.now.trees (table_of form.layout) (ids_of given) Given 1 given) new.now.trees
  edits count old new has ran =
      let db = old.now.trees in
      let test = tests_of 0 form.layout.primary in
      let terms = col 1 0 ∷ known.updates.terms in
      let command = Update form.at (program (picked form.layout.tree test terms)) in
      let w = runs_as (update_text form.layout) params old new all_schema has command known.updates.is known.updates.plain count ran.0 in
      let text = statement_of (update_text form.layout) (understood all_schema (update_text form.layout)) in
      let table = table_of form.layout in
      let end = Ok (w.tally, new.now) in
      let at_table = λ (o : Option Table). AtPlace (λ t. OnRows (record { limit = old.step_limit; keys = Enforced; schema = all_schema; table = t; params = params }) (mode_of old) None command db) o end in
      let done = went (subst at_table known.known.listed (subst (λ s. Does old.step_limit (mode_of old) params (record old.now { schema = s }) text None command end) has w.changed)) in
      let last = same_value (went (went done.2).2).2 in
      let now = ap (λ (p : Tally × Database). p.1) last in
      let found = went done.1 in
      let written = went found.2 in
      let it = same_value written.2 in
      let trees : done.0.trees ≡ written.0 = ap (λ (it : Written). it.trees) it in
      let edit = edit_of db table (ids_of found.0) Given 1 found.0 in
      let applied = one_step all_schema _ db written.0 edit refl written.1 in
      let same = ap (λ (d : Database). d.trees) now ∙ trees in
      let counted : count ≡ length edit.news = w.counted ∙ ap (λ (p : Tally × Database). unwrap_or p.0.rows 0) last ∙ ap (λ (it : Written). length it.rows) it in
      let many : length edit.news ≡ length found.0 = ap length (given_rows (without_all (db table.tree) (ids_of found.0)) (map (λ s. cast_row table (drop 1 s)) found.0)) ∙ length-map found.0 (λ s. cast_row table (drop 1 s)) in (
        ap (λ (d : Database). d.schema) now,
        found.0,
        picks form.layout.tree test terms (record { schema = all_schema; trees = db }) params found.0 found.1,
        counted ∙ many,
        subst (λ next. Applies all_schema Enforced db edit next) (sym same) applied,
      )

  key : Row
  key = key_of form r

  whole_of : Row → Bool
  whole_of row = is_whole form.layout.columns (columns_of form.layout row)

  module _ (rows : List Row) (whole : list_all whole_of rows ≡ true) where
    abbrev chosen : List Row
    chosen = filter passes rows

    abbrev rest : List Row
    rest = filter (λ row. not (passes row)) rows

    passes_by_key : (row : Row) → Has rows row → passes row ≡ begin_with key (columns_of form.layout row)
    unfolding key whole_of
    passes_by_key row has = finds form known params key (known.updates.given r) (known.fronts r).0 (known.fronts r).1 row (test_has whole_of rows row whole has)

    -- a row that is found becomes the row that is put
    becomes_it : (row : Row) → Has chosen row → columns_of form.layout (becomes row) ≡ params
    unfolding key whole_of
    becomes_it row has =
        let was = has_filtered passes rows row has in
        let its_whole = test_has whole_of rows row whole was.0 in
        let own = found form known params key (known.updates.given r) (known.fronts r).0 (known.fronts r).1 row its_whole (sym (passes_by_key row was.0) ∙ was.1) in
        known.updates.stored r row its_whole ∙ ap (λ front. front ++ drop (key_width form.layout) params) own ∙ take-append-drop (key_width form.layout) params

    -- the columns of all rows together
    together : IsPermutation (map (λ c. if begin_with key c then params else c) (map (columns_of form.layout) rows)) (map (columns_of form.layout) (map becomes chosen) ++ map (columns_of form.layout) rest)
    together =
        let columns = columns_of form.layout in
        let by_test : map (λ c. if begin_with key c then params else c) (map columns rows) ≡ map (λ row. if passes row then params else columns row) rows =
        map-map (λ c. if begin_with key c then params else c) columns rows ∙ map_has (λ row. if begin_with key (columns row) then params else columns row) (λ row. if passes row then params else columns row) rows
        (λ row has. ap (λ (b : Bool). if b then params else columns row) (sym (passes_by_key row has))) in
        let changed : map (λ _. params) chosen ≡ map columns (map becomes chosen) = map_has (λ _. params) (λ row. columns (becomes row)) chosen (λ row has. sym (becomes_it row has)) ∙ sym (map-map columns becomes chosen) in
        subst₂ (λ front back. IsPermutation front (back ++ map columns rest)) (sym by_test) changed (split_mapped passes (λ _. params) columns rows)

    becomes_whole : list_all whole_of (map becomes chosen) ≡ true
    unfolding whole_of
    becomes_whole = all_mapped whole_of becomes chosen (λ row has. ap (is_whole form.layout.columns) (becomes_it row has) ∙ known.known.wholes r)

    many : length chosen ≡ length (filter (begin_with key) (map (columns_of form.layout) rows))
    many =
        let columns = columns_of form.layout in
        ap length (filter_same passes (λ row. begin_with key (columns row)) rows passes_by_key) ∙ sym (length-map (filter (λ row. begin_with key (columns row)) rows) columns) ∙ ap length (sym (filter-map (begin_with key) columns rows))

  -- The row that has the key is as the given one, and no other table differs. As many rows are counted as had it.
  pub update_changes : (count : ℕ) (old new : State) → IsInside all_schema old → RanOn count (update_text form.layout) params old new
      → IsInside all_schema new × IsPermutation (map (λ c. if begin_with (key_of form r) c then params else c) (cells form.layout old.now.trees)) (cells form.layout new.now.trees)
      × Spares form.layout.tree old.now.trees new.now.trees × (count ≡ length (filter (begin_with (key_of form r)) (cells form.layout old.now.trees)))
  unfolding key whole_of
  update_changes count old new inside ran =
      let all = edits count old new inside.schema_is ran in
      let it = all.4 in
      let table = table_of form.layout in
      let columns = columns_of form.layout in
      let rows = old.now.trees form.layout.tree in
      let had = kept_one old.now.trees all_schema.tables form.at table known.known.listed inside.kept.tables in
      let sourced = all.2 in
      let ids = subst (λ ids. IsPermutation ids (ids_of all.1)) (map-map (λ (s : Row). id_in (rowid s)) sources (chosen rows had.whole)) (IsPermutation-map (λ (s : Row). id_in (rowid s)) (map sources (chosen rows had.whole)) all.1 sourced) in
      let left : without_all rows (ids_of all.1) ≡ rest rows had.whole = without_picked passes rows had.rowids had.own (ids_of all.1) ids in
      let make = λ (s : Row). cast_row table (drop 1 s) in
      let news : List Row = numbered Given (without_all rows (ids_of all.1)) (map make all.1) in
      let news_are : news ≡ map make all.1 = given_rows (without_all rows (ids_of all.1)) (map make all.1) in
      let became : IsPermutation (map becomes (chosen rows had.whole)) news =
      subst₂ IsPermutation (map-map make sources (chosen rows had.whole)) (sym news_are) (IsPermutation-map make (map sources (chosen rows had.whole)) all.1 sourced) in
      let put : IsPermutation (news ++ without_all rows (ids_of all.1)) (put_all (without_all rows (ids_of all.1)) news) = put_all_adds news (without_all rows (ids_of all.1)) it.fresh in
      let placed : IsPermutation (map becomes (chosen rows had.whole) ++ rest rows had.whole) (new.now.trees form.layout.tree) =
      subst₂ IsPermutation refl (sym it.rows) (IsPermutation-trans _ (news ++ without_all rows (ids_of all.1)) _
      (subst (λ l. IsPermutation (map becomes (chosen rows had.whole) ++ l) (news ++ without_all rows (ids_of all.1))) left (IsPermutation-append_left (without_all rows (ids_of all.1)) (map becomes (chosen rows had.whole)) news became)) put) in
      let own : IsKept table rows → IsKept table (new.now.trees form.layout.tree) = λ was. record {
        rowids = ap have_rowids it.rows ∙ put_all_keyed news (without_all rows (ids_of all.1)) it.keyed (ap have_rowids left ∙ filter_all_true _ (λ row. not (passes row)) rows was.rowids);
        own = subst (AreApartBy rowid) (sym it.rows) (put_all_own news (without_all rows (ids_of all.1)) it.fresh (subst (AreApartBy rowid) (sym left) (apart_filtered rowid (λ row. not (passes row)) rows was.own)));
        whole = all_moved whole_of _ (new.now.trees form.layout.tree) placed (joined_all whole_of (map becomes (chosen rows had.whole)) (rest rows had.whole) (becomes_whole rows had.whole) (filter_all_true whole_of (λ row. not (passes row)) rows was.whole));
      } in
      let cells_moved = IsPermutation-map columns (map becomes (chosen rows had.whole) ++ rest rows had.whole) (new.now.trees form.layout.tree) placed in
      let joined = subst (λ l. IsPermutation l (cells form.layout new.now.trees)) (map-append columns (map becomes (chosen rows had.whole)) (rest rows had.whole)) cells_moved in
      let counted = all.3 ∙ length_permutation (map sources (chosen rows had.whole)) all.1 sourced ∙ length-map (chosen rows had.whole) sources ∙ many rows had.whole in (
        record {
          is_open = ran.1.is_open;
          within = ran.1.mode;
          schema_is = all.0;
          kept = record {
            tables = still_kept old.now.trees new.now.trees table all_schema.tables form.at known.known.listed refl inside.kept.tables it.tables own;
            unique = it.fits.rules Unique (λ e. cc);
          };
        },
        IsPermutation-trans _ _ _ (together rows had.whole) joined,
        it.tables,
        counted,
      )
