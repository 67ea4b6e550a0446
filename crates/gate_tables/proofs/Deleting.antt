-- What a DELETE by a key makes of the tables.
use Rattle.std.proofs.Common.{◌≡◌, ℤ, List, [], ◌∷◌, map, filter, length, Bool, true, not, Option, None, Ok, IsPermutation, refl, sym, ap, subst, ◌∙◌}
use Rattle.std.specs.List.{list_all}
use Rattle.std.proofs.lemmas.List.Sorted.{IsPermutation-map}
use Rattle.gate_tables.proofs.Inserting.{went, same_value}
use Rattle.gate_tables.proofs.Picking.{finds}
use Rattle.gate_tables.proofs.Moved.{apart_filtered}
use Rattle.gate_tables.proofs.Placing.{still_kept, kept_one}
use Rattle.gate_tables.proofs.Selecting.{picks}
use Rattle.gate_tables.proofs.Taking.{filter_same, without_picked, filter_all_true}
use Rattle.gate_tables.specs.Database.{all_schema, table_of, columns_of, cells}
use Rattle.gate_tables.specs.Effects.{RanInside, IsInside, Spares}
use Rattle.gate_tables.specs.Forms.{Form}
use Rattle.gate_tables.specs.Kept.{IsKept, is_whole}
use Rattle.gate_tables.specs.Keys.{begin_with, is_front, IsGivenAt, tests_of}
use Rattle.gate_tables.specs.Known.{IsKeyed, picked, program}
use Rattle.gate_tables.specs.Texts.{key_width, delete_text}
use Rattle.sqlite.proofs.Callers.{statement_of, runs_as, one_step}
use Rattle.sqlite.specs.Command.TheVariants.{Delete}
use Rattle.sqlite.specs.Does.{Tally, Does, AtPlace, OnRows}
use Rattle.sqlite.specs.Edit.{Applies, edit_of, id_in}
use Rattle.sqlite.specs.Effect.{Database}
use Rattle.sqlite.specs.Listing.{understood}
use Rattle.sqlite.specs.Order.{Row}
use Rattle.sqlite.specs.Rowids.TheVariants.{Given}
use Rattle.sqlite.specs.Rows.{Written}
use Rattle.sqlite.specs.State.{State, mode_of}
use Rattle.sqlite.specs.Table.{Table}
use Rattle.sqlite.specs.Term.{col, holds}
use Rattle.sqlite.specs.Tree.{rowid}
use Rattle.sqlite_rules.proofs.ListLemmas.{test_has}
use Rattle.sqlite_rules.specs.Calls.{ids_of}
use Rattle.sqlite_schema.specs.declared.schema.Constraint.TheVariants.{Unique}
use Rattle.sqlite_schema.specs.declared.schema.Keys.TheVariants.{Enforced}
use Rattle.sqlite_trees.proofs.ListLemmas.{filter-map, map-map}

module _ {R : Type 0} (form : Form R) (known : IsKeyed form) (key : Row) (given : IsGivenAt 0 key key) (front : is_front form.layout.columns key ≡ true) (wide : length key ≡ key_width form.layout) where
  abbrev passes : Row → Bool
  passes r = list_all (holds (key ∷ r ∷ [])) (tests_of 0 form.layout.primary)

  -- what the edit of the DELETE is
  edits : (old new : State) → old.now.schema ≡ all_schema → RanInside (delete_text form.layout) key old new
      → (new.now.schema ≡ all_schema) × (ids : List ℤ) × IsPermutation (map (λ r. id_in (rowid r)) (filter passes (old.now.trees form.layout.tree))) ids
      × Applies all_schema Enforced old.now.trees (edit_of old.now.trees (table_of form.layout) ids Given 0 []) new.now.trees
  edits old new has ran =
      let db = old.now.trees in
      let test = tests_of 0 form.layout.primary in
      let command = Delete form.at (program (picked form.layout.tree test (col 1 0 ∷ []))) in
      let w = runs_as (delete_text form.layout) key old new all_schema has command known.deletes.is known.deletes.plain ran.0 ran.1 in
      let text = statement_of (delete_text form.layout) (understood all_schema (delete_text form.layout)) in
      let table = table_of form.layout in
      let end = Ok (w.tally, new.now) in
      let at_table = λ (o : Option Table). AtPlace (λ t. OnRows (record { limit = old.step_limit; keys = Enforced; schema = all_schema; table = t; params = key }) (mode_of old) None command db) o end in
      let done = went (subst at_table known.known.listed (subst (λ s. Does old.step_limit (mode_of old) key (record old.now { schema = s }) text None command end) has w.changed)) in
      let now = ap (λ (p : Tally × Database). p.1) (same_value (went (went done.2).2).2) in
      let found = went done.1 in
      let written = went found.2 in
      let trees : done.0.trees ≡ written.0 = ap (λ (it : Written). it.trees) (same_value written.2) in
      let it = one_step all_schema _ db written.0 (edit_of db table (ids_of found.0) Given 0 []) refl written.1 in
      let same = ap (λ (d : Database). d.trees) now ∙ trees in
      let rows = filter passes (db form.layout.tree) in
      let shown = picks form.layout.tree test (col 1 0 ∷ []) (record { schema = all_schema; trees = db }) key found.0 found.1 in
      let ids = subst (λ ids. IsPermutation ids (ids_of found.0)) (map-map (λ (r : Row). id_in (rowid r)) (λ (r : Row). rowid r ∷ []) rows) (IsPermutation-map (λ (r : Row). id_in (rowid r)) _ found.0 shown) in (
        ap (λ (d : Database). d.schema) now,
        ids_of found.0,
        ids,
        subst (λ next. Applies all_schema Enforced db (edit_of db table (ids_of found.0) Given 0 []) next) (sym same) it,
      )

  -- the rows that begin with the key are gone, and no other table differs
  pub delete_drops : (old new : State) → IsInside all_schema old → RanInside (delete_text form.layout) key old new
      → IsInside all_schema new × (cells form.layout new.now.trees ≡ filter (λ c. not (begin_with key c)) (cells form.layout old.now.trees)) × Spares form.layout.tree old.now.trees new.now.trees
  delete_drops old new inside ran =
      let all = edits old new inside.schema_is ran in
      let it = all.3 in
      let table = table_of form.layout in
      let rows = old.now.trees form.layout.tree in
      let had = kept_one old.now.trees all_schema.tables form.at table known.known.listed inside.kept.tables in
      let left : new.now.trees form.layout.tree ≡ filter (λ r. not (passes r)) rows = it.rows ∙ without_picked passes rows had.rowids had.own all.1 all.2 in
      let by_key : filter (λ r. not (passes r)) rows ≡ filter (λ r. not (begin_with key (columns_of form.layout r))) rows =
      filter_same (λ r. not (passes r)) (λ r. not (begin_with key (columns_of form.layout r))) rows (λ r has. ap not (finds form known key key given front wide r (test_has (λ row. is_whole form.layout.columns (columns_of form.layout row)) rows r had.whole has))) in
      let own : IsKept table rows → IsKept table (new.now.trees form.layout.tree) =
      λ was. subst (IsKept table) (sym left) (record {
        rowids = filter_all_true _ (λ r. not (passes r)) rows was.rowids;
        own = apart_filtered rowid (λ r. not (passes r)) rows was.own;
        whole = filter_all_true _ (λ r. not (passes r)) rows was.whole;
      }) in (
        record {
          is_open = ran.2.is_open;
          within = ran.2.mode;
          schema_is = all.0;
          kept = record {
            tables = still_kept old.now.trees new.now.trees table all_schema.tables form.at known.known.listed refl inside.kept.tables it.tables own;
            unique = it.fits.rules Unique (λ e. cc);
          };
        },
        ap (map (columns_of form.layout)) (left ∙ by_key) ∙ sym (filter-map (λ c. not (begin_with key c)) (columns_of form.layout) rows),
        it.tables,
      )
