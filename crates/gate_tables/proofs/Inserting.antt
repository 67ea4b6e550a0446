-- What an INSERT of one row makes of the tables.
use Rattle.std.proofs.Common.{◌≡◌, ◌⊎◌, inl, inr, List, [], ◌∷◌, map, length, Option, None, Ok, Err, Result, IsPermutation, refl, sym, ap, subst, subst₂, ◌∙◌, append-nil, ◌/◌}
use Rattle.std.proofs.lemmas.Bool.{and_from}
use Rattle.std.proofs.lemmas.List.Sorted.{IsPermutation-map}
use Rattle.gate_tables.proofs.Placing.{put_adds, put_keyed, fresh_one, still_kept, all_moved}
use Rattle.gate_tables.proofs.Taking.{put_own}
use Rattle.gate_tables.specs.Database.{all_schema, table_of, columns_of, cells}
use Rattle.gate_tables.specs.Effects.{RanInside, IsInside, Adds}
use Rattle.gate_tables.specs.Forms.{Form}
use Rattle.gate_tables.specs.Kept.{IsKept, is_whole}
use Rattle.gate_tables.specs.Known.{IsKnown}
use Rattle.sqlite.proofs.Callers.{statement_of, runs_as, one_step}
use Rattle.sqlite.specs.Cast.{cast_row}
use Rattle.sqlite.specs.Command.TheVariants.{Insert}
use Rattle.sqlite.specs.Does.{Tally, Does, AtPlace, OnRows}
use Rattle.sqlite.specs.Listing.{understood}
use Rattle.sqlite.specs.Edit.{edit_of, with_rowid, Applies}
use Rattle.sqlite.specs.Effect.{Database, value_rows}
use Rattle.sqlite.specs.Order.{Row}
use Rattle.sqlite.specs.Rowids.TheVariants.{Chosen}
use Rattle.sqlite.specs.Rows.{Written}
use Rattle.sqlite.specs.Source.TheVariants.{Values}
use Rattle.sqlite.specs.State.{State, mode_of}
use Rattle.sqlite.specs.Table.{Table}
use Rattle.sqlite.specs.Term.{eval_all}
use Rattle.sqlite.specs.Tree.{put_row}
use Rattle.sqlite_schema.specs.declared.schema.Constraint.TheVariants.{Unique}
use Rattle.sqlite_schema.specs.declared.schema.Keys.TheVariants.{Enforced}

-- a part that gave a value did not stop on the way
pub went : {B E R : Type 0} {b : B} {Stops : E → Type 0} → ((stop : E) × Stops stop × (Ok b ≡ Err stop)) ⊎ R → R
went (inl stopped) = absurd (let e = stopped.2 in cc)
went (inr on) = on

pub same_value : {B E : Type 0} {a b : B} → ◌≡◌ {A = Result B E} (Ok a) (Ok b) → a ≡ b
same_value e = cc

module _ {R : Type 0} (form : Form R) (known : IsKnown form) (r : R) where
  abbrev stored : List Row → Row
  stored rows = with_rowid Chosen rows (cast_row (table_of form.layout) (eval_all known.inserts.terms (form.values r ∷ [])))

  -- what the edit of an INSERT is
  edits : (old new : State) → old.now.schema ≡ all_schema → RanInside form.insert (form.values r) old new
      → (new.now.schema ≡ all_schema) × Applies all_schema Enforced old.now.trees (edit_of old.now.trees (table_of form.layout) [] Chosen 0 (eval_all known.inserts.terms (form.values r ∷ []) ∷ [])) new.now.trees
  edits old new has ran =
      let params = form.values r in
      let db = old.now.trees in
      let command = Insert form.at (Values known.inserts.terms known.inserts.width) in
      let w = runs_as form.insert params old new all_schema has command known.inserts.is known.inserts.plain ran.0 ran.1 in
      let text = statement_of form.insert (understood all_schema form.insert) in
      let table = table_of form.layout in
      let end = Ok (w.tally, new.now) in
      let at_table = λ (o : Option Table). AtPlace (λ t. OnRows (record { limit = old.step_limit; keys = Enforced; schema = all_schema; table = t; params = params }) (mode_of old) None command db) o end in
      let done = went (subst at_table known.listed (subst (λ s. Does old.step_limit (mode_of old) params (record old.now { schema = s }) text None command end) has w.changed)) in
      let now = ap (λ (p : Tally × Database). p.1) (same_value (went (went done.2).2).2) in
      let given = went done.1 in
      let written = went (went given.2).2 in
      let counted = went written.2 in
      let trees : done.0.trees ≡ written.0 = ap (λ (it : Written). it.trees) (same_value counted.2) ∙ same_value counted.1 in
      let applied = one_step all_schema _ db written.0 (edit_of db table [] Chosen 0 given.0) refl written.1 in
      let one = given.1.1 ∙ ap (λ (ps : Row). value_rows ps known.inserts.width (length known.inserts.terms / known.inserts.width) known.inserts.terms) (append-nil params) ∙ known.inserts.one params in
      let same = ap (λ (d : Database). d.trees) now ∙ trees in (
        ap (λ (d : Database). d.schema) now,
        subst₂ (λ rows next. Applies all_schema Enforced db (edit_of db table [] Chosen 0 rows) next) one (sym same) applied,
      )

  -- the row is added, and no other table differs
  pub insert_adds : (old new : State) → IsInside all_schema old → RanInside form.insert (form.values r) old new → IsInside all_schema new × Adds form r old.now.trees new.now.trees
  insert_adds old new inside ran =
      let both = edits old new inside.schema_is ran in
      let it = both.1 in
      let rows = old.now.trees form.layout.tree in
      let one = stored rows in
      let placed : new.now.trees form.layout.tree ≡ put_row one rows = it.rows in
      let added = put_adds one rows (fresh_one rows one it.fresh) in
      let same : columns_of form.layout one ≡ form.values r = known.inserts.stored r rows in
      let cells_are : map (columns_of form.layout) (put_row one rows) ≡ cells form.layout new.now.trees = ap (map (columns_of form.layout)) (sym placed) in
      let moved = IsPermutation-map (columns_of form.layout) (one ∷ rows) (put_row one rows) added in
      let own : IsKept (table_of form.layout) rows → IsKept (table_of form.layout) (new.now.trees form.layout.tree) =
      λ had. subst (IsKept (table_of form.layout)) (sym placed) (record {
        rowids = put_keyed one rows it.keyed had.rowids;
        own = put_own one rows (fresh_one rows one it.fresh) had.own;
        whole = all_moved (λ row. is_whole form.layout.columns (columns_of form.layout row)) (one ∷ rows) (put_row one rows) added (and_from _ _ (ap (is_whole form.layout.columns) same ∙ known.wholes r) had.whole);
      }) in (
        record {
          is_open = ran.2.is_open;
          within = ran.2.mode;
          schema_is = both.0;
          kept = record {
            tables = still_kept old.now.trees new.now.trees (table_of form.layout) all_schema.tables form.at known.listed refl inside.kept.tables it.tables own;
            unique = it.fits.rules Unique (λ e. cc);
          };
        },
        record {
          added = subst₂ (λ c cs. IsPermutation (c ∷ cells form.layout old.now.trees) cs) same cells_are moved;
          others = it.tables;
        },
      )
