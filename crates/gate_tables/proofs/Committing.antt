-- What a commit makes of row changes and an answer.
use Rattle.std.proofs.Common.{◌≡◌, ℕ, List, map, IsTrue, IsPermutation, ◌∷◌, true, arith, refl, sym, ap, subst, subst₂, ◌∙◌}
use Rattle.gate_tables.specs.Applied.{applied}
use Rattle.gate_tables.specs.Contents.{AreSame, rows_at}
use Rattle.gate_tables.specs.Database as database
use Rattle.gate_tables.specs.Database.{all_schema, cells, columns_of}
use Rattle.gate_tables.specs.Effects.{Adds, Applied, Changes, IsInside, IsReady, Spares}
use Rattle.gate_tables.specs.Forms as forms
use Rattle.gate_tables.specs.Forms.{Form, rows_of}
use Rattle.gate_tables.specs.Kept.{AreKept}
use Rattle.gate_tables.specs.declared.change.RowChange.{RowChange}
use Rattle.gate_tables.specs.declared.row.Rows.{Rows}
use Rattle.sqlite.specs.Effect.{Database}
use Rattle.sqlite.specs.Held.{Held, state}
use Rattle.sqlite.specs.Order.{Row}
use Rattle.sqlite.specs.State.{State}
use Rattle.sqlite.specs.Store.{Ghosts}
use Rattle.sqlite.specs.Tree.{Trees}

-- a database that was written in a transaction is ready once that is committed
pub ready_then : (done new : State) → IsInside all_schema done → new.now ≡ done.now → new.committed ≡ done.now → IsReady new
ready_then done new inside now committed = record {
  schema_is = ap (λ (db : Database). db.schema) now ∙ inside.schema_is;
  settled = now ∙ sym committed;
  kept = subst (λ (db : Database). AreKept all_schema db.trees) (sym now) inside.kept;
}

row_spared : {R : Type 0} (form : Form R) (old new : Trees) (rows : List R) → new form.layout.tree ≡ old form.layout.tree → IsPermutation (rows_of form old) rows → IsPermutation (rows_of form new) rows
row_spared form old new rows same had = subst (λ stored. IsPermutation (map form.read (map (columns_of form.layout) stored)) rows) (sym same) had

-- an answer more leaves all rows
rows_spared : (old new : Trees) (rows : Rows) → Spares database.answers.tree old new → AreSame (rows_at old) rows → AreSame (rows_at new) rows
rows_spared old new rows spared same = record {
  desk = row_spared forms.desk old new rows.desk (spared.0 (omega arith)) same.desk;
  people = row_spared forms.people old new rows.people (spared.1.0 (omega arith)) same.people;
  changes = row_spared forms.changes old new rows.changes (spared.1.1.0 (omega arith)) same.changes;
  marks = row_spared forms.marks old new rows.marks (spared.1.1.1.0 (omega arith)) same.marks;
  batches = row_spared forms.batches old new rows.batches (spared.1.1.1.1.0 (omega arith)) same.batches;
  members = row_spared forms.members old new rows.members (spared.1.1.1.1.1.0 (omega arith)) same.members;
  statuses = row_spared forms.statuses old new rows.statuses (spared.1.1.1.1.1.1.0 (omega arith)) same.statuses;
  wanted = row_spared forms.wanted old new rows.wanted (spared.1.1.1.1.1.1.1.1.0 (omega arith)) same.wanted;
}

module _ {S : Type 0} (g : Ghosts S) (old begun : Held S) (is : begun ≡ record old { in_transaction = true }) where
  begun_inside : IsReady (state g old) → IsTrue (state g begun).is_open → IsInside all_schema (state g begun)
  begun_inside ready is_open = record {
    is_open = is_open;
    within = subst (λ h. IsTrue (state g h).in_transaction) (sym is) refl;
    schema_is = subst (λ h. (state g h).now.schema ≡ all_schema) (sym is) ready.schema_is;
    kept = subst (λ h. AreKept all_schema (state g h).now.trees) (sym is) ready.kept;
  }

  pub commits : (changed added new : State) (changes : List RowChange) (id body : List ℕ) → IsReady (state g old) → IsTrue (state g begun).is_open
      → (IsInside all_schema (state g begun) → IsInside all_schema changed × Changes changes (state g begun).now.trees changed.now.trees)
      → (IsInside all_schema changed → IsInside all_schema added × Adds forms.answers (id, body) changed.now.trees added.now.trees)
      → new.now ≡ added.now → new.committed ≡ added.now → Applied changes id body (state g old) new
  commits changed added new changes id body ready is_open change add now committed =
      let first = change (begun_inside ready is_open) in
      let second = add first.0 in
      let same : (state g begun).now ≡ (state g old).now = ap (λ h. (state g h).now) is in
      subst (λ (db : Database). Applied changes id body (record (state g old) { now = db }) new) same (record {
        ready = ready_then added new second.0 now committed;
        rows_are = subst (λ (db : Database). AreSame (rows_at db.trees) (applied changes (rows_at (state g begun).now.trees))) (sym now) (rows_spared changed.now.trees added.now.trees (applied changes (rows_at (state g begun).now.trees)) second.1.others first.1.rows_are);
        added = subst₂ (λ (before : List Row) (db : Database). IsPermutation (forms.answers.values (id, body) ∷ map (columns_of database.answers) before) (cells database.answers db.trees)) first.1.answers (sym now) second.1.added;
      })
