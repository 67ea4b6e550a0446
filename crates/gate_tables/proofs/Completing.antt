-- A database that was brought to the last version holds what it held.
use Rattle.std.proofs.Common.{◌≡◌, List, [], map, IsTrue, sym, ap, subst, ◌∙◌}
use Rattle.std.specs.List.{AllByRecursion}
use Rattle.gate_tables.proofs.Committing.{ready_then}
use Rattle.gate_tables.proofs.Creating.{none_kept, same_kept}
use Rattle.gate_tables.proofs.Versions.{all_tables, both, version_again}
use Rattle.gate_tables.specs.Applied.{applied}
use Rattle.gate_tables.specs.Contents.{AreSame, rows_at}
use Rattle.gate_tables.specs.Database as database
use Rattle.gate_tables.specs.Database.{all_schema, columns_of}
use Rattle.gate_tables.specs.Effects.{Brings, Changes, Completes, IsBegun, IsInside, Taken}
use Rattle.gate_tables.specs.Forms as forms
use Rattle.gate_tables.specs.Forms.{Form}
use Rattle.gate_tables.specs.Kept.{AreKept, IsKept}
use Rattle.gate_tables.specs.Schemas.{missing_tables, rows_in_version, schema_of_version, stored_rows, version_of}
use Rattle.gate_tables.specs.declared.change.RowChange.{RowChange}
use Rattle.gate_tables.specs.declared.row.Rows.{Rows}
use Rattle.gate_tables.specs.declared.version.Version.{Version}
use Rattle.gate_tables.specs.declared.version.Version.TheVariants.{Version1, Version2}
use Rattle.sqlite.specs.Order.{Row}
use Rattle.sqlite.specs.Schema.{Schema}
use Rattle.sqlite.specs.State.{State}
use Rattle.sqlite.specs.Tree.{Trees}
use Rattle.sqlite_schema.specs.Rules.{Keeps}
use Rattle.sqlite_schema.specs.declared.schema.Constraint.TheVariants.{Unique}

module _ (old new : Trees) where
  -- the tables of a version are as they were, and those that it lacks have no rows
  abbrev pub AreTheSame : Version → Type 0
  AreTheSame version = AllByRecursion (λ t. new t.tree ≡ old t.tree) (schema_of_version version).tables

  abbrev pub AreBare : Version → Type 0
  AreBare version = AllByRecursion (λ t. new t.tree ≡ []) (missing_tables version)

  module _ (version : Version) (same : AreTheSame version) (none : AreBare version) where
    tables_kept : AllByRecursion (λ t. IsKept t (old t.tree)) (schema_of_version version).tables → AllByRecursion (λ t. IsKept t (new t.tree)) all_schema.tables
    tables_kept kept =
        subst (AllByRecursion (λ t. IsKept t (new t.tree))) (sym (all_tables version))
        (both (λ t. IsKept t (new t.tree)) (schema_of_version version).tables (missing_tables version)
        (same_kept old new (schema_of_version version).tables same kept) (none_kept new (missing_tables version) none))

    pub completed_kept : (schema : Schema) → schema ≡ schema_of_version version → AreKept schema old → Keeps Unique all_schema new → AreKept all_schema new
    completed_kept schema is kept unique = record { tables = tables_kept (subst (λ (s : Schema). AllByRecursion (λ t. IsKept t (old t.tree)) s.tables) is kept.tables); unique = unique }

  abbrev read : {R : Type 0} → Form R → List Row → List R
  read form stored = map form.read (map (columns_of form.layout) stored)

  rows_by : (version : Version) → AreTheSame version → AreBare version → rows_at new ≡ rows_in_version version (rows_at old)
  rows_by Version1 same none = λ i. record {
    desk = read forms.desk (same.0 i);
    people = read forms.people (same.1.0 i);
    changes = read forms.changes (same.1.1.0 i);
    marks = read forms.marks (same.1.1.1.0 i);
    batches = read forms.batches (same.1.1.1.1.0 i);
    members = read forms.members (same.1.1.1.1.1.0 i);
    statuses = read forms.statuses (same.1.1.1.1.1.1.0 i);
    wanted = read forms.wanted (none.0 i);
  }
  rows_by Version2 same none = λ i. record {
    desk = read forms.desk (same.0 i);
    people = read forms.people (same.1.0 i);
    changes = read forms.changes (same.1.1.0 i);
    marks = read forms.marks (same.1.1.1.0 i);
    batches = read forms.batches (same.1.1.1.1.0 i);
    members = read forms.members (same.1.1.1.1.1.0 i);
    statuses = read forms.statuses (same.1.1.1.1.1.1.0 i);
    wanted = read forms.wanted (same.1.1.1.1.1.1.1.1.0 i);
  }

  pub completed_rows : (schema : Schema) (version : Version) → schema ≡ schema_of_version version → AreTheSame version → AreBare version → rows_at new ≡ stored_rows (record { schema = schema; trees = old })
  completed_rows schema version is same none =
      let found : version ≡ version_of schema = sym (ap version_of is ∙ version_again version) in
      rows_by version same none ∙ ap (λ (v : Version). rows_in_version v (rows_at old)) found

  pub completed_answers : (version : Version) → AreTheSame version → new database.answers.tree ≡ old database.answers.tree
  completed_answers Version1 same = same.1.1.1.1.1.1.1.0
  completed_answers Version2 same = same.1.1.1.1.1.1.1.0

-- an open transaction in which that was done
pub completed_inside : (version : Version) (old new : State) → IsBegun version old → Completes version old new → new.now.schema ≡ all_schema → IsTrue new.is_open → AreKept old.now.schema old.now.trees
    → IsInside all_schema new
completed_inside version old new begun completes all is_open kept = record {
  is_open = is_open;
  within = completes.within;
  schema_is = all;
  kept = completed_kept old.now.trees new.now.trees version completes.others completes.none old.now.schema begun.schema_is kept
      (subst (λ (s : Schema). Keeps Unique s new.now.trees) all (completes.sound.obeys.rules Unique));
}

pub brings : (version : Version) (changes : List RowChange) (old mid new : State) → IsBegun version old → Completes version old mid → Changes changes mid.now.trees new.now.trees → Brings changes old.now new.now
brings version changes old mid new begun completes changed = record {
  rows_are = subst (λ (rows : Rows). AreSame (rows_at new.now.trees) (applied changes rows)) (completed_rows old.now.trees mid.now.trees old.now.schema version begun.schema_is completes.others completes.none) changed.rows_are;
  answers = changed.answers ∙ completed_answers old.now.trees mid.now.trees version completes.others;
}

-- and what a commit makes of it
pub taken : (changes : List RowChange) (old done new : State) → IsInside all_schema done → Brings changes old.now done.now → new.now ≡ done.now → new.committed ≡ done.now → Taken changes old new
taken changes old done new inside brought now committed = record {
  ready = ready_then done new inside now committed;
  brought = subst (Brings changes old.now) (sym now) brought;
}
