-- What is read of a database of any version is what it holds, and its tables keep what tables keep.
use Rattle.std.proofs.Common.{◌≡◌, true, List, [], ◌∷◌, map, IsPermutation, refl, sym, ap, subst, ◌∙◌}
use Rattle.std.specs.List.{AllByRecursion}
use Rattle.gate_tables.proofs.Completing.{AreBare, AreTheSame, completed_answers, completed_rows}
use Rattle.gate_tables.proofs.Conforming.{are_strict, kept_by}
use Rattle.gate_tables.proofs.Versions.{of_version}
use Rattle.gate_tables.specs.Contents.{AreSame, rows_at}
use Rattle.gate_tables.specs.Database as database
use Rattle.gate_tables.specs.Database.{all_schema, columns_of}
use Rattle.gate_tables.specs.Effects.{IsBegun, ReadsContents, ShowsAll}
use Rattle.gate_tables.specs.Forms as forms
use Rattle.gate_tables.specs.Kept.{HaveOwn}
use Rattle.gate_tables.specs.Schemas.{HasTables, schema_of_version, version_of}
use Rattle.gate_tables.specs.declared.look.Contents.{Contents}
use Rattle.gate_tables.specs.declared.row.Rows.{Rows}
use Rattle.gate_tables.specs.declared.version.Version.{Version}
use Rattle.sqlite.specs.Effect.{IsDatabase}
use Rattle.sqlite.specs.Held.{Held, state}
use Rattle.sqlite.specs.Order.{Row}
use Rattle.sqlite.specs.Schema.{Schema}
use Rattle.sqlite.specs.State.{IsLive}
use Rattle.sqlite.specs.Store.{Ghosts}
use Rattle.sqlite.specs.Table.{Table}
use Rattle.sqlite.specs.Tree.{Trees}
use Rattle.sqlite_schema.specs.declared.schema.Constraint.TheVariants.{Datatype, NotNull, Unique}

-- the columns of the tables are strict
strict : AllByRecursion (λ t. are_strict t.key 0 t.columns ≡ true) all_schema.tables
strict = (refl, (refl, (refl, (refl, (refl, (refl, (refl, (refl, (refl, tt)))))))))

-- tables whose rows are the same have the same rowids
own_same : (old new : Trees) (tables : List Table) → AllByRecursion (λ t. new t.tree ≡ old t.tree) tables → AllByRecursion (λ t. HaveOwn 0 (new t.tree)) tables → AllByRecursion (λ t. HaveOwn 0 (old t.tree)) tables
own_same old new [] same own = tt
own_same old new (t ∷ ts) same own = (subst (HaveOwn 0) same.0 own.0, own_same old new ts same.1 own.1)

module _ (db : Trees) (contents : Contents) (reads : ReadsContents db contents) where
  own_read : AllByRecursion (λ t. HaveOwn 0 (db t.tree)) all_schema.tables
  own_read =
      let first = reads.rows.first in
      let last = reads.rows.last in
      (first.desk.rowids, (first.people.rowids, (first.changes.rowids, (first.marks.rowids, (last.batches.rowids, (last.members.rowids, (last.statuses.rowids, (reads.answers.rowids, (last.wanted.rowids, tt)))))))))

  rows_read : AreSame (rows_at db) contents.rows
  rows_read = record {
    desk = reads.rows.first.desk.same;
    people = reads.rows.first.people.same;
    changes = reads.rows.first.changes.same;
    marks = reads.rows.first.marks.same;
    batches = reads.rows.last.batches.same;
    members = reads.rows.last.members.same;
    statuses = reads.rows.last.statuses.same;
    wanted = reads.rows.last.wanted.same;
  }

module _ (old new : Trees) (contents : Contents) (reads : ReadsContents new contents) where
  pub shows : (schema : Schema) (version : Version) → schema ≡ schema_of_version version → IsDatabase (record { schema = schema; trees = old }) → AreTheSame old new version → AreBare old new version
      → ShowsAll (record { schema = schema; trees = old }) contents
  shows schema version is sound same none =
      let own = own_same old new (schema_of_version version).tables same (of_version (λ t. HaveOwn 0 (new t.tree)) version (own_read new contents reads)) in
      record {
        kept = record {
          tables = kept_by old schema schema.tables
              (subst (λ (s : Schema). AllByRecursion (λ t. are_strict t.key 0 t.columns ≡ true) s.tables) (sym is) (of_version (λ t. are_strict t.key 0 t.columns ≡ true) version strict))
              (subst (λ (s : Schema). AllByRecursion (λ t. HaveOwn 0 (old t.tree)) s.tables) (sym is) own) (sound.obeys.rules Datatype) (sound.obeys.rules NotNull);
          unique = sound.obeys.rules Unique;
        };
        rows = subst (λ (rows : Rows). AreSame rows contents.rows) (completed_rows old new schema version is same none) (rows_read new contents reads);
        answers = subst (λ (stored : List Row). IsPermutation (map forms.answers.read (map (columns_of database.answers) stored)) contents.answers) (completed_answers old new version same) reads.answers.same;
      }

-- a transaction that was begun shows what the connection did
module _ {S : Type 0} (g : Ghosts S) (old begun : Held S) (is : begun ≡ record old { in_transaction = true }) where
  pub begun_same : (state g begun).now ≡ (state g old).now
  begun_same = ap (λ (h : Held S). (state g h).now) is

  pub has_begun : (version : Version) → version ≡ version_of (state g old).now.schema → HasTables (state g old).now → IsLive (state g old) → IsBegun version (state g begun)
  has_begun version found has live = subst (λ (h : Held S). IsBegun version (state g h)) (sym is) (record {
    within = refl;
    schema_is = has ∙ ap schema_of_version (sym found);
    sound = λ is_open. (live is_open).0;
  })
