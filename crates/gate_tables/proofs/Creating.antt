-- What a CREATE TABLE makes of the tables.
use Rattle.std.proofs.Common.{◌≡◌, ℕ, List, [], ◌∷◌, ◌++◌, false, None, refl, sym, ap, subst, ◌∙◌}
use Rattle.std.specs.List.{AllByRecursion}
use Rattle.gate_tables.proofs.Inserting.{went, same_value}
use Rattle.gate_tables.specs.Database.{Layout, table_of}
use Rattle.gate_tables.specs.Effects.{Grows, IsBare, RanInside}
use Rattle.gate_tables.specs.Kept.{IsKept}
use Rattle.gate_tables.specs.Known.{Creates}
use Rattle.sqlite.proofs.Callers.{runs_as}
use Rattle.sqlite.specs.Change.{created, next_tree}
use Rattle.sqlite.specs.Command.TheVariants.{CreateTable}
use Rattle.sqlite.specs.Does.{Tally, lacks_sequence}
use Rattle.sqlite.specs.Effect.{Database}
use Rattle.sqlite.specs.Schema.{Schema}
use Rattle.sqlite.specs.State.{State, Writes}
use Rattle.sqlite.specs.Table.{Table}
use Rattle.sqlite.specs.Tree.{Trees}
use Rattle.sqlite_schema.specs.Rules.{Keeps}
use Rattle.sqlite_schema.specs.declared.schema.Constraint.TheVariants.{Unique}

-- tables without rows, and one more
still_none : (old new : Trees) (tables : List Table) (t : Table) → AllByRecursion (λ t. old t.tree ≡ []) tables → AllByRecursion (λ t. new t.tree ≡ old t.tree) tables → new t.tree ≡ []
    → AllByRecursion (λ t. new t.tree ≡ []) (tables ++ t ∷ [])
still_none old new [] t had same none = (none, tt)
still_none old new (x ∷ xs) t had same none = (same.0 ∙ had.0, still_none old new xs t had.1 same.1 none)

-- a table without rows keeps what rows keep
pub none_kept : (db : Trees) (tables : List Table) → AllByRecursion (λ t. db t.tree ≡ []) tables → AllByRecursion (λ t. IsKept t (db t.tree)) tables
none_kept db [] none = tt
none_kept db (t ∷ ts) none = (subst (IsKept t) (sym none.0) (record { rowids = refl; own = tt; whole = refl }), none_kept db ts none.1)

-- the tables that were there keep what they kept, since their rows are the same
pub same_kept : (old new : Trees) (tables : List Table) → AllByRecursion (λ t. new t.tree ≡ old t.tree) tables → AllByRecursion (λ t. IsKept t (old t.tree)) tables → AllByRecursion (λ t. IsKept t (new t.tree)) tables
same_kept old new [] same kept = tt
same_kept old new (t ∷ ts) same kept = (subst (IsKept t) (sym same.0) kept.0, same_kept old new ts same.1 kept.1)

module _ (front : Schema) (layout : Layout) (after : Schema) (sql : List ℕ) (known : Creates front layout after sql) where
  pub grows : (old new : State) → old.now.schema ≡ front → RanInside sql [] old new → Grows front layout after old new
  grows old new has ran =
      let count = ran.0 in
      let w = subst (λ t. Writes old new None CreateTable t [] count) known.whole (runs_as sql [] old new front has CreateTable known.is known.plain count ran.1) in
      let all = went w.changed in
      let first = went all.1 in
      let made = first.1 in
      let both = sym made.defined ∙ known.defined in
      let same : made.table ≡ record (table_of layout) { tree = 0 } = same_value both in
      let schema : first.0.schema ≡ after = made.is ∙ ap (λ s. created s made.table) has ∙ ap (created front) same ∙ known.made in
      let plain : lacks_sequence first.0.schema ≡ false = ap lacks_sequence schema ∙ known.uncounted in
      let now : new.now ≡ first.0 = ap (λ (p : Tally × Database). p.1) (same_value all.2) ∙ same_value (rw plain at first.2) in
      record {
        is_open = ran.2.is_open;
        within = ran.2.mode;
        schema_is = ap (λ (d : Database). d.schema) now ∙ schema;
        sound = w.sound;
        others = subst (λ (s : Schema). AllByRecursion (λ t. new.now.trees t.tree ≡ old.now.trees t.tree) s.tables) has
            (subst (λ (d : Database). AllByRecursion (λ t. d.trees t.tree ≡ old.now.trees t.tree) old.now.schema.tables) (sym now) made.others);
        none = ap (λ (d : Database). d.trees layout.tree) now ∙ subst (λ n. first.0.trees n ≡ []) (ap next_tree has ∙ known.next) made.empty;
      }

  -- there is one table more, and none has rows
  pub creates : (old new : State) → IsBare front old → RanInside sql [] old new → IsBare after new
  creates old new bare ran =
      let grown = grows old new bare.inside.schema_is ran in
      let none = subst (AllByRecursion (λ t. new.now.trees t.tree ≡ [])) (sym known.tables) (still_none old.now.trees new.now.trees front.tables (table_of layout) bare.none grown.others grown.none) in
      record {
        inside = record {
          is_open = grown.is_open;
          within = grown.within;
          schema_is = grown.schema_is;
          kept = record {
            tables = none_kept new.now.trees after.tables none;
            unique = subst (λ s. Keeps Unique s new.now.trees) grown.schema_is (grown.sound.obeys.rules Unique);
          };
        };
        none = none;
      }
