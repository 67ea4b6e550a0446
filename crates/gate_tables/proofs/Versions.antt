-- The versions of the schema: all tables are those of a version and those that it lacks.
use Rattle.std.proofs.Common.{◌≡◌, List, [], ◌∷◌, ◌++◌, refl, subst}
use Rattle.std.specs.List.{AllByRecursion}
use Rattle.gate_tables.specs.Database.{all_schema}
use Rattle.gate_tables.specs.Schemas.{missing_tables, schema_of_version, version_of}
use Rattle.gate_tables.specs.declared.version.Version.{Version}
use Rattle.gate_tables.specs.declared.version.Version.TheVariants.{Version1, Version2}
use Rattle.sqlite.specs.Table.{Table}

pub version_again : (version : Version) → version_of (schema_of_version version) ≡ version
version_again Version1 = refl
version_again Version2 = refl

pub all_tables : (version : Version) → all_schema.tables ≡ (schema_of_version version).tables ++ missing_tables version
all_tables Version1 = refl
all_tables Version2 = refl

module _ (P : Table → Type 0) where
  pub both : (xs ys : List Table) → AllByRecursion P xs → AllByRecursion P ys → AllByRecursion P (xs ++ ys)
  both [] ys these those = those
  both (x ∷ xs) ys these those = (these.0, both xs ys these.1 those)

  front : (xs ys : List Table) → AllByRecursion P (xs ++ ys) → AllByRecursion P xs
  front [] ys all = tt
  front (x ∷ xs) ys all = (all.0, front xs ys all.1)

  -- what is so of all tables is so of those of a version
  pub of_version : (version : Version) → AllByRecursion P all_schema.tables → AllByRecursion P (schema_of_version version).tables
  of_version version all = front (schema_of_version version).tables (missing_tables version) (subst (AllByRecursion P) (all_tables version) all)
