-- WHICH SCHEMAS ARE COMPARED: a plain one is told to be the same as another. For private clauses.
use Rattle.std.specs.Prelude.{Bool, true, false, ◌&&◌, List, [], ◌∷◌}
use Rattle.std.specs.List.{list_all}
use Rattle.sqlite.specs.Schema.{Schema}
use Rattle.sqlite.specs.Table.{Table}
use Rattle.sqlite.specs.declared.types.Value.{Value}
use Rattle.sqlite.specs.declared.types.Value.TheVariants.{Null}
use Rattle.sqlite_schema.specs.declared.schema.Column.{Column}

abbrev pub is_none : {A : Type 0} → List A → Bool
is_none [] = true
is_none (x ∷ xs) = false

abbrev pub is_null : Value → Bool
is_null Null = true
is_null _ = false

-- a column with no default
abbrev pub is_plain_column : Column → Bool
is_plain_column column = is_null column.default

-- a table with no rule over its rows but keys
abbrev pub is_plain_table : Table → Bool
is_plain_table table = list_all is_plain_column table.columns && is_none table.checks && is_none table.references && is_none table.stamps.terms

abbrev pub is_plain_schema : Schema → Bool
is_plain_schema schema = list_all is_plain_table schema.tables && is_none schema.views
