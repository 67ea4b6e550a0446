-- THE VERSIONS OF THE SCHEMA: which tables each has, which rows a database of it has, and what is found in a database.
use Rattle.std.specs.Prelude.{◌≡◌, ◌≢◌, ◌==◌, ℕ, List, [], length, map, take, drop, if◌then◌else◌}
use Rattle.gate_tables.specs.Contents.{rows_at}
use Rattle.gate_tables.specs.Database.{all_layouts, schema_of, table_of}
use Rattle.gate_tables.specs.declared.found.Found.{Found}
use Rattle.gate_tables.specs.declared.found.Found.TheVariants.{Nothing, Tables, Others}
use Rattle.gate_tables.specs.declared.row.Rows.{Rows}
use Rattle.gate_tables.specs.declared.version.Version.{Version}
use Rattle.gate_tables.specs.declared.version.Version.TheVariants.{Version1, Version2}
use Rattle.sqlite.specs.Effect.{Database}
use Rattle.sqlite.specs.Schema.{Schema}
use Rattle.sqlite.specs.Table.{Table}

-- how many tables a version has, which are the first of all
abbrev pub table_count : Version → ℕ
table_count Version1 = 8
table_count Version2 = 9

abbrev pub schema_of_version : Version → Schema
schema_of_version version = schema_of (take (table_count version) all_layouts)

-- the tables that a version lacks
abbrev pub missing_tables : Version → List Table
missing_tables version = map table_of (drop (table_count version) all_layouts)

-- the version of a schema, if it is that of one
abbrev pub version_of : Schema → Version
version_of schema = if length schema.tables == table_count Version1 then Version1 else Version2

-- the rows that are there in a version: of a table that it lacks there is none
abbrev pub rows_in_version : Version → Rows → Rows
rows_in_version Version1 rows = record rows { wanted = [] }
rows_in_version Version2 rows = rows

-- what was found is what the schema has
abbrev pub IsFound : Found → Schema → Type 0
IsFound Nothing schema = schema ≡ schema_of []
IsFound (Tables version) schema = schema ≡ schema_of_version version
IsFound Others schema = (schema ≢ schema_of []) × ((version : Version) → schema ≢ schema_of_version version)

-- a database has the tables of a version
abbrev pub HasTables : Database → Type 0
HasTables db = db.schema ≡ schema_of_version (version_of db.schema)

-- and these rows
abbrev pub stored_rows : Database → Rows
stored_rows db = rows_in_version (version_of db.schema) (rows_at db.trees)
