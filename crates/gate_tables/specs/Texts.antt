-- THE TEXTS that change and delete the row of a key. Their parameters are the columns in order, of which the first are the key.
use Rattle.std.specs.Prelude.{ℕ, suc, ◌+◌, List, [], ◌∷◌, ◌++◌, length, take, drop, codes}
use Rattle.gate_tables.specs.Database.{Layout}
use Rattle.sqlite_schema.specs.declared.schema.Column.{Column}

-- how many columns are the key
abbrev pub key_width : Layout → ℕ
key_width layout = length layout.primary

-- each column with its parameter, as `role = ?2`, and a text between two
abbrev pub assigned : List ℕ → ℕ → List Column → List ℕ
assigned between at [] = []
assigned between at (c ∷ []) = c.name ++ codes " = ?" ++ (48 + at) ∷ []
assigned between at (c ∷ d ∷ more) = c.name ++ codes " = ?" ++ (48 + at) ∷ between ++ assigned between (suc at) (d ∷ more)

abbrev pub where_key : Layout → List ℕ
where_key layout = codes " WHERE " ++ assigned (codes " AND ") 1 (take (key_width layout) layout.columns)

abbrev pub delete_text : Layout → List ℕ
delete_text layout = codes "DELETE FROM " ++ layout.name ++ where_key layout

abbrev pub update_text : Layout → List ℕ
update_text layout = codes "UPDATE " ++ layout.name ++ codes " SET " ++ assigned (codes ", ") (suc (key_width layout)) (drop (key_width layout) layout.columns) ++ where_key layout
