-- An array of a settings text: its items as a list, and a loop that reads them one by one.
use Rattle.std.proofs.Common.{◌≡◌, ℕ, List, [], ◌∷◌, ◌++◌, map, Option, Some, None, refl, sym, ap}
use Rattle.std.specs.Option.{option_map}
use Rattle.toml.specs.Data.{Data, string, integer, float, boolean, datetime, array, table, as_array}
use Rattle.toml.specs.View.{view, items_view}
use Rattle.toml.specs.declared.value.Value.{Value}
use Rattle.gate_text.specs.Settings.{listed, plain_in}

pub array_is : (value : Data) (values : List Value) → Some (items_view values) ≡ as_array value → value ≡ array (items_view values)
array_is (string s) values is = cc is
array_is (integer z) values is = cc is
array_is (float x) values is = cc is
array_is (boolean b) values is = cc is
array_is (datetime d) values is = cc is
array_is (array items) values is = let same : items_view values ≡ items = cc is in ap array (sym same)
array_is (table entries) values is = cc is

pub listed-view : (values : List Value) → listed (items_view values) ≡ map view values
listed-view [] = refl
listed-view (value ∷ values) = ap (λ (rest : List Data). view value ∷ rest) (listed-view values)

-- the name or label that a value is
abbrev pub plain_at : Value → Option (List ℕ)
plain_at value = plain_in (view value)

pub plain_values : (values : List Value) → map plain_at values ≡ map plain_in (map view values)
plain_values [] = refl
plain_values (value ∷ values) = ap (λ (rest : List (Option (List ℕ))). plain_at value ∷ rest) (plain_values values)

-- behind nothing, the rest is the whole
pub behind_nothing : (read : Option (List (List ℕ))) → option_map (λ texts. [] ++ texts) read ≡ read
behind_nothing None = refl
behind_nothing (Some texts) = refl
