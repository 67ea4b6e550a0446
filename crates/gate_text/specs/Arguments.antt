-- THE ARGUMENTS OF COMMANDS: a number, and a list of names.
use Rattle.std.specs.Prelude.{ℕ, ℤ, pos, neg_ℤ, ◌==◌, Bool, ◌&&◌, List, [], ◌∷◌, ◌++◌, length, take, drop, map, Option, Some, None, codes, if◌then◌else◌}
use Rattle.std.specs.Char.{is_ascii_digit}
use Rattle.std.specs.Int.{is_in_range}
use Rattle.std.specs.List.{fold, list_all, list_any, slice_split}
use Rattle.std.specs.Option.{option_map, option_and_then}
use Rattle.std.specs.Result.{result_ok}
use Rattle.std.specs.Str.{bytes_eq}
use Rattle.std.specs.Str.Parse.{digits_value}
use Rattle.gate_text.specs.SmallTexts.{name_of}
use Rattle.gate_text.specs.Spaces.{trim}

abbrev pub begins_with : List ℕ → List ℕ → Bool
begins_with prefix text = bytes_eq (take (length prefix) text) prefix

-- A NUMBER is an optional `-` and one to four decimal digits.
abbrev pub is_magnitude : List ℕ → Bool
is_magnitude digits = is_in_range 1 4 (length digits) && list_all is_ascii_digit digits

abbrev pub magnitude_of : List ℕ → Option ℕ
magnitude_of digits = if is_magnitude digits then Some (digits_value 10 digits) else None

abbrev pub number_of : List ℕ → Option ℤ
number_of text =
    if begins_with (codes "-") text then option_map (λ n. neg_ℤ (pos n)) (magnitude_of (drop 1 text))
    else option_map pos (magnitude_of text)

-- A LIST is split at its commas. Each item is a name, with spaces at either end; a later repeat of a name is dropped.
abbrev pub items_of : List ℕ → List (List ℕ)
items_of list = slice_split (λ b. b == 44) list

abbrev pub name_in : List ℕ → Option (List ℕ)
name_in item = result_ok (name_of (trim item))

-- all values, if each is there
abbrev pub all_of : {X : Type 0} → List (Option X) → Option (List X)
all_of [] = Some []
all_of (value ∷ values) = option_and_then (λ first. option_map (λ others. first ∷ others) (all_of values)) value

-- a list with one more item, unless it has it
abbrev pub with_item : {X : Type 0} → (X → X → Bool) → List X → X → List X
with_item is_same items item = if list_any (λ other. is_same other item) items then items else items ++ item ∷ []

abbrev pub with_name : List (List ℕ) → List ℕ → List (List ℕ)
with_name names name = with_item bytes_eq names name

abbrev pub names_of : List ℕ → Option (List (List ℕ))
names_of list = option_map (fold with_name []) (all_of (map name_in (items_of list)))
