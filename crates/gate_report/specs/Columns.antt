-- COLUMNS: texts in places of some width, and lines. A text that is longer than its place isn't cut.
use Rattle.std.specs.Prelude.{ℕ, ◌-◌, List, ◌++◌, length, codes}
use Rattle.std.specs.List.{repeat}

-- each line ends so: with LF alone
abbrev pub line_end : List ℕ
line_end = codes "\n"

-- the spaces that a text leaves of its places
abbrev pub spaces_beside : ℕ → List ℕ → List ℕ
spaces_beside places text = repeat (places - length text) (codes " ")

abbrev pub left : ℕ → List ℕ → List ℕ
left places text = text ++ spaces_beside places text

abbrev pub right : ℕ → List ℕ → List ℕ
right places text = spaces_beside places text ++ text

-- the line of a name and a value
abbrev pub field : List ℕ → List ℕ → List ℕ
field name value = name ++ (codes " " ++ (value ++ line_end))
