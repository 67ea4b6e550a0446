-- Spaces in a text. The one byte that counts as a space is 32.
use Rattle.std.specs.Prelude.{ℕ, ◌==◌, ◌&&◌, List, [], ◌∷◌, length, Option, if◌then◌else◌}
use Rattle.gate_text.specs.LastWhere.{last_where}

abbrev pub trim_start : List ℕ → List ℕ
trim_start [] = []
trim_start (b ∷ bs) = if b == 32 then trim_start bs else b ∷ bs

abbrev pub trim_end : List ℕ → List ℕ
trim_end [] = []
trim_end (b ∷ bs) = if (b == 32) && (length (trim_end bs) == 0) then [] else b ∷ trim_end bs

abbrev pub trim : List ℕ → List ℕ
trim bs = trim_end (trim_start bs)

-- the place of the last space
abbrev pub last_space : List ℕ → Option ℕ
last_space bs = last_where (λ b. b == 32) bs
