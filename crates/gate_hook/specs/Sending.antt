-- WHAT IS CUT OFF: only a part from the front of a text is written.
use Rattle.std.specs.Prelude.{ℕ, ◌<◌, List, length, take, Option}
use Rattle.std.specs.Io.KnownBytes.{Appends}

-- a part from the front of a text is written, but not all
abbrev pub IsCutOff : List ℕ → Option (List ℕ) → Option (List ℕ) → Type 0
IsCutOff text before after = (taken : ℕ) × (taken < length text) × Appends before after (take taken text)
