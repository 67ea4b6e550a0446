-- For private clauses: AN INDEX of changes by their heads, beside the changes of the desk. No contract shows it.
use Rattle.std.specs.Prelude.{◌≡◌, ℕ, ◌==◌, Bool, false, ◌&&◌, List, Option, Some, None, if◌then◌else◌}
use Rattle.std.specs.BTreeMap as tree
use Rattle.std.specs.BTreeSet as tree_set
use Rattle.std.specs.BTreeSet.{BTreeSet}
use Rattle.std.specs.Cmp.Lexicographic.{slice_cmp}
use Rattle.std.specs.FinMap as map
use Rattle.std.specs.FinMap.{FinMap}
use Rattle.std.specs.Option.{option_and_then, option_map_or}
use Rattle.std.specs.Ordering.{nat_cmp}
use Rattle.std.specs.Str.{bytes_eq}
use Rattle.gate_rules.specs.Rules.{is_open_phase}
use Rattle.gate_rules.specs.declared.change.Change.{Change}
use Rattle.gate_rules.specs.declared.heads.Heads.{Heads}

-- whether a number stands among those of a head
abbrev pub among : ℕ → Option (BTreeSet ℕ) → Bool
among number numbers = option_map_or (λ found. tree_set.contains nat_cmp found number) numbers false

abbrev pub has : Heads → List ℕ → ℕ → Bool
has heads head number = among number (tree.get (slice_cmp nat_cmp) heads.numbers head)

-- whether this is that place
abbrev pub is_place : List ℕ → ℕ → List ℕ → ℕ → Bool
is_place head number other n = bytes_eq other head && (n == number)

-- the head of a change, if it is open
abbrev pub open_head : Change → Option (List ℕ)
open_head change = if is_open_phase change.phase then Some change.head else None

abbrev pub open_head_at : FinMap nat_cmp Change → ℕ → Option (List ℕ)
open_head_at changes number = option_and_then open_head (map.get changes number)

abbrev pub is_head : Option (List ℕ) → List ℕ → Bool
is_head None other = false
is_head (Some head) other = bytes_eq other head

-- Each open change stands under its head, and nothing else stands there.
abbrev pub IsIndexOf : FinMap nat_cmp Change → Heads → Type 0
IsIndexOf changes heads = (head : List ℕ) (number : ℕ) → has heads head number ≡ is_head (open_head_at changes number) head
