-- THE LIMITS that everything keeps which a comment says.
use Rattle.std.specs.Prelude.{◌≤◌, ◌≤ℤ◌, ℕ, ℤ, pos, neg_ℤ, List, length, ⊤}
use Rattle.std.specs.List.{IsDistinct}
use Rattle.std.specs.Str.{bytes_eq}
use Rattle.gate_text.specs.declared.command.Command.{Command}
use Rattle.gate_text.specs.declared.command.Command.TheVariants.{ApproveFor, DelegateTo, Priority}
use Rattle.gate_text.specs.declared.command.Spoken.{Spoken}
use Rattle.gate_text.specs.declared.command.Spoken.TheVariants.{Known, Unknown}

-- from -9999 to 9999
abbrev pub IsPriority : ℤ → Type 0
IsPriority priority = (neg_ℤ (pos 9999) ≤ℤ priority) × (priority ≤ℤ pos 9999)

-- one or more names, no two the same
abbrev pub AreNames : List (List ℕ) → Type 0
AreNames names = (1 ≤ length names) × IsDistinct bytes_eq names

abbrev pub CommandKeepsLimits : Command → Type 0
CommandKeepsLimits (ApproveFor names) = AreNames names
CommandKeepsLimits (DelegateTo names) = AreNames names
CommandKeepsLimits (Priority priority) = IsPriority priority
CommandKeepsLimits _ = ⊤

abbrev pub KeepsLimits : Spoken → Type 0
KeepsLimits (Known command) = CommandKeepsLimits command
KeepsLimits Unknown = ⊤
