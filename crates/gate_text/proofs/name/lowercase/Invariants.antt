use Rattle.std.proofs.Common.{◌≡◌, map, take}
use Rattle.std.specs.Char.{to_ascii_lowercase}
use Rattle.std.specs.String.{string_bytes}
use Rattle.gate_text.proofs.name.lowercase.Given as goal

abbrev pub invariant-loop-byte : goal.invariant-loop-byte
invariant-loop-byte l = string_bytes l.lower ≡ map to_ascii_lowercase (take l.byte-index l.text)
