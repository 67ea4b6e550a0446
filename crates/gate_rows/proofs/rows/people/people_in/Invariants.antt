use Rattle.std.proofs.Common.{◌≡◌, ◌++◌, map}
use Rattle.gate_rows.specs.Encoding.{person_row}
use Rattle.gate_rows.proofs.rows.people.people_in.Given as goal

-- what has a row, and what is left
abbrev pub invariant-loop-name : goal.invariant-loop-name
invariant-loop-name l = l.rows.items ++ map person_row l.name-iterator ≡ map person_row l.roles.entries
