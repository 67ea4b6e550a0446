use Rattle.std.proofs.Common.{◌≡◌, length, drop}
use Rattle.std.specs.FinSet as set
use Rattle.gate_text.specs.Arguments.{items_of, name_in, with_name, names_of}
use Rattle.std.specs.List.{fold}
use Rattle.gate_text.proofs.Lists.{rest_read}
use Rattle.gate_text.proofs.argument.names_of.Given as goal

abbrev pub invariant-loop-item : goal.invariant-loop-item
invariant-loop-item l =
    (rest_read name_in (fold with_name) l.names.items (drop (length l.yielded) (items_of l.list)) ≡ names_of l.list) × (l.known ≡ set.from_list l.names.items)
