use Rattle.std.proofs.Common.{◌≡◌, ◌++◌, length, drop}
use Rattle.std.specs.List.{flat_map}
use Rattle.gate_text.specs.Reading.{lines_of, line_says}
use Rattle.gate_text.proofs.comment.spoken_lines.Given as goal

abbrev pub invariant-loop-line : goal.invariant-loop-line
invariant-loop-line l = l.spoken.items ++ flat_map line_says (drop (length l.yielded) (lines_of l.text)) ≡ flat_map line_says (lines_of l.text)
