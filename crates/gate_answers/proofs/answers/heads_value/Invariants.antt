use Rattle.std.proofs.Common.{◌≡◌, map, take}
use Rattle.std.specs.List.{All}
use Rattle.serde_json.specs.View.{view}
use Rattle.gate_answers.specs.Answers.{head_data}
use Rattle.gate_answers.specs.Limits.{IsHead}
use Rattle.gate_answers.proofs.answers.heads_value.Given as goal

abbrev pub invariant-loop-staged : goal.invariant-loop-staged
invariant-loop-staged l = (map view l.values.items ≡ map head_data (take l.staged-index l.heads)) × All IsHead (take l.staged-index l.heads)
