use Rattle.std.specs.List.{All}
use Rattle.gate_answers.specs.Answers.{head_data}
use Rattle.gate_answers.specs.Limits.{IsHead}
use Rattle.gate_answers.proofs.Items.{Begins}
use Rattle.gate_answers.proofs.finding.heads_in.Given as goal

abbrev pub invariant-loop-value : goal.invariant-loop-value
invariant-loop-value l = Begins head_data IsHead l.values l.heads l.value-index × All IsHead l.heads
