use Rattle.std.specs.List.{All}
use Rattle.gate_answers.specs.Answers.{reply_data}
use Rattle.gate_answers.specs.Limits.{IsReply}
use Rattle.gate_answers.proofs.Items.{Begins}
use Rattle.gate_answers.proofs.finding.replies_in.Given as goal

abbrev pub invariant-loop-value : goal.invariant-loop-value
invariant-loop-value l = Begins reply_data IsReply l.values l.replies l.value-index × All IsReply l.replies
