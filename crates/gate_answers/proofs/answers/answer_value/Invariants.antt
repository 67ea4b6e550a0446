use Rattle.std.proofs.Common.{◌≡◌, map, take}
use Rattle.std.specs.List.{All}
use Rattle.serde_json.specs.View.{view}
use Rattle.gate_answers.specs.Answers.{reply_data}
use Rattle.gate_answers.specs.Limits.{IsReply}
use Rattle.gate_answers.proofs.answers.answer_value.Given as goal

abbrev pub invariant-loop-reply : goal.invariant-loop-reply
invariant-loop-reply l = (map view l.replies.items ≡ map reply_data (take l.reply-index l.answer)) × All IsReply (take l.reply-index l.answer)
