use Rattle.gate_text.specs.Reading.{comment_says}
use Rattle.gate_text.proofs.Grammars.{comment_said, comment_only}
use Rattle.gate_text.proofs.Limits.{comment_keeps}
use Rattle.gate_text.proofs.comment.one_reading.Goals as goal

pub returns : goal.returns
returns c = record { said = comment_said; only = comment_only; limits = λ text. comment_keeps text (comment_says text) (comment_said text) }
