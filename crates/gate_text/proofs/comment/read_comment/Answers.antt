use Rattle.std.proofs.Common.{◌≡◌, List, sym, ◌∙◌}
use Rattle.std.proofs.lemmas.Result.{IfOk-weaker}
use Rattle.gate_text.specs.Grammar.{CommentSays}
use Rattle.gate_text.specs.Limits.{KeepsLimits}
use Rattle.gate_text.specs.Reading.{comment_says}
use Rattle.std.specs.List.{All}
use Rattle.gate_text.specs.declared.command.Spoken.{Spoken}
use Rattle.gate_text.proofs.Grammars.{comment_said, comment_only}
use Rattle.gate_text.proofs.Limits.{comment_keeps}
use Rattle.gate_text.proofs.comment.read_comment.Goals as goal

pub returns-clause-said : goal.returns-clause-said
returns-clause-said c =
    let text = c.args.text.now in
    IfOk-weaker c.spoken_lines.result (λ spoken. spoken.items ≡ comment_says text) (λ spoken. CommentSays text spoken.items)
    (λ spoken is. rw is (comment_said text)) c.spoken_lines.ensures

pub returns-clause-only : goal.returns-clause-only
returns-clause-only c =
    let text = c.args.text.now in
    IfOk-weaker c.spoken_lines.result (λ spoken. spoken.items ≡ comment_says text) (λ spoken. (others : List Spoken) → CommentSays text others → others ≡ spoken.items)
    (λ spoken is others says. comment_only text others says ∙ sym is) c.spoken_lines.ensures

pub returns-clause-limits : goal.returns-clause-limits
returns-clause-limits c =
    let text = c.args.text.now in
    IfOk-weaker c.spoken_lines.result (λ spoken. spoken.items ≡ comment_says text) (λ spoken. All KeepsLimits spoken.items)
    (λ spoken is. comment_keeps text spoken.items (rw is (comment_said text))) c.spoken_lines.ensures
