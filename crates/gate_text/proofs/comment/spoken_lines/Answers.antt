use Rattle.std.proofs.Common.{◌∙◌, length, sym, lit<}
use Rattle.std.proofs.lemmas.Iterator.Consumers.{YieldsList-turn, YieldsList-end}
use Rattle.std.proofs.lemmas.Iterator.Splits.{YieldsList-from_str_split}
use Rattle.std.proofs.lemmas.List.{length_push}
use Rattle.gate_text.specs.Reading.{line_says, lines_of, comment_says}
use Rattle.gate_text.proofs.Lines.{flat_map-turn, flat_map-end}
use Rattle.gate_text.proofs.comment.spoken_lines.Goals as goal

pub loop-line-preserved : goal.loop-line-preserved
loop-line-preserved c =
    let from = c.into_iter-line-iterator.ensures.into_iter_gives in
    let lines = YieldsList-from_str_split {s = c.into_iter-line-iterator.result} 10 c.args.text.now (lit< tt)
    (rw from c.split-line-items.ensures.text) (rw from c.split-line-items.ensures.has_more) (rw from c.split-line-items.ensures.pattern) in
    let turn = YieldsList-turn lines c.loop-line.yielded _ c.loop-line.yielded_by _ c.next.new.self c.in-Some.line c.in-Some.is c.next.ensures.steps in
    rw (length_push c.loop-line.yielded c.in-Some.line, c.in_ok-push_line.ensures, c.as_bytes.ensures.value)
    (flat_map-turn line_says c.loop-line.spoken.items (lines_of c.args.text.now) (length c.loop-line.yielded) c.in-Some.line.now turn.0 turn.1
    ∙ c.loop-line.invariant)

pub returns : goal.returns
unfolding comment_says
returns c =
    let from = c.into_iter-line-iterator.ensures.into_iter_gives in
    let lines = YieldsList-from_str_split {s = c.into_iter-line-iterator.result} 10 c.args.text.now (lit< tt)
    (rw from c.split-line-items.ensures.text) (rw from c.split-line-items.ensures.has_more) (rw from c.split-line-items.ensures.pattern) in
    let end = YieldsList-end lines c.loop-line.yielded _ c.loop-line.yielded_by _ c.next.new.self c.in-None.is c.next.ensures.steps in
    sym (flat_map-end line_says c.loop-line.spoken.items (lines_of c.args.text.now) (length c.loop-line.yielded) end.1) ∙ c.loop-line.invariant
