use Rattle.gate_answers.specs.Answers.{head_data}
use Rattle.gate_answers.specs.Limits.{IsHead}
use Rattle.gate_answers.proofs.Items.{written_next}
use Rattle.gate_answers.proofs.answers.heads_value.Goals as goal

pub loop-staged-preserved : goal.loop-staged-preserved
loop-staged-preserved c =
    let written = c.in_ok-head_value.ensures in
    written_next head_data IsHead c.args.heads.now c.loop-staged.staged-index c.staged-item.result c.staged-item.is c.loop-staged-test.true
    c.loop-staged.values.items _ _ c.in_ok-push.ensures.items c.loop-staged.invariant written.value written.good
