use Rattle.std.proofs.lemmas.List.Elements.{All-push}
use Rattle.gate_answers.specs.Answers.{head_data}
use Rattle.gate_answers.specs.Limits.{IsHead}
use Rattle.gate_answers.proofs.Items.{begins_more, found_all, none_found}
use Rattle.gate_answers.proofs.finding.heads_in.Goals as goal

pub returns-in_err-head_in-clause-again : goal.returns-in_err-head_in-clause-again
returns-in_err-head_in-clause-again c =
    none_found head_data IsHead c.args.values.now c.loop-value.heads c.loop-value.value-index c.loop-value.invariant.0
    c.value-item.result c.value-item.is c.loop-value-test.true _ _ c.from_residual.ensures.1 c.in_err-head_in.ensures.again

pub loop-value-preserved : goal.loop-value-preserved
loop-value-preserved c =
    rw c.in_ok-push.ensures.ok (
      begins_more head_data IsHead c.args.values.now c.loop-value.heads c.loop-value.value-index c.loop-value.invariant.0
          c.value-item.result c.value-item.is c.loop-value-test.true _ c.in_ok-head_in.ensures.again,
      All-push IsHead _ _ c.loop-value.invariant.1 c.in_ok-head_in.ensures.good,
    )

pub returns-clause-again : goal.returns-clause-again
returns-clause-again c =
    found_all head_data IsHead c.args.values.now c.loop-value.heads c.loop-value.value-index c.loop-value.invariant.0 c.loop-value-test.false
