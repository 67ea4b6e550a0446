use Rattle.std.proofs.Common.{◌≡◌, map}
use Rattle.std.proofs.lemmas.Result.{IfOk-weaker}
use Rattle.std.specs.List.{All}
use Rattle.gate_state.specs.declared.act.Act.TheVariants as act
use Rattle.gate_state.specs.declared.act.Deed.TheVariants.{Said}
use Rattle.gate_state.specs.Acts.{ActKeepsLimits}
use Rattle.gate_deliveries.proofs.ActLimits.{all_keep}
use Rattle.gate_deliveries.proofs.delivery.spoken_acts.Goals as goal

pub returns-clause-limits : goal.returns-clause-limits
returns-clause-limits c =
    let spoken = c.in_ok-spoken.spoken.items in
    let said = map (λ said. act.On c.args.change (Said c.args.person.now said)) spoken in
    let keep = all_keep c.args.change c.args.person.now spoken c.in_ok-spoken.ensures.limits in
    IfOk-weaker c.acts_for.result (λ acts. acts.items ≡ said) (λ acts. All ActKeepsLimits acts.items) (λ acts is. rw is keep) c.acts_for.ensures
