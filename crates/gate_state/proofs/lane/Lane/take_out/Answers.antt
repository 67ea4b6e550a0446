use Rattle.std.proofs.Common.{◌≡◌, ℕ, Bool, ap, ◌∙◌}
use Rattle.gate_state.specs.Lanes as lanes
use Rattle.gate_state.proofs.lane.Lane.take_out.Goals as goal

pub returns-in-Some-clause-lane : goal.returns-in-Some-clause-lane
returns-in-Some-clause-lane g c =
    let stays : ℕ → Bool = λ change. g.C.Choice.chooses change c.args.choice.now in
    let waiting : c.leave.new.waiting.items ≡ lanes.left stays c.args.self.waiting = c.leave.ensures ∙ ap (lanes.left stays) c.into_vec-waiting.ensures.value in
    rw (c.in-Some.is, ← waiting) c.take_from_running.ensures.lane
