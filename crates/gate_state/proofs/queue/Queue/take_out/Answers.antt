use Rattle.std.proofs.Common.{◌≡◌, ℕ, ◌+◌, Bool, refl, ◌∙◌, ap}
use Rattle.gate_state.specs.Lanes as lanes
use Rattle.gate_state.specs.Queue.{lane_of, other_lane, of_lanes, with_lane}
use Rattle.gate_state.specs.declared.batch.Branch.{Branch}
use Rattle.gate_state.specs.declared.batch.Branch.TheVariants.{Staging, Trying}
use Rattle.gate_state.specs.declared.lane.Lane.{Lane}
use Rattle.gate_state.specs.declared.queue.Queue.{Queue}
use Rattle.gate_state.proofs.queue.Queue.take_out.Goals as goal

-- the other lane stays beside this one
beside : (branch : Branch) (lane : Lane) (used : ℕ) (queue : Queue) → of_lanes branch lane (other_lane branch queue) (queue.next + used) ≡ with_lane branch lane used queue
beside Staging lane used queue = refl
beside Trying lane used queue = refl

pub returns : goal.returns
returns g c =
    let stays : ℕ → Bool = λ change. g.C.Choice.chooses change c.args.choice.now in
    let queue : Queue = c.args.self in
    let branch : Branch = c.args.branch in
    let lane : c.in_ok-lane.lane ≡ lanes.taken_out stays queue.next (lane_of branch queue) =
    c.in_ok-lane.ensures.lane ∙ ap (lanes.taken_out stays queue.next) c.lanes_of-lane.ensures.lane in
    let used : c.in_ok-lane.used ≡ lanes.taken_out_uses stays (lane_of branch queue) =
    c.in_ok-lane.ensures.uses ∙ ap (lanes.taken_out_uses stays) c.lanes_of-lane.ensures.lane in
    record { value = rw (c.of_lanes.ensures, lane, used, c.lanes_of-lane.ensures.other) (beside branch _ _ queue) }
