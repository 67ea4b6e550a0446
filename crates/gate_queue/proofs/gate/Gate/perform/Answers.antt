use Rattle.std.proofs.Common.{◌≡◌, sym, subst, rules}
use Rattle.gate_queue.specs.Machine.{Step, after}
use Rattle.gate_state.specs.Room.{HasRoom}
use Rattle.gate_state.specs.State.{IsState}
use Rattle.gate_queue.specs.Vocabulary.{State}
use Rattle.gate_queue.proofs.Law.{tells}
use Rattle.gate_queue.proofs.States.{still_state}
use Rattle.gate_queue.proofs.gate.Gate.perform.Goals as goal

kept : (c : goal.In_ok-state) → IsState (after c.args.self c.args.judged.act.now)
kept c =
    let old : State = c.self.inside.state in
    let same : c.args.self ≡ old = search rules in
    let room : HasRoom old.queue = search rules in
    subst (λ (s : State). IsState (after s c.args.judged.act.now)) (sym same) (still_state old c.self.invariant room c.args.judged.act.now c.requires.limits)

stepped : (c : goal.In_ok-state) → Step c.args.self c.args.judged.act.now c.in_ok-state.reply c.in_ok-state.state
stepped c = search rules

pub returns-clause-history : goal.returns-clause-history
returns-clause-history c history legal =
    let step = stepped c in
    rw (step.0, step.1) (tells history c.args.self c.args.judged.act.now (kept c) legal)

pub invariant_of-result : goal.invariant_of-result
invariant_of-result c =
    let step = stepped c in
    rw step.1 (kept c)
