use Rattle.std.proofs.Common.{◌≡◌, sym, subst, rules}
use Rattle.gate_queue.specs.Machine.{empty_state}
use Rattle.gate_state.specs.State.{IsState}
use Rattle.gate_queue.specs.Vocabulary.{State}
use Rattle.gate_queue.proofs.States.{empty_is_state}
use Rattle.gate_queue.proofs.gate.Gate.starting_at.Goals as goal

pub invariant_of-result : goal.invariant_of-result
invariant_of-result c =
    let made : State = record { desk = c.new.result; queue = c.new-2.result } in
    let same : made ≡ empty_state c.args.next = search rules in
    subst IsState (sym same) (empty_is_state c.args.next c.requires.low c.requires.high)
