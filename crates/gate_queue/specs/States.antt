-- EVERY STATE LEADS TO STATES: if the next number leaves room, an act that keeps its limits leaves a state.
use Rattle.gate_state.specs.State.{IsState}
use Rattle.gate_state.specs.declared.state.State.{State}
use Rattle.gate_state.specs.Acts.{ActKeepsLimits}
use Rattle.gate_state.specs.declared.act.Act.{Act}
use Rattle.gate_queue.specs.Machine.{after}
use Rattle.gate_state.specs.Room.{HasRoom}

abbrev pub LawOfStates : Type 0
LawOfStates = (s : State) (act : Act) → IsState s → HasRoom s.queue → ActKeepsLimits act → IsState (after s act)
