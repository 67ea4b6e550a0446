use Rattle.std.proofs.Common.{◌≡◌, true, ◌++◌, List, drop, take}
use Rattle.gate_state.specs.Room.{is_full}
use Rattle.gate_queue.specs.Before.{IsBefore}
use Rattle.gate_queue.specs.History.{Entry, Legal}
use Rattle.gate_store.specs.Headline.{Each, Tells}
use Rattle.gate_store.specs.Run.{replies_to, after_all, acts_meet_full}
use Rattle.gate_store.proofs.stepping.step_all.Given as goal

abbrev pub invariant-loop-act : goal.invariant-loop-act
invariant-loop-act l = record {
  told : l.replies ++ replies_to l.gate (drop l.act-index l.acts) ≡ replies_to l.fn.gate l.acts;
  full : acts_meet_full l.gate (drop l.act-index l.acts) ≡ acts_meet_full l.fn.gate l.acts;
  first : is_full l.fn.gate.queue ≡ true → l.gate ≡ l.fn.gate;
  led : after_all l.gate (drop l.act-index l.acts) ≡ after_all l.fn.gate l.acts;
  history : (history : List Entry) → Legal history l.fn.gate → Each Tells history l.fn.gate (take l.act-index l.acts);
  before : IsBefore l.before l.fn.gate l.gate;
  so_far : l.gate ≡ after_all l.fn.gate (take l.act-index l.acts);
}
